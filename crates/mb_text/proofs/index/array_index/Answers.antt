use Rattle.std.proofs.Common.{arith, rules, sym, inl, inr, ◌≡◌, ◌<◌, get_or, length, min}
use Rattle.mb_text.proofs.Indices.{no_index_by_length, no_index_by_zero, no_index_by_digits, index_of-min}
use Rattle.mb_text.proofs.index.array_index.Goals.{then-is_empty-via-then-is_empty, then-is_empty-via-else-is_empty+then-units-gt-MOST_DIGITS, else-units-eq-ZERO-via-then-units-eq-ZERO+else-units-gt1, else-units-eq-ZERO-via-else-units-eq-ZERO}
use Rattle.mb_text.proofs.index.array_index.Goals as goal

pub returns-then-is_empty : goal.returns-then-is_empty
returns-then-is_empty c = sym (no_index_by_length c.args.units.now (elim c.then-is_empty.branch [
  | then-is_empty-via-then-is_empty w ↦ inl (search rules)
  | then-is_empty-via-else-is_empty+then-units-gt-MOST_DIGITS w ↦ inr w.if-units-gt-MOST_DIGITS.true
]))

pub returns-then-units-gt1 : goal.returns-then-units-gt1
returns-then-units-gt1 c = sym (no_index_by_zero c.args.units.now c.if-units-eq-ZERO.true c.if-units-gt1.true)

pub returns-in-Some : goal.returns-in-Some
returns-in-Some c =
    let some : 0 < length c.args.units.now = search rules in
    let alone : get_or c.args.units.now 0 0 ≡ 48 → length c.args.units.now ≡ 1 = elim c.else-units-eq-ZERO.branch [
      | else-units-eq-ZERO-via-then-units-eq-ZERO+else-units-gt1 w ↦ λ zero. omega (arith, w.if-units-gt1.false, some)
      | else-units-eq-ZERO-via-else-units-eq-ZERO w ↦ λ zero. absurd (w.if-units-eq-ZERO.false zero)
    ] in
    let n = c.in-Some.ensures in
    let is = index_of-min c.args.units.now n.0 some alone in
    let least : c.min.result ≡ min c.in-Some.n c.from.result = search rules in
    omega (arith, least, c.from.ensures, n.1, is)

pub returns-in-None : goal.returns-in-None
returns-in-None c = sym (no_index_by_digits c.args.units.now c.in-None.ensures)
