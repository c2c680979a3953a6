use Rattle.std.proofs.Common.{false, of_z, refl, sym, to_z, true, w64, ◌∙◌, ◌≡◌, ap}
use Rattle.std.proofs.lemmas.Int.{to_z-of_z}
use Rattle.std.specs.Int.{IsNonZero}
use Rattle.std.specs.Prelude.{FitsSigned, int_div, int_rem}
use Rattle.mb_eval_expr.proofs.Dividing.{known-first, non-zero, zero-no, zero-yes}
use Rattle.mb_eval_expr.proofs.Joining.{out-of-range}
use Rattle.mb_model.specs.Nodes.BinaryOperators.{divided, is_zero}
use Rattle.mb_eval_expr.proofs.binary.divided.Goals as goal

pub returns-then-b-eq0-clause-row : goal.returns-then-b-eq0-clause-row
returns-then-b-eq0-clause-row c = λ home d f.
    let i : is_zero c.args.b ≡ true = zero-yes c.args.b c.ranges.b c.if-b-eq0.true in
    out-of-range home d f (divided home c.args.a c.args.b) (rw i refl)

pub returns-then-wrapping_rem-eq0-clause-row : goal.returns-then-wrapping_rem-eq0-clause-row
returns-then-wrapping_rem-eq0-clause-row c = λ home d f.
    let i : is_zero c.args.b ≡ false = zero-no c.args.b c.if-b-eq0.false in
    let ra : to_z w64 (of_z w64 c.args.a) ≡ c.args.a = to_z-of_z w64 c.args.a c.ranges.a in
    let rb : to_z w64 (of_z w64 c.args.b) ≡ c.args.b = to_z-of_z w64 c.args.b c.ranges.b in
    let q = rw (ra, rb) at c.wrapping_rem.ensures in
    let k : is_zero (int_rem c.args.a c.args.b) ≡ true
    = ap is_zero (sym q) ∙ zero-yes c.wrapping_rem.result (record { sfits = c.wrapping_rem.type_inv })
    c.if-wrapping_rem-eq0.true in
    rw (i, k) (c.whole.ensures.row home d f (int_div c.args.a c.args.b)
    (known-first c.checked_div.result (IsNonZero w64 c.args.b) (FitsSigned w64 (int_div c.args.a c.args.b))
    (int_div c.args.a c.args.b)
    (non-zero c.args.b c.if-b-eq0.false) (rw (ra, rb) at c.checked_div.ensures)))

pub returns-else-wrapping_rem-eq0-clause-row : goal.returns-else-wrapping_rem-eq0-clause-row
returns-else-wrapping_rem-eq0-clause-row c = λ home d f.
    let i : is_zero c.args.b ≡ false = zero-no c.args.b c.if-b-eq0.false in
    let ra : to_z w64 (of_z w64 c.args.a) ≡ c.args.a = to_z-of_z w64 c.args.a c.ranges.a in
    let rb : to_z w64 (of_z w64 c.args.b) ≡ c.args.b = to_z-of_z w64 c.args.b c.ranges.b in
    let q = rw (ra, rb) at c.wrapping_rem.ensures in
    let k : is_zero (int_rem c.args.a c.args.b) ≡ false
    = ap is_zero (sym q) ∙ zero-no c.wrapping_rem.result c.if-wrapping_rem-eq0.false in
    out-of-range home d f (divided home c.args.a c.args.b) (rw (i, k) refl)
