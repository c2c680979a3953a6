use Rattle.std.proofs.Common.{false, of_z, refl, sym, to_z, true, w64, ◌≡◌}
use Rattle.std.proofs.lemmas.Int.{to_z-of_z}
use Rattle.std.specs.Prelude.{FitsSigned}
use Rattle.mb_eval_expr.proofs.Dividing.{zero-no, zero-yes}
use Rattle.mb_eval_expr.proofs.Joining.{out-of-range}
use Rattle.mb_model.specs.Nodes.BinaryOperators.{is_zero, remainder}
use Rattle.mb_eval_expr.proofs.binary.remainder.Goals as goal

pub returns-then-b-eq0-clause-row : goal.returns-then-b-eq0-clause-row
returns-then-b-eq0-clause-row c = λ home d f.
    let i : is_zero c.args.b ≡ true = zero-yes c.args.b c.ranges.b c.if-b-eq0.true in
    out-of-range home d f (remainder home c.args.a c.args.b) (rw i refl)

pub returns-else-b-eq0-clause-row : goal.returns-else-b-eq0-clause-row
returns-else-b-eq0-clause-row c = λ home d f.
    let i : is_zero c.args.b ≡ false = zero-no c.args.b c.if-b-eq0.false in
    let ra : to_z w64 (of_z w64 c.args.a) ≡ c.args.a = to_z-of_z w64 c.args.a c.ranges.a in
    let rb : to_z w64 (of_z w64 c.args.b) ≡ c.args.b = to_z-of_z w64 c.args.b c.ranges.b in
    let q = rw (ra, rb) at c.wrapping_rem.ensures in
    let s : FitsSigned w64 c.wrapping_rem.result = record { sfits = c.wrapping_rem.type_inv } in
    let u : to_z w64 (of_z w64 c.wrapping_rem.result) ≡ c.wrapping_rem.result = to_z-of_z w64 c.wrapping_rem.result s in
    rw (i, sym q) (rw u at (c.whole.ensures.row home d f c.wrapping_rem.result) (s, refl))
