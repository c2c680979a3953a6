use Rattle.std.proofs.Common.{of_z, to_z, w64, ◌-ℤ◌, ◌≡◌}
use Rattle.std.proofs.lemmas.Int.{to_z-of_z}
use Rattle.std.specs.Prelude.{◌*ℤ◌}
use Rattle.mb_eval_expr.proofs.Joining.{no-arithmetic}
use Rattle.mb_eval_expr.proofs.binary.wholes.Goals as goal

pub returns-in-Minus-clause-row : goal.returns-in-Minus-clause-row
returns-in-Minus-clause-row c = λ home d f.
    let ra : to_z w64 (of_z w64 c.args.a) ≡ c.args.a = to_z-of_z w64 c.args.a c.ranges.a in
    let rb : to_z w64 (of_z w64 c.args.b) ≡ c.args.b = to_z-of_z w64 c.args.b c.ranges.b in
    rw c.in-Minus.is (c.whole.ensures.row home d f (c.args.a -ℤ c.args.b) (rw (ra, rb) at c.checked_sub.ensures))

pub returns-in-Times-clause-row : goal.returns-in-Times-clause-row
returns-in-Times-clause-row c = λ home d f.
    let ra : to_z w64 (of_z w64 c.args.a) ≡ c.args.a = to_z-of_z w64 c.args.a c.ranges.a in
    let rb : to_z w64 (of_z w64 c.args.b) ≡ c.args.b = to_z-of_z w64 c.args.b c.ranges.b in
    rw c.in-Times.is
    (c.whole-in-Times.ensures.row home d f (c.args.a *ℤ c.args.b) (rw (ra, rb) at c.checked_mul.ensures))

pub returns-in-Slash-clause-row : goal.returns-in-Slash-clause-row
returns-in-Slash-clause-row c = λ home d f.
    let ra : to_z w64 (of_z w64 c.args.a) ≡ c.args.a = to_z-of_z w64 c.args.a c.ranges.a in
    let rb : to_z w64 (of_z w64 c.args.b) ≡ c.args.b = to_z-of_z w64 c.args.b c.ranges.b in
    rw c.in-Slash.is (rw (ra, rb) at (c.divided.ensures.row home d f))

pub returns-in-Percent-clause-row : goal.returns-in-Percent-clause-row
returns-in-Percent-clause-row c = λ home d f.
    let ra : to_z w64 (of_z w64 c.args.a) ≡ c.args.a = to_z-of_z w64 c.args.a c.ranges.a in
    let rb : to_z w64 (of_z w64 c.args.b) ≡ c.args.b = to_z-of_z w64 c.args.b c.ranges.b in
    rw c.in-Percent.is (rw (ra, rb) at (c.remainder.ensures.row home d f))

pub returns-in_default-clause-row : goal.returns-in_default-clause-row
returns-in_default-clause-row c =
    absurd (no-arithmetic c.args.sign c.requires c.in_default.not-Minus c.in_default.not-Times c.in_default.not-Slash
    c.in_default.not-Percent)
