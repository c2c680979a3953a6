use Rattle.std.proofs.Common.{pos, ◌+ℤ◌, ◌-ℤ◌, ◌≡◌, of_z, rules, to_z, w64}
use Rattle.mb_eval_expr.proofs.Arithmetic.{no-whole, wrong-type}
use Rattle.mb_model.specs.Nodes.Assignments.{stepped}
use Rattle.mb_model.specs.Operations.Conversions.{whole}
use Rattle.mb_model.specs.Writing.{◌>>=◌, is_value}
use Rattle.mb_world.specs.Image.{Resolve, names_of}
use Rattle.mb_world.specs.Value.{whole_of}
use Rattle.mb_eval_expr.proofs.computing.stepped.Goals as goal

pub returns-then-plus-clause-row : goal.returns-then-plus-clause-row
returns-then-plus-clause-row c = λ home d f h.
    let r : to_z w64 (of_z w64 c.in-Whole.z) ≡ c.in-Whole.z = search rules in
    rw (c.in-Whole.is, c.if-plus.true) (c.whole.ensures.row home d f (c.in-Whole.z +ℤ pos 1)
    (rw r at c.checked_add.ensures))

pub returns-else-plus-clause-row : goal.returns-else-plus-clause-row
returns-else-plus-clause-row c = λ home d f h.
    let r : to_z w64 (of_z w64 c.in-Whole.z) ≡ c.in-Whole.z = search rules in
    rw (c.in-Whole.is, c.if-plus.false) (c.whole-else-plus.ensures.row home d f (c.in-Whole.z -ℤ pos 1)
    (rw r at c.checked_sub.ensures))

pub returns-in_default-clause-row : goal.returns-in_default-clause-row
returns-in_default-clause-row c = λ home d f h.
    wrong-type home d f (whole_of (Resolve (names_of d) c.args.x))
    (λ z. whole home (stepped c.args.plus z) >>= is_value)
    (no-whole (names_of d) c.args.x c.in_default.not-Whole)
