use Rattle.std.proofs.Common.{of_z, rules, to_z, w64, ◌≡◌}
use Rattle.mb_eval_expr.proofs.Arithmetic.{no-whole}
use Rattle.mb_eval_expr.proofs.Joining.{arithmetic-left, wrong-type-at}
use Rattle.mb_model.specs.Nodes.BinaryOperators.{operate}
use Rattle.mb_world.specs.Image.{Resolve, names_of}
use Rattle.mb_eval_expr.proofs.binary.arithmetic.Goals as goal

pub returns-in-Whole-b-clause-row : goal.returns-in-Whole-b-clause-row
returns-in-Whole-b-clause-row c = λ home d f.
    let ra : to_z w64 (of_z w64 c.in-Whole.x) ≡ c.in-Whole.x = search rules in
    let rb : to_z w64 (of_z w64 c.in-Whole-b.y) ≡ c.in-Whole-b.y = search rules in
    rw (c.in-Whole.is, c.in-Whole-b.is) (rw (ra, rb) at (c.wholes.ensures.row home d f))

pub returns-in_default-clause-row : goal.returns-in_default-clause-row
returns-in_default-clause-row c = λ home d f.
    let n = names_of d in
    wrong-type-at home d f (operate home c.args.sign (Resolve n c.args.a) (Resolve n c.args.b))
    (arithmetic-left home c.args.sign (Resolve n c.args.a) (Resolve n c.args.b) c.requires
    (no-whole n c.args.a c.in_default.not-Whole))
