use Rattle.mb_frames.specs.declared.expressions.ExprFrame.TheVariants as e
use Rattle.std.proofs.Common.{refl}
use Rattle.mb_eval_expr.proofs.Keeping.{waits-node}
use Rattle.mb_eval_expr.proofs.operators.left_got.Goals as goal

pub returns-clause-leaves : goal.returns-clause-leaves
returns-clause-leaves c = λ home d r i h.
    waits-node d home (e.Right c.args.sign c.args.x) c.args.right c.args.at refl (h.0, tt) (h.1.0, (h.1.1.0, tt))
    h.1.1.1.0
