use Rattle.mb_eval_expr.proofs.Keeping.{waits-asks}
use Rattle.std.proofs.Common.{refl, true}
use Rattle.mb_frames.proofs.Steps.{Sure-wait}
use Rattle.mb_frames.specs.declared.expressions.ExprFrame.TheVariants as e
use Rattle.mb_frames.specs.declared.frame.Frame.TheVariants as x
use Rattle.mb_frames.specs.declared.task.Method.TheVariants as m
use Rattle.mb_frames.specs.declared.task.Task.TheVariants as t
use Rattle.mb_eval_expr.proofs.operators.chain.Goals as goal

pub returns-clause-row : goal.returns-clause-row
returns-clause-row c = λ d o p.
    rw c.asks.ensures (Sure-wait c.args.home d (x.Expr (e.Chain c.args.prototype))
    (t.Perform m.GetPrototypeOf c.args.object c.args.home true) _ _ (λ log. refl) tt (λ q g. refl) (p, (o, tt)))

pub returns-clause-leaves : goal.returns-clause-leaves
returns-clause-leaves c = λ d r i h.
    rw c.asks.ensures (waits-asks d c.args.home (e.Chain c.args.prototype) m.GetPrototypeOf c.args.object refl
    (h.1.0, tt) h.0 tt)
