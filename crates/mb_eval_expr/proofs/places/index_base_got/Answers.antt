use Rattle.mb_eval_expr.proofs.Keeping.{waits-node}
use Rattle.std.proofs.Common.{refl}
use Rattle.mb_eval_expr.proofs.Referring.{all-append}
use Rattle.mb_frames.proofs.Steps.{Sure-wait}
use Rattle.mb_frames.specs.Held.{HeldIn}
use Rattle.mb_frames.specs.Holding.{frame_held, task_held}
use Rattle.mb_frames.specs.declared.expressions.ExprFrame.TheVariants as e
use Rattle.mb_frames.specs.declared.frame.Frame.{Frame}
use Rattle.mb_frames.specs.declared.frame.Frame.TheVariants as x
use Rattle.mb_frames.specs.declared.task.Task.{Task}
use Rattle.mb_frames.specs.declared.task.Task.TheVariants as t
use Rattle.mb_eval_expr.proofs.places.index_base_got.Goals as goal

pub returns-clause-row : goal.returns-clause-row
returns-clause-row c = λ home d a r o.
    let y : Frame = x.Expr (e.IndexKey c.args.at c.args.base c.args.after) in
    let k : Task = t.Evaluate c.args.key c.args.at in
    Sure-wait home d y k _ _ (λ log. refl) tt (λ q g. refl)
    (all-append (HeldIn d) (frame_held y) (task_held k) (a.0, (a.1, (o, r))) (a.0, (a.1, (tt, tt))))

pub returns-clause-leaves : goal.returns-clause-leaves
returns-clause-leaves c = λ home d r i h.
    waits-node d home (e.IndexKey c.args.at c.args.base c.args.after) c.args.key c.args.at refl
    (h.1.0, (h.1.1.0, (h.0, h.1.1.1.1))) (h.1.0, (h.1.1.0, tt)) h.1.1.1.0
