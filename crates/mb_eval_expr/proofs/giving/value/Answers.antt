use Rattle.mb_frames.proofs.Keeping.{leaves-value}
use Rattle.mb_eval_expr.proofs.giving.value.Goals as goal

pub returns-clause-leaves : goal.returns-clause-leaves
returns-clause-leaves c = λ home d r i h. leaves-value d home c.args.x h.0
