use Rattle.mb_frames.proofs.Keeping.{leaves-expression}
use Rattle.mb_eval_expr.proofs.giving.evaluates.Goals as goal

pub returns-clause-leaves : goal.returns-clause-leaves
returns-clause-leaves c = λ home d r i h. leaves-expression d home c.args.node c.args.at h.1 h.0
