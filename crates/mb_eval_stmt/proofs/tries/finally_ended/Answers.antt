use Rattle.mb_frames.proofs.Keeping.{leaves-any}
use Rattle.mb_eval_stmt.proofs.tries.finally_ended.Goals as goal

pub returns-in-Normal-clause-leaves : goal.returns-in-Normal-clause-leaves
returns-in-Normal-clause-leaves c = λ home d h k. leaves-any d home c.args.outcome h

pub returns-in_default-clause-leaves : goal.returns-in_default-clause-leaves
returns-in_default-clause-leaves c = λ home d h k. leaves-any d home c.args.ending k
