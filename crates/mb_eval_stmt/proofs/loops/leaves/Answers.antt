use Rattle.mb_frames.specs.declared.task.Outcome.TheVariants as o
use Rattle.mb_eval_stmt.proofs.Leaving.{ends-nothing}
use Rattle.mb_frames.proofs.Keeping.{leaves-any}
use Rattle.mb_eval_stmt.proofs.loops.leaves.Goals as goal

pub returns-in-Break-clause-leaves : goal.returns-in-Break-clause-leaves
returns-in-Break-clause-leaves c = λ home d h. ends-nothing d home

pub returns-in-Throw-clause-leaves : goal.returns-in-Throw-clause-leaves
returns-in-Throw-clause-leaves c = λ home d h. leaves-any d home (o.Throw c.in-Throw.x) (rw c.in-Throw.is at h)

pub returns-in-Return-clause-leaves : goal.returns-in-Return-clause-leaves
returns-in-Return-clause-leaves c = λ home d h. leaves-any d home (o.Return c.in-Return.x) (rw c.in-Return.is at h)
