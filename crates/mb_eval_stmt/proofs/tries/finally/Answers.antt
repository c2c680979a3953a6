use Rattle.std.proofs.Common.{refl}
use Rattle.mb_frames.specs.declared.statements.StmtFrame.TheVariants as y
use Rattle.mb_eval_stmt.proofs.Leaving.{node-of-if, waits-any}
use Rattle.mb_frames.proofs.Keeping.{leaves-any}
use Rattle.mb_eval_stmt.proofs.tries.finally.Goals as goal

pub returns-in-Some-clause-leaves : goal.returns-in-Some-clause-leaves
returns-in-Some-clause-leaves c = λ home d h k.
    let q = rw c.in-Some.is at h in
    waits-any d home (y.Ending c.args.outcome) c.in-Some.ending c.args.at refl k (h.0, (h.1.0, tt))
    (node-of-if d home c.in-Some.ending q.1.1.0)

pub returns-in-None-clause-leaves : goal.returns-in-None-clause-leaves
returns-in-None-clause-leaves c = λ home d h k. leaves-any d home c.args.outcome k
