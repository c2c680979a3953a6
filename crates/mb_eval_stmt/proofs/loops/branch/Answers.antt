use Rattle.mb_frames.specs.declared.task.Task.TheVariants as task
use Rattle.mb_eval_stmt.proofs.Leaving.{begins, ends-nothing, node-of-if}
use Rattle.mb_frames.proofs.Keeping.{leaves-next}
use Rattle.mb_eval_stmt.proofs.loops.branch.Goals as goal

pub returns-then-test-clause-leaves : goal.returns-then-test-clause-leaves
returns-then-test-clause-leaves c = λ home d h.
    leaves-next d home (task.Evaluate c.args.main c.args.at)
    (begins d home c.args.main c.args.at (h.0, (h.1.0, tt)) h.1.1.0.sound) tt

pub returns-in-Some-clause-leaves : goal.returns-in-Some-clause-leaves
returns-in-Some-clause-leaves c = λ home d h.
    let k = rw c.in-Some.is at h in
    leaves-next d home (task.Evaluate c.in-Some.other c.args.at)
    (begins d home c.in-Some.other c.args.at (h.0, (h.1.0, tt)) (node-of-if d home c.in-Some.other k.1.1.1.0)) tt

pub returns-in-None-clause-leaves : goal.returns-in-None-clause-leaves
returns-in-None-clause-leaves c = λ home d h. ends-nothing d home
