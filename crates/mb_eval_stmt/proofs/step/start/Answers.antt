use Rattle.mb_frames.proofs.Steps.{Step-sure}
use Rattle.mb_frames.specs.Resolved.{task_in}
use Rattle.mb_frames.specs.declared.task.Task.TheVariants as t
use Rattle.mb_model.specs.Meaning.{row}
use Rattle.mb_world.specs.Image.{names_of}
use Rattle.mb_eval_stmt.proofs.Keeping.{keeps-same}
use Rattle.mb_eval_stmt.proofs.step.start.Goals as goal

pub returns-in-Evaluate-clause-row : goal.returns-in-Evaluate-clause-row
returns-in-Evaluate-clause-row c = λ begun l. rw c.in-Evaluate.is (c.evaluate.ensures.row begun l)

pub returns-in-Loop-clause-row : goal.returns-in-Loop-clause-row
returns-in-Loop-clause-row c = λ begun l.
    let d = c.args.w.now in
    rw c.in-Loop.is
    (Step-sure c.args.home begun d (row (task_in (names_of d) c.args.home.0 (t.Loop c.in-Loop.node c.in-Loop.at)))
    c.loop_row.result
    c.args.fuel.now l c.loop_row.ensures.row)

pub returns-in-Evaluate-clause-keeps : goal.returns-in-Evaluate-clause-keeps
returns-in-Evaluate-clause-keeps c = λ r i h.
    let g = rw c.in-Evaluate.is at h in
    c.evaluate.ensures.keeps r i (g.0, (g.1.0, tt))

pub returns-in-Loop-clause-keeps : goal.returns-in-Loop-clause-keeps
returns-in-Loop-clause-keeps c = λ r i h.
    let g = rw c.in-Loop.is at h in
    keeps-same c.args.home c.args.w.now c.loop_row.result r (c.loop_row.ensures.leaves (g.0, (g.1.0, tt)))
