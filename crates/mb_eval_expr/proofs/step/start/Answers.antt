use Rattle.mb_frames.proofs.Steps.{Step-sure}
use Rattle.mb_frames.specs.Resolved.{task_in}
use Rattle.mb_frames.specs.declared.task.Task.TheVariants as t
use Rattle.mb_model.specs.Meaning.{row}
use Rattle.mb_world.specs.Image.{names_of}
use Rattle.mb_eval_expr.proofs.Keeping.{kept-left}
use Rattle.mb_eval_expr.proofs.step.start.Goals as goal

pub returns-in-Evaluate-clause-row : goal.returns-in-Evaluate-clause-row
returns-in-Evaluate-clause-row c = λ begun l. rw c.in-Evaluate.is (c.begin.ensures.row begun l)

pub returns-in-Chain-clause-row : goal.returns-in-Chain-clause-row
returns-in-Chain-clause-row c = λ begun l.
    let d = c.args.w.now in
    let h = rw c.in-Chain.is at c.requires.task in
    rw c.in-Chain.is
    (Step-sure c.args.home begun d
    (row (task_in (names_of d) c.args.home.0 (t.Chain c.in-Chain.object c.in-Chain.prototype)))
    c.chain.result c.args.fuel.now l (c.chain.ensures.row d h.0 h.1.0))

pub returns-in-Evaluate-clause-keeps : goal.returns-in-Evaluate-clause-keeps
returns-in-Evaluate-clause-keeps c = λ r i h.
    let g = rw c.in-Evaluate.is at h in
    c.begin.ensures.keeps r i (g.0, (g.1.0, tt))

pub returns-in-Chain-clause-keeps : goal.returns-in-Chain-clause-keeps
returns-in-Chain-clause-keeps c = λ r i h.
    let g = rw c.in-Chain.is at h in
    kept-left c.args.home c.args.w.now r (c.chain.ensures.leaves c.args.w.now r i g)

pub begin-requires-clause-holds : goal.begin-requires-clause-holds
begin-requires-clause-holds c =
    let g = rw c.in-Evaluate.is at c.requires.held in
    (g.0, (g.1.0, tt))
