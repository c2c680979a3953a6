use Rattle.mb_arrayapi.proofs.step.start.Goals as goal

pub run-requires-clause-acts : goal.run-requires-clause-acts
run-requires-clause-acts c =
    let a = c.requires.acts in
    let h = rw c.in-Run.is at a.holds in
    record { ready = a.ready; side = a.side; holds = h.1 }

pub returns-clause-row : goal.returns-clause-row
returns-clause-row c = λ f. rw c.in-Run.is (c.run.ensures.row f)

pub returns-clause-keeps : goal.returns-clause-keeps
returns-clause-keeps c = rw c.in-Run.is c.run.ensures.keeps
