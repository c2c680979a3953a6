use Rattle.mb_intrinsics.proofs.step.start.Goals as goal

pub returns-clause-row : goal.returns-clause-row
returns-clause-row c = λ begun. rw c.in-Run.is (c.run.ensures.row begun _ _)
