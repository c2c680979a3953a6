use Rattle.mb_arrayapi.proofs.popping.pop_deleted.Goals as goal
use Rattle.mb_frames.specs.Sorts.{AValue}

pub returns-then-not-done-clause-part : goal.returns-then-not-done-clause-part
returns-then-not-done-clause-part c = λ f. rw c.if-not-done.true (c.type_error.ensures.part f)

pub returns-then-not-done-clause-keeps : goal.returns-then-not-done-clause-keeps
returns-then-not-done-clause-keeps c = c.type_error.ensures.keeps AValue

pub returns-clause-part : goal.returns-clause-part
returns-clause-part c = λ f. rw c.if-not-done.false (c.pop_length.ensures.part f)
