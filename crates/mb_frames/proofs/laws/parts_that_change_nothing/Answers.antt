use Rattle.mb_frames.proofs.Steps.{Sure-value, Sure-throw, Sure-next, Sure-wait, Step-sure}
use Rattle.mb_frames.proofs.laws.parts_that_change_nothing.Goals as goal

pub returns-clause-gives : goal.returns-clause-gives
returns-clause-gives c home d y h = Sure-value home d y h

pub returns-clause-throws : goal.returns-clause-throws
returns-clause-throws c home d y h = Sure-throw home d y h

pub returns-clause-goes_on : goal.returns-clause-goes_on
returns-clause-goes_on c home d t h = Sure-next home d t h

pub returns-clause-waits : goal.returns-clause-waits
returns-clause-waits c home d y t p r e h k i = Sure-wait home d y t p r e h k i

pub returns-clause-steps : goal.returns-clause-steps
returns-clause-steps c home begun d p m f l h = Step-sure home begun d p m f l h
