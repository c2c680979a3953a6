use Rattle.mb_frames.proofs.Steps.{Step-paid, Step-unpaid, Step-again, Step-entered}
use Rattle.mb_frames.proofs.laws.parts_that_charge.Goals as goal

pub returns-clause-paid : goal.returns-clause-paid
returns-clause-paid c home begun r d d' n f k f' l l' p u e h s = Step-paid home begun r d d' n f k f' l l' p u e h s

pub returns-clause-unpaid : goal.returns-clause-unpaid
returns-clause-unpaid c home begun d n f l p u = Step-unpaid home begun d n f l p u

pub returns-clause-anew : goal.returns-clause-anew
returns-clause-anew c home d t f l h = Step-again home d t f l h

pub returns-clause-entered : goal.returns-clause-entered
returns-clause-entered c home d t u y f l e i = Step-entered home d t u y f l e i
