use Rattle.mb_frames.proofs.Passed.{Part-passed, Part-sure, Part-unpaid, Step-passed, puts-none}
use Rattle.mb_frames.proofs.passing.steps_begin_with_parts.Goals as goal

pub returns-clause-step : goal.returns-clause-step
returns-clause-step c home begun r d1 d2 d3 f1 f2 f3 l l' p q n v h =
    Step-passed home begun r d1 d2 d3 f1 f2 f3 l l' p q n v h

pub returns-clause-part : goal.returns-clause-part
returns-clause-part c home r d1 d2 d3 f1 f2 f3 p q v h = Part-passed home r d1 d2 d3 f1 f2 f3 p q v h

pub returns-clause-sure : goal.returns-clause-sure
returns-clause-sure c home d f p m h = Part-sure home d f p m h

pub returns-clause-unpaid : goal.returns-clause-unpaid
returns-clause-unpaid c home d n f p u = Part-unpaid home d n f p u

pub returns-clause-none : goal.returns-clause-none
returns-clause-none c home r d d' f f' l l' p h = puts-none home r d d' f f' l l' p h
