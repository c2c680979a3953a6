use Rattle.mb_frames.proofs.Growing.{machine-in, outcome-stays}
use Rattle.mb_frames.proofs.laws.a_step_keeps_the_machine_whole.Goals as goal

pub returns-clause-ids : goal.returns-clause-ids
returns-clause-ids c m m' d d' f f' l l' q h = machine-in m m' d d' f f' l l' q h

pub returns-clause-outcome : goal.returns-clause-outcome
returns-clause-outcome c m m' d d' f f' l l' q log e h = outcome-stays m m' d d' f f' l l' q log e h
