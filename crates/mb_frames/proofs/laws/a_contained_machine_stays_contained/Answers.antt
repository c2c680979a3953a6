use Rattle.mb_frames.proofs.Owning.{contained-after, steps-kept, kept-own}
use Rattle.mb_frames.proofs.laws.a_contained_machine_stays_contained.Goals as goal

pub returns-clause-machine : goal.returns-clause-machine
returns-clause-machine c m m' d d' f f' l l' q log e i h k s t o = contained-after m m' d d' f f' l l' q log e i h k s t o

pub returns-clause-kept : goal.returns-clause-kept
returns-clause-kept c m m' d d' f f' l l' q log e i h k y p o = steps-kept m m' d d' f f' l l' q log e i h k y p o

pub returns-clause-own : goal.returns-clause-own
returns-clause-own c home d d' k = kept-own home d d' k
