use Rattle.mb_frames.proofs.Weighing.{weight-falls}
use Rattle.mb_frames.proofs.laws.each_step_lowers_the_weight.Goals as goal

pub returns : goal.returns
returns c m m' d d' f f' l l' q log e h = weight-falls m m' d d' f f' l l' q log e h
