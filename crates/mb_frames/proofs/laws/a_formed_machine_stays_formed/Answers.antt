use Rattle.mb_frames.proofs.Forming.{formed-after}
use Rattle.mb_frames.proofs.laws.a_formed_machine_stays_formed.Goals as goal

pub returns : goal.returns
returns c m m' d d' f f' l l' q log e h i s k = formed-after m m' d d' f f' l l' q log e h i s k
