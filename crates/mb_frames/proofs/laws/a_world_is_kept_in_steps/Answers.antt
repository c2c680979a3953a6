use Rattle.mb_frames.proofs.Worlds.{Kept-same, Kept-then}
use Rattle.mb_frames.proofs.laws.a_world_is_kept_in_steps.Goals as goal

pub returns-clause-stays : goal.returns-clause-stays
returns-clause-stays c home d h p = Kept-same home d h p

pub returns-clause-goes_on : goal.returns-clause-goes_on
returns-clause-goes_on c home d1 d2 d3 h k = Kept-then home d1 d2 d3 h k
