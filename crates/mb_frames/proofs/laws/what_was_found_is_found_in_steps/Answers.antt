use Rattle.mb_frames.proofs.Forming.{Found-same, Found-then}
use Rattle.mb_frames.proofs.laws.what_was_found_is_found_in_steps.Goals as goal

pub returns-clause-stays : goal.returns-clause-stays
returns-clause-stays c d = Found-same d

pub returns-clause-goes_on : goal.returns-clause-goes_on
returns-clause-goes_on c d1 d2 d3 h k = Found-then d1 d2 d3 h k
