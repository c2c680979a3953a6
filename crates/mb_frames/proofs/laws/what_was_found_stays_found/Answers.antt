use Rattle.mb_frames.proofs.Founding.{stack-sound}
use Rattle.mb_frames.proofs.laws.what_was_found_stays_found.Goals as goal

pub returns : goal.returns
returns c d d' i s stack h k = stack-sound d d' i s stack h k
