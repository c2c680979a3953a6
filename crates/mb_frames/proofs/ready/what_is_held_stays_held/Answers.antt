use Rattle.mb_frames.proofs.Leaving.{holds-still}
use Rattle.mb_frames.proofs.ready.what_is_held_stays_held.Goals as goal

pub returns : goal.returns
returns c home d d' held r k h = holds-still home d d' r k held h
