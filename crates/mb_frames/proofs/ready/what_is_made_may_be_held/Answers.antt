use Rattle.mb_frames.proofs.HeldAs.{made-held}
use Rattle.mb_frames.proofs.ready.what_is_made_may_be_held.Goals as goal

pub returns : goal.returns
returns c home d k proto label id h n = made-held d home k proto label id h n
