use Rattle.mb_frames.proofs.Forming.{has-errors}
use Rattle.mb_frames.proofs.laws.a_side_can_throw_errors.Goals as goal

pub returns : goal.returns
returns c d h side i error = has-errors d h side i error
