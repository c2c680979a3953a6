use Rattle.mb_intrinsics.proofs.Standing.{desk-only}
use Rattle.mb_intrinsics.proofs.laws.desk_is_the_only_object.Goals as goal

pub returns : goal.returns
returns c d d' n l f = desk-only d d' n l f
