use Rattle.std.proofs.Common.{refl}
use Rattle.mb_intrinsics.proofs.names.bound_places.Goals as goal

pub returns : goal.returns
returns c = refl
