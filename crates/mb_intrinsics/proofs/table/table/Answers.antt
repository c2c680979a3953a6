use Rattle.std.proofs.Common.{refl}
use Rattle.mb_intrinsics.proofs.table.table.Goals as goal

pub returns-clause-rows : goal.returns-clause-rows
returns-clause-rows c = refl

pub returns-clause-sound : goal.returns-clause-sound
returns-clause-sound c = refl
