use Rattle.mb_intrinsics.proofs.Standing.{furnished-built-ins}
use Rattle.mb_intrinsics.proofs.laws.a_furnished_world_has_its_built_ins.Goals as goal

pub returns : goal.returns
returns c d d' n f = furnished-built-ins d d' n f
