use Rattle.mb_intrinsics.proofs.Pairing.{no-membrane, paired}
use Rattle.mb_intrinsics.proofs.laws.a_furnished_world_is_paired.Goals as goal

pub returns-clause-cells : goal.returns-clause-cells
returns-clause-cells c d d' n f = no-membrane d d' n f

pub returns-clause-paired : goal.returns-clause-paired
returns-clause-paired c d d' n none f = paired d d' n none f
