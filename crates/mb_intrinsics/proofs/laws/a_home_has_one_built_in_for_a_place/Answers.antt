use Rattle.mb_intrinsics.proofs.Pairing.{one-built-in}
use Rattle.mb_intrinsics.proofs.laws.a_home_has_one_built_in_for_a_place.Goals as goal

pub returns : goal.returns
returns c d d' n f i k place x e ati atk homes kc ke = one-built-in d d' n f i k place x e ati atk homes kc ke
