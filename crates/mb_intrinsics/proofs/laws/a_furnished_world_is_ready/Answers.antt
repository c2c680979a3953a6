use Rattle.mb_intrinsics.proofs.Readying.{furnished-contained, furnished-ready}
use Rattle.mb_intrinsics.proofs.laws.a_furnished_world_is_ready.Goals as goal

pub returns-clause-contained : goal.returns-clause-contained
returns-clause-contained c d d' n u f = furnished-contained d d' n u f

pub returns-clause-ready : goal.returns-clause-ready
returns-clause-ready c d d' n u f ids = furnished-ready d d' n u f ids
