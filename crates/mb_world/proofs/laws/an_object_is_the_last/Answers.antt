use Rattle.mb_world.proofs.AfterCalls.{of-made}
use Rattle.mb_world.proofs.laws.an_object_is_the_last.Goals as goal

pub returns : goal.returns
returns c = of-made
