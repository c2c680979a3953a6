use Rattle.mb_world.proofs.AfterCalls.{of-changed}
use Rattle.mb_world.proofs.laws.a_changed_object_keeps_its_number.Goals as goal

pub returns : goal.returns
returns c = of-changed
