use Rattle.mb_world.proofs.AfterCalls.{of-changed-scope}
use Rattle.mb_world.proofs.laws.a_changed_scope_keeps_its_place.Goals as goal

pub returns : goal.returns
returns c = of-changed-scope
