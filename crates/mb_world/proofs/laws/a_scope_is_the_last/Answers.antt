use Rattle.mb_world.proofs.AfterCalls.{of-scope}
use Rattle.mb_world.proofs.laws.a_scope_is_the_last.Goals as goal

pub returns : goal.returns
returns c = of-scope
