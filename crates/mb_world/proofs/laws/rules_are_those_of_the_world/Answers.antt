use Rattle.mb_world.proofs.AfterCalls.{of-rules}
use Rattle.mb_world.proofs.laws.rules_are_those_of_the_world.Goals as goal

pub returns : goal.returns
returns c = of-rules
