use Rattle.mb_world.proofs.AfterCalls.{of-entry}
use Rattle.mb_world.proofs.laws.an_entry_is_the_last.Goals as goal

pub returns : goal.returns
returns c = of-entry
