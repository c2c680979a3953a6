use Rattle.mb_world.proofs.AfterCalls.{of-hidden-changed}
use Rattle.mb_world.proofs.laws.what_has_no_number_changes_nothing.Goals as goal

pub returns : goal.returns
returns c = of-hidden-changed
