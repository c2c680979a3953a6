use Rattle.mb_world.proofs.AfterCalls.{of-program}
use Rattle.mb_world.proofs.laws.a_script_is_that_of_its_side.Goals as goal

pub returns : goal.returns
returns c = of-program
