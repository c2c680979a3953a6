use Rattle.mb_world.proofs.AfterCalls.{of-halted}
use Rattle.mb_world.proofs.laws.halting_leaves_the_image.Goals as goal

pub returns : goal.returns
returns c = of-halted
