use Rattle.mb_world.proofs.AfterCalls.{of-joined}
use Rattle.mb_world.proofs.laws.joining_leaves_the_image.Goals as goal

pub returns : goal.returns
returns c = of-joined
