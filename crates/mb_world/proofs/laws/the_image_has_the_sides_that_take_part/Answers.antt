use Rattle.mb_world.proofs.AfterCalls.{of-sides}
use Rattle.mb_world.proofs.laws.the_image_has_the_sides_that_take_part.Goals as goal

pub returns : goal.returns
returns c = of-sides
