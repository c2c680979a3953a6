use Rattle.mb_world.proofs.AfterCalls.{of-texts}
use Rattle.mb_world.proofs.laws.taken_texts_leave_the_image.Goals as goal

pub returns : goal.returns
returns c = of-texts
