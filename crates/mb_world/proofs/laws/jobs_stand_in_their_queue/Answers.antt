use Rattle.mb_world.proofs.AfterCalls.{of-queue}
use Rattle.mb_world.proofs.laws.jobs_stand_in_their_queue.Goals as goal

pub returns : goal.returns
returns c = of-queue
