use Rattle.mb_frames.proofs.Putting.{no-name}
use Rattle.mb_frames.proofs.tests.small.named_again.Goals as goal

pub put-requires-clause-name : goal.put-requires-clause-name
put-requires-clause-name g c = no-name
