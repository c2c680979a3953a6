use Rattle.mb_programs.proofs.Starting.{can-start}
use Rattle.mb_programs.proofs.laws.what_was_read_can_start.Goals as goal

pub returns : goal.returns
returns c texts p w = can-start texts p w
