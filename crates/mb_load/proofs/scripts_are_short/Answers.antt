use Rattle.mb_load.proofs.Short.{scripts_are_short}
use Rattle.mb_load.proofs.scripts_are_short.Goals as goal

pub returns : goal.returns
returns c = scripts_are_short
