use Rattle.mb_shadow.proofs.Faithful.{crossing-keeps}
use Rattle.mb_shadow.proofs.laws.crossing_keeps_shadows.Goals as goal

pub returns : goal.returns
returns c = crossing-keeps
