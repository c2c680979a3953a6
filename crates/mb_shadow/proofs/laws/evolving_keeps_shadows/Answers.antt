use Rattle.mb_shadow.proofs.Evolving.{evolving-keeps}
use Rattle.mb_shadow.proofs.laws.evolving_keeps_shadows.Goals as goal

pub returns : goal.returns
returns c = evolving-keeps
