use Rattle.mb_maps.proofs.Counterparts.{counterparts-stay}
use Rattle.mb_maps.proofs.laws.counterparts_stay.Goals as goal

pub returns : goal.returns
returns c = counterparts-stay
