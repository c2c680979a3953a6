use Rattle.mb_desc.proofs.Given.{given_is_there}
use Rattle.mb_desc.proofs.laws.given_is_there.Goals as goal

pub returns : goal.returns
returns g c = given_is_there g.V.PartialEq.eq g.V.Slot.undefined_value
