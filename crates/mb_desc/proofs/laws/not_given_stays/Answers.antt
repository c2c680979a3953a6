use Rattle.mb_desc.proofs.Given.{not_given_stays}
use Rattle.mb_desc.proofs.laws.not_given_stays.Goals as goal

pub returns : goal.returns
returns g c = not_given_stays g.V.PartialEq.eq g.V.Slot.undefined_value
