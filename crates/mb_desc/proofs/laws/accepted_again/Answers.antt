use Rattle.mb_desc.proofs.Again.{accepted_again}
use Rattle.mb_desc.proofs.laws.accepted_again.Goals as goal

pub returns : goal.returns
returns g c = accepted_again g.V.PartialEq.eq g.V.Slot.undefined_value g.met.V.Eq.laws.refl
