use Rattle.mb_desc.proofs.Fixed.{fixed_is_kept}
use Rattle.mb_desc.proofs.laws.fixed_is_kept.Goals as goal

pub returns : goal.returns
returns g c = fixed_is_kept g.V.PartialEq.eq g.V.Slot.undefined_value g.met.V.Slot.same
