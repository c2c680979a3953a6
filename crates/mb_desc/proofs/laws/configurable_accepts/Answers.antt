use Rattle.mb_desc.proofs.Given.{configurable_accepts}
use Rattle.mb_desc.proofs.laws.configurable_accepts.Goals as goal

pub returns : goal.returns
returns g c = configurable_accepts g.V.PartialEq.eq g.V.Slot.undefined_value
