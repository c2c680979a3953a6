use Rattle.mb_check.proofs.Orders.{alike_in_any_order}
use Rattle.mb_check.proofs.laws.keys_in_any_order.Goals as goal

pub returns : goal.returns
returns g c = alike_in_any_order g.K.PartialEq.eq g.met.K.Eq.laws
