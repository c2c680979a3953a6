use Rattle.mb_view.proofs.Needed.{order-needed}
use Rattle.mb_view.proofs.laws.the_order_of_fixed_keys_is_needed.Goals as goal

pub returns : goal.returns
returns c = order-needed
