use Rattle.mb_props.proofs.Order.{key_order_is_one}
use Rattle.mb_props.proofs.key_order_is_one.Goals as goal

pub returns : goal.returns
returns c = key_order_is_one
