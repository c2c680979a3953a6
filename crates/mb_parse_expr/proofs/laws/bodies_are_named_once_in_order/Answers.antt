use Rattle.mb_parse_expr.proofs.Once.{bodies_fall}
use Rattle.mb_parse_expr.proofs.laws.bodies_are_named_once_in_order.Goals as goal

pub returns : goal.returns
returns c = bodies_fall
