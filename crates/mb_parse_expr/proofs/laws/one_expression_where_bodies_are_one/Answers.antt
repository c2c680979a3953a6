use Rattle.mb_parse_expr.proofs.Once.{one_expression}
use Rattle.mb_parse_expr.proofs.laws.one_expression_where_bodies_are_one.Goals as goal

pub returns : goal.returns
returns c = one_expression
