use Rattle.mb_parse_stmt.proofs.Once.{one_expression_at}
use Rattle.mb_parse_stmt.proofs.laws.a_place_has_one_expression.Goals as goal

pub returns : goal.returns
returns c = one_expression_at
