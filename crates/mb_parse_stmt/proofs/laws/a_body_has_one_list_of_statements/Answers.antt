use Rattle.mb_parse_stmt.proofs.Once.{one_body}
use Rattle.mb_parse_stmt.proofs.laws.a_body_has_one_list_of_statements.Goals as goal

pub returns : goal.returns
returns c = one_body
