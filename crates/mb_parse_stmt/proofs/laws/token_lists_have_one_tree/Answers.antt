use Rattle.mb_parse_stmt.proofs.Once.{one_script}
use Rattle.mb_parse_stmt.proofs.laws.token_lists_have_one_tree.Goals as goal

pub returns : goal.returns
returns c = one_script
