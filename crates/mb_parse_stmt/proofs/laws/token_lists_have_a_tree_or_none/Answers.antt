use Rattle.mb_parse_stmt.proofs.Decides.{script_decided}
use Rattle.mb_parse_stmt.proofs.laws.token_lists_have_a_tree_or_none.Goals as goal

pub returns : goal.returns
returns c = script_decided
