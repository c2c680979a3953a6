use Rattle.mb_lexer.proofs.Lawful.{one_list}
use Rattle.mb_lexer.proofs.laws.tokens_are_one.Goals as goal

pub returns : goal.returns
returns c = one_list
