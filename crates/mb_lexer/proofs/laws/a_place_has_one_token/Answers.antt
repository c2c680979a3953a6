use Rattle.mb_lexer.proofs.Lawful.{one_token}
use Rattle.mb_lexer.proofs.laws.a_place_has_one_token.Goals as goal

pub returns : goal.returns
returns c = one_token
