use Rattle.mb_lexer.proofs.Fed.{fed_grown}
use Rattle.mb_lexer.proofs.laws.fed_stays_where_texts_grow.Goals as goal

pub returns : goal.returns
returns c = fed_grown
