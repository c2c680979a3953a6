use Rattle.std.proofs.Common.{refl}
use Rattle.mb_lexer.proofs.Fed.{fed_nothing}
use Rattle.mb_lexer.proofs.lexer.Lexer.begin.Goals as goal

pub returns-clause-fed : goal.returns-clause-fed
returns-clause-fed c texts = fed_nothing _ texts (rw (c.new.ensures.items, c.new-2.ensures, c.new-3.ensures.items) refl)
