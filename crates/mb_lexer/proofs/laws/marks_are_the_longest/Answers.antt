use Rattle.mb_lexer.proofs.Lawful.{longest_mark}
use Rattle.mb_lexer.proofs.laws.marks_are_the_longest.Goals as goal

pub returns : goal.returns
returns c = longest_mark
