use Rattle.mb_lexer.proofs.Lawful.{not_tokens_and_fault}
use Rattle.mb_lexer.proofs.laws.never_tokens_and_a_fault.Goals as goal

pub returns : goal.returns
returns c = not_tokens_and_fault
