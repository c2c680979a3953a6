use Rattle.mb_lexer.proofs.Lawful.{tokens_or_fault}
use Rattle.mb_lexer.proofs.laws.bytes_have_tokens_or_a_fault.Goals as goal

pub returns : goal.returns
returns c = tokens_or_fault
