use Rattle.mb_lexer.proofs.Lawful.{one_first_fault}
use Rattle.mb_lexer.proofs.laws.the_first_fault_is_one.Goals as goal

pub returns : goal.returns
returns c = one_first_fault
