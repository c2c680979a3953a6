use Rattle.mb_scope.proofs.Ruling.{one_least_fault}
use Rattle.mb_scope.proofs.laws.a_tree_has_one_least_fault.Goals as goal

pub returns : goal.returns
returns c = one_least_fault
