use Rattle.mb_scope.proofs.Deciding.{right_or_least}
use Rattle.mb_scope.proofs.laws.a_tree_is_right_or_has_a_least_fault.Goals as goal

pub returns : goal.returns
returns c = right_or_least
