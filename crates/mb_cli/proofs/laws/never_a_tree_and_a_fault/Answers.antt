use Rattle.mb_cli.proofs.OneAnswer.{never_both}
use Rattle.mb_cli.proofs.laws.never_a_tree_and_a_fault.Goals as goal

pub returns : goal.returns
returns c = never_both
