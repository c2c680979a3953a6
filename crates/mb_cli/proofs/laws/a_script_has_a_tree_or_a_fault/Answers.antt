use Rattle.mb_cli.proofs.OneAnswer.{tree_or_fault}
use Rattle.mb_cli.proofs.laws.a_script_has_a_tree_or_a_fault.Goals as goal

pub returns : goal.returns
returns c = tree_or_fault
