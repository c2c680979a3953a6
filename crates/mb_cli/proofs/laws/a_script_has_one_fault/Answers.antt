use Rattle.mb_cli.proofs.OneAnswer.{one_fault}
use Rattle.mb_cli.proofs.laws.a_script_has_one_fault.Goals as goal

pub returns : goal.returns
returns c = one_fault
