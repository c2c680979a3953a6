use Rattle.mb_check.proofs.Verdicts.{passed_by_all}
use Rattle.mb_check.proofs.laws.unbroken_rules_pass.Goals as goal

pub returns : goal.returns
returns c = passed_by_all
