use Rattle.mb_check.proofs.Verdicts.{broken_by_the_first}
use Rattle.mb_check.proofs.laws.the_first_broken_rule_counts.Goals as goal

pub returns : goal.returns
returns c = broken_by_the_first
