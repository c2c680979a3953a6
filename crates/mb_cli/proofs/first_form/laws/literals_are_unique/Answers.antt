use Rattle.mb_cli.proofs.first_form.Statements.{literals_once}
use Rattle.mb_cli.proofs.first_form.laws.literals_are_unique.Goals as goal

pub returns : goal.returns
returns c bytes a b = literals_once bytes a b
