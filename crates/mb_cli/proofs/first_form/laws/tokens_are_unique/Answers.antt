use Rattle.std.proofs.Common.{false}
use Rattle.mb_cli.proofs.first_form.Steps.{at_most_one}
use Rattle.mb_cli.proofs.first_form.laws.tokens_are_unique.Goals as goal

pub returns : goal.returns
returns c bytes a b = at_most_one 0 false bytes a b
