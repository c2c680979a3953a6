use Rattle.mb_ordinary.proofs.InTheGraph.{of-built-in}
use Rattle.mb_ordinary.proofs.laws.a_built_in_is_that_of_the_table.Goals as goal

pub returns : goal.returns
returns c = of-built-in
