use Rattle.mb_ordinary.proofs.InTheGraph.{of-numbered}
use Rattle.mb_ordinary.proofs.laws.a_numbered_cell_is_an_object_of_the_graph.Goals as goal

pub returns : goal.returns
returns c = of-numbered
