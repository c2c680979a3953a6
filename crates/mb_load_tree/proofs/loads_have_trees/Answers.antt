use Rattle.mb_load_tree.proofs.Both.{loads_have_trees}
use Rattle.mb_load_tree.proofs.loads_have_trees.Goals as goal

pub returns : goal.returns
returns c = loads_have_trees
