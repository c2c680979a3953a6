-- Trees that tests build, node by node.
use Rattle.std.specs.Prelude.{◌≡◌, List, []}
use Rattle.mb_base.specs.declared.value.NodeId.{NodeId}
use Rattle.mb_tree.specs.Roses.{Rose, Shape}
use Rattle.mb_tree.specs.machine.Operands.{written, places}

-- the nodes are those of some trees, whose roots wait to become parts
pub record IsBuilt (shapes : List Shape) (waiting : List NodeId) : Type 0 where
  pub trees : List Rose
  pub shapes_are : shapes ≡ written [] trees
  pub waiting_are : waiting ≡ places [] trees
