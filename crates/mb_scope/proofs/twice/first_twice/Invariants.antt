use Rattle.mb_tree.specs.Roses.{shapes}
use Rattle.mb_scope.specs.machine.First.{IsFirst}
use Rattle.mb_scope.proofs.Naming.{TwiceBelow}
use Rattle.mb_scope.proofs.twice.first_twice.Given as goal

abbrev pub invariant-loop-node : goal.invariant-loop-node
invariant-loop-node l = IsFirst (λ id. id.0) (TwiceBelow (shapes l.tree) l.node-index) l.first
