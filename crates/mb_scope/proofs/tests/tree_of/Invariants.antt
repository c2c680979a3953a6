use Rattle.mb_tree.specs.Roses.{shapes}
use Rattle.mb_scope.specs.machine.Rows.{IsBuilt}
use Rattle.mb_scope.proofs.tests.tree_of.Given as goal

abbrev pub invariant-loop-row : goal.invariant-loop-row
invariant-loop-row g l = IsBuilt (shapes l.tree) l.waiting.items
