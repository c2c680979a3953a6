use Rattle.std.proofs.Common.{◌≤◌}
use Rattle.mb_base.specs.declared.value.NodeId.{NodeId}
use Rattle.mb_tree.specs.Roses.{shapes}
use Rattle.mb_scope.specs.Targets.{IsBadTarget}
use Rattle.mb_scope.proofs.target.first_bad_target.Given as goal

abbrev pub invariant-loop-place : goal.invariant-loop-place
invariant-loop-place l = (id : NodeId) → IsBadTarget (shapes l.tree) id → l.place ≤ id.0
