use Rattle.std.proofs.Common.{◌<◌, vec_len}
use Rattle.mb_tree.specs.Roses.{shapes}
use Rattle.mb_scope.specs.Targets.{IsTarget}
use Rattle.mb_scope.proofs.target.can_be_assigned.Given as goal

abbrev pub invariant-loop-part : goal.invariant-loop-part
invariant-loop-part l = record {
  there : l.id.0 < vec_len l.tree.nodes;
  up : IsTarget (shapes l.tree) l.id → IsTarget (shapes l.tree) l.fn.target;
  down : IsTarget (shapes l.tree) l.fn.target → IsTarget (shapes l.tree) l.id;
}

abbrev pub decreases-loop-part : goal.decreases-loop-part
decreases-loop-part l = l.id.0
