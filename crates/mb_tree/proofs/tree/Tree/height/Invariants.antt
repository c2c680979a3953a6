use Rattle.std.proofs.Common.{◌≡◌, ◌≤◌, ℕ, [], length, drop, get_or}
use Rattle.mb_tree.specs.Roses.{shapes}
use Rattle.mb_tree.proofs.Heights.{heights_on}
use Rattle.mb_tree.proofs.tree.Tree.height.Given as goal

abbrev pub invariant-loop-node : goal.invariant-loop-node
invariant-loop-node l = record {
  counted : length l.heights.items ≡ l.node-index;
  low : (k : ℕ) → get_or l.heights.items k 0 ≤ l.node-index;
  rest : heights_on l.heights.items (drop l.node-index (shapes l.self)) ≡ heights_on [] (shapes l.self);
}
