use Rattle.std.proofs.Common.{◌≡◌, max, drop}
use Rattle.mb_tree.specs.machine.Below.{most_at}
use Rattle.mb_tree.proofs.tree.most.Given as goal

abbrev pub invariant-loop-id : goal.invariant-loop-id
invariant-loop-id l = max l.most (most_at l.heights (drop l.id-index l.places)) ≡ most_at l.heights l.places
