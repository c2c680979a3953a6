use Rattle.mb_tree.proofs.Starts.{Begun}
use Rattle.mb_tree.proofs.program.starts_of.Given as goal

abbrev pub invariant-loop-place : goal.invariant-loop-place
invariant-loop-place l = Begun l.names l.place l.starts.items
