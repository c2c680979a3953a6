use Rattle.std.proofs.Common.{◌≡◌, ◌++◌, drop}
use Rattle.mb_tree.specs.Roses.{shapes}
use Rattle.mb_scope.specs.Names.{names_from, names_of}
use Rattle.mb_scope.proofs.names.scopes.Given as goal

abbrev pub invariant-loop-place : goal.invariant-loop-place
invariant-loop-place l = l.names.items ++ names_from (shapes l.tree) l.place (drop l.place (shapes l.tree)) ≡ names_of (shapes l.tree)
