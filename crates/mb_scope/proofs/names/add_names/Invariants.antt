use Rattle.std.proofs.Common.{◌≡◌, ◌++◌, map, take}
use Rattle.mb_scope.specs.Names.{entry}
use Rattle.mb_scope.proofs.names.add_names.Given as goal

abbrev pub invariant-loop-binding : goal.invariant-loop-binding
invariant-loop-binding l = l.names.items ≡ l.initial.names.items ++ map (entry l.scope) (take l.binding-index l.binding-items)
