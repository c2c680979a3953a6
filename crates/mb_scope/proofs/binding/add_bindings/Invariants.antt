use Rattle.std.proofs.Common.{◌≡◌, ◌++◌, take}
use Rattle.mb_tree.specs.Roses.{shapes}
use Rattle.mb_scope.specs.Bindings.{bindings_of}
use Rattle.mb_scope.proofs.binding.add_bindings.Given as goal

abbrev pub invariant-loop-part : goal.invariant-loop-part
invariant-loop-part l = l.bindings.items ≡ l.fn.bindings.items ++ bindings_of (shapes l.tree) (take l.part-index l.parts)
