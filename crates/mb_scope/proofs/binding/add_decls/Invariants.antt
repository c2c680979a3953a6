use Rattle.std.proofs.Common.{◌≡◌, ◌++◌, take}
use Rattle.std.specs.List.{flat_map}
use Rattle.mb_tree.specs.Roses.{shapes}
use Rattle.mb_scope.specs.Bindings.{decl_binding}
use Rattle.mb_scope.proofs.binding.add_decls.Given as goal

abbrev pub invariant-loop-id : goal.invariant-loop-id
invariant-loop-id l = l.bindings.items ≡ l.fn.bindings.items ++ flat_map (decl_binding (shapes l.tree) l.fixed) (take l.id-index l.decls)
