use Rattle.std.proofs.Common.{◌≡◌, ◌++◌, List, sym, ap, subst, ◌∙◌}
use Rattle.std.specs.Prelude.{OnOk}
use Rattle.mb_base.specs.declared.value.NodeId.{NodeId}
use Rattle.mb_tree.specs.Roses.{shapes}
use Rattle.mb_scope.specs.declared.binding.Binding.{Binding}
use Rattle.mb_scope.specs.Bindings.{bindings_of, parts_in}
use Rattle.mb_scope.proofs.Adding.{among_read, there}
use Rattle.mb_scope.proofs.binding.add_block.Goals as goal

pub add_bindings-requires-clause-there : goal.add_bindings-requires-clause-there
add_bindings-requires-clause-there c = among_read c.args.tree.now c.args.block.0 c.index.result.now c.requires.there c.index.ensures c.requires.whole c.deref.result.now c.deref.ensures.value

pub returns : goal.returns
returns c =
    let read = ap (λ (ids : List NodeId). bindings_of (shapes c.args.tree.now) ids) c.deref.ensures.value in
    let e = ap (λ o. bindings_of (shapes c.args.tree.now) (parts_in o)) (sym (there c.args.tree.now c.args.block.0 c.index.result.now c.requires.there c.index.ensures)) in
    subst (λ (x : List Binding). OnOk c.add_bindings.result (c.add_bindings.new.bindings.items ≡ c.args.bindings.now.items ++ x)) (read ∙ e) c.add_bindings.ensures
