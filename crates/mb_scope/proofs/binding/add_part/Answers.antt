use Rattle.std.proofs.Common.{◌≡◌, ◌++◌, List, sym, ap, subst, ◌∙◌, append-nil}
use Rattle.std.specs.Prelude.{OnOk}
use Rattle.std.specs.List.{flat_map}
use Rattle.mb_base.specs.declared.value.NodeId.{NodeId}
use Rattle.mb_tree.specs.Roses.{shapes}
use Rattle.mb_scope.specs.declared.binding.Binding.{Binding}
use Rattle.mb_scope.specs.declared.binding.Declares.TheVariants.{Itself, Decls, Nothing}
use Rattle.mb_scope.specs.Bindings.{decl_binding}
use Rattle.mb_scope.proofs.Adding.{among_read, bound_there}
use Rattle.mb_scope.proofs.binding.add_part.Goals as goal

pub add_decls-requires : goal.add_decls-requires
add_decls-requires c = among_read c.args.tree.now c.args.part.0 c.index-node.result.now c.requires.there c.index-node.ensures c.requires.whole c.deref.result.now c.deref.ensures.value

pub returns-in-Itself : goal.returns-in-Itself
returns-in-Itself c =
    let e = bound_there c.args.tree.now c.args.part c.index-node.result.now c.requires.there c.index-node.ensures Itself c.in-Itself.ensures in
    subst (λ (x : List Binding). OnOk c.add_own.result (c.add_own.new.bindings.items ≡ c.args.bindings.now.items ++ x)) e c.add_own.ensures

pub returns-in-Decls : goal.returns-in-Decls
returns-in-Decls c =
    let fixed = c.in-Decls.fixed in
    let read = ap (λ (ids : List NodeId). flat_map (decl_binding (shapes c.args.tree.now) fixed) ids) c.deref.ensures.value in
    let e = bound_there c.args.tree.now c.args.part c.index-node.result.now c.requires.there c.index-node.ensures (Decls fixed) c.in-Decls.ensures in
    subst (λ (x : List Binding). OnOk c.add_decls.result (c.add_decls.new.bindings.items ≡ c.args.bindings.now.items ++ x)) (read ∙ e) c.add_decls.ensures

pub returns-in-Nothing : goal.returns-in-Nothing
returns-in-Nothing c =
    let e = bound_there c.args.tree.now c.args.part c.index-node.result.now c.requires.there c.index-node.ensures Nothing c.in-Nothing.ensures in
    sym (append-nil c.args.bindings.now.items) ∙ ap (λ (x : List Binding). c.args.bindings.now.items ++ x) e
