use Rattle.std.proofs.Common.{◌<◌, vec_len, [], true, false, get_or, sym, ap, ◌∙◌, append-nil, Vec, Global}
use Rattle.std.proofs.lemmas.Option.{slice_get-get_or}
use Rattle.mb_tree.specs.Roses.{shapes, id_of}
use Rattle.mb_scope.specs.declared.binding.Binding.{Binding}
use Rattle.mb_scope.specs.Bindings.{decl_binding, own}
use Rattle.mb_scope.proofs.Lists.{flat_step}
use Rattle.mb_scope.proofs.Adding.{decl_there}
use Rattle.mb_scope.proofs.binding.add_decls.Goals as goal
use Rattle.mb_scope.proofs.binding.add_decls.Goals.{then-is_decl+in_ok-add_own, else-is_decl}

pub loop-id-preserved : goal.loop-id-preserved
loop-id-preserved c =
    let ids = c.args.decls.now in
    let i = c.loop-id.id-index in
    let id = get_or ids i (id_of 0) in
    let n = c.index-node.result.now in
    let within : id.0 < vec_len c.args.tree.now.nodes = c.requires i id (slice_get-get_or ids i (id_of 0) c.loop-id-test.true) in
    elim c.if-is_decl.branch [
      | then-is_decl+in_ok-add_own w ↦
          flat_step (decl_binding (shapes c.args.tree.now) c.args.fixed) c.args.bindings.now.items c.loop-id.bindings.items c.if-is_decl.bindings.items ids i (id_of 0) (own id n.name c.args.fixed) c.loop-id-test.true c.loop-id.invariant
          (ap (λ (v : Vec Binding Global). v.items) w.bindings-is ∙ w.in_ok-add_own.ensures)
          (decl_there c.args.tree.now id n within c.index-node.ensures c.args.fixed true (sym w.if-is_decl.true ∙ c.is_decl.ensures))
      | else-is_decl w ↦
          flat_step (decl_binding (shapes c.args.tree.now) c.args.fixed) c.args.bindings.now.items c.loop-id.bindings.items c.if-is_decl.bindings.items ids i (id_of 0) [] c.loop-id-test.true c.loop-id.invariant
          (ap (λ (v : Vec Binding Global). v.items) w.bindings-is ∙ sym (append-nil c.loop-id.bindings.items))
          (decl_there c.args.tree.now id n within c.index-node.ensures c.args.fixed false (sym w.if-is_decl.false ∙ c.is_decl.ensures))
    ]
