use Rattle.std.proofs.Common.{◌≡◌, ◌-◌, ◌+◌, List, [], ◌∷◌, ◌++◌, length, take, drop, ap, ◌∙◌, arith, pos}
use Rattle.std.proofs.lemmas.List.{map-append}
use Rattle.mb_base.specs.declared.value.NodeId.{NodeId}
use Rattle.mb_tree.specs.declared.tree.Node.{Node}
use Rattle.mb_tree.specs.Roses.{Label, shapes, view, views, id_of}
use Rattle.mb_scope.proofs.Adding.{shapes_long}
use Rattle.mb_scope.proofs.Building.{built_more, back_of}
use Rattle.mb_scope.proofs.tests.add.Goals as goal

pub returns : goal.returns
returns c = λ b.
    let tree = c.args.tree.now in
    let ids = c.args.waiting.now.items in
    let n = c.args.row.2 in
    let k = c.len.result - n in
    let label : Label = record { kind = c.args.row.0; name = c.args.row.1; whole = pos 0 } in
    let node : Node = record { kind = c.args.row.0; name = c.args.row.1; whole = pos 0; children = c.in_ok-children.children } in
    let kids : c.in_ok-children.children.items ≡ drop k ids =
    c.in_ok-children.ensures.items
    ∙ ap (λ (xs : List NodeId). take (length xs - k) (drop k xs)) c.deref.ensures.value
    ∙ back_of ids (length ids) k (omega arith) in
    let at : c.len-2.result ≡ length (shapes tree) = omega (arith, shapes_long tree) in
    let fits : k + n ≡ length ids = omega (arith, c.args.waiting.now.ok.0, c.requires.parts) in
    built_more (shapes tree) (views c.push-2.new.self.items) ids c.push.new.self.items c.in_ok-children.children.items label n k b fits kids
    (c.in_ok-push.ensures.items ∙ ap (λ (xs : List NodeId). xs ++ id_of c.len-2.result ∷ []) c.truncate.ensures.items ∙ ap (λ i. take k ids ++ id_of i ∷ []) at)
    (ap views c.in_ok-push-2.ensures.items ∙ map-append view tree.nodes.items (node ∷ []))
