use Rattle.std.proofs.Common.{◌∙◌}
use Rattle.mb_tree.specs.Roses.{shapes, view}
use Rattle.mb_scope.proofs.Adding.{item, item_parts, item_next, item_end}
use Rattle.mb_scope.proofs.Naming.{names_more, names_end, names_ascend}
use Rattle.mb_scope.proofs.names.scopes.Goals as goal

pub add_names-requires-clause-there : goal.add_names-requires-clause-there
add_names-requires-clause-there c =
    let n = c.node-item.result in
    let t = item c.args.tree.now c.deref-node-items.result.now c.loop-place.place n c.deref-node-items.ensures.value c.loop-place-test.true c.node-item.is in
    item_parts c.args.tree.now c.loop-place.place n t c.requires.whole

pub loop-place-preserved : goal.loop-place-preserved
loop-place-preserved c =
    let n = c.node-item.result in
    let t = item c.args.tree.now c.deref-node-items.result.now c.loop-place.place n c.deref-node-items.ensures.value c.loop-place-test.true c.node-item.is in
    names_more (shapes c.args.tree.now) c.loop-place.place (view n) c.loop-place.names.items c.add_names.new.names.items (item_next c.args.tree.now c.loop-place.place n t) c.in_ok-add_names.ensures
    ∙ c.loop-place.invariant

pub new-requires : goal.new-requires
new-requires c =
    let end = item_end c.args.tree.now c.deref-node-items.result.now c.loop-place.place c.deref-node-items.ensures.value c.loop-place-test.false in
    names_ascend (shapes c.args.tree.now) c.loop-place.names.items (names_end (shapes c.args.tree.now) c.loop-place.place c.loop-place.names.items end c.loop-place.invariant)
