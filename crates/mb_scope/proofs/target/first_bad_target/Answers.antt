use Rattle.mb_tree.specs.Roses.{shapes, view}
use Rattle.std.proofs.Common.{refl, false, true, ◌≡◌}
use Rattle.mb_scope.proofs.Adding.{item, item_end, item_there, item_parts}
use Rattle.mb_scope.proofs.Targeting.{bad_here, bad_later, bad_none}
use Rattle.mb_scope.proofs.target.first_bad_target.Goals as goal

pub misses_first-requires-clause-there : goal.misses_first-requires-clause-there
misses_first-requires-clause-there c =
    let n = c.node-item.result in
    let t = item c.args.tree.now c.deref-node-items.result.now c.loop-place.place n c.deref-node-items.ensures.value c.loop-place-test.true c.node-item.is in
    item_parts c.args.tree.now c.loop-place.place n t c.requires.whole

pub returns-then-misses_first : goal.returns-then-misses_first
returns-then-misses_first c =
    let n = c.node-item.result in
    let t = item c.args.tree.now c.deref-node-items.result.now c.loop-place.place n c.deref-node-items.ensures.value c.loop-place-test.true c.node-item.is in
    (bad_here (shapes c.args.tree.now) c.loop-place.place (view n) (item_there c.args.tree.now c.loop-place.place n t) c.loop-place.invariant (c.if-misses_first.ensures.0 refl), c.loop-place.invariant)

pub loop-place-preserved : goal.loop-place-preserved
loop-place-preserved c =
    let n = c.node-item.result in
    let t = item c.args.tree.now c.deref-node-items.result.now c.loop-place.place n c.deref-node-items.ensures.value c.loop-place-test.true c.node-item.is in
    bad_later (shapes c.args.tree.now) c.loop-place.place (view n) (item_there c.args.tree.now c.loop-place.place n t) c.loop-place.invariant
    (λ m. let no_miss : false ≡ true = c.if-misses_first.ensures.1 m in let z : ⊥ = cc in z)

pub returns : goal.returns
returns c = bad_none (shapes c.args.tree.now) c.loop-place.place (item_end c.args.tree.now c.deref-node-items.result.now c.loop-place.place c.deref-node-items.ensures.value c.loop-place-test.false) c.loop-place.invariant
