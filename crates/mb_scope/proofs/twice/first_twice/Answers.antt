use Rattle.std.proofs.Common.{◌+◌, List, sym, subst, ◌∙◌}
use Rattle.mb_tree.specs.Roses.{shapes, view}
use Rattle.mb_scope.specs.declared.binding.Binding.{Binding}
use Rattle.mb_scope.specs.machine.First.{IsFirst}
use Rattle.mb_scope.specs.Bindings.{Repeats}
use Rattle.mb_scope.proofs.Adding.{item, item_end, item_there, item_parts}
use Rattle.mb_scope.proofs.Naming.{TwiceBelow, twice_more, twice_all}
use Rattle.mb_scope.proofs.twice.first_twice.Goals as goal

pub bound_together-requires-clause-there : goal.bound_together-requires-clause-there
bound_together-requires-clause-there c =
    let n = c.node-item.result in
    let t = item c.args.tree.now c.deref-node-items.result.now c.loop-node.node-index n c.deref-node-items.ensures.value c.loop-node-test.true c.node-item.is in
    item_parts c.args.tree.now c.loop-node.node-index n t c.requires

pub loop-node-preserved : goal.loop-node-preserved
loop-node-preserved c =
    let n = c.node-item.result in
    let s = shapes c.args.tree.now in
    let i = c.loop-node.node-index in
    let t = item c.args.tree.now c.deref-node-items.result.now i n c.deref-node-items.ensures.value c.loop-node-test.true c.node-item.is in
    let read = c.deref.ensures.value ∙ c.in_ok-bindings.ensures in
    let found = subst (λ (bs : List Binding). IsFirst (λ id. id.0) (Repeats bs) c.in_ok-first_repeat.field-0) read c.in_ok-first_repeat.ensures in
    subst (IsFirst (λ id. id.0) (TwiceBelow s (i + 1))) (sym c.first_of-first.ensures)
    (twice_more s i (view n) c.loop-node.first c.in_ok-first_repeat.field-0 (item_there c.args.tree.now i n t) c.loop-node.invariant found)

pub returns : goal.returns
returns c = twice_all (shapes c.args.tree.now) c.loop-node.node-index c.loop-node.first (item_end c.args.tree.now c.deref-node-items.result.now c.loop-node.node-index c.deref-node-items.ensures.value c.loop-node-test.false) c.loop-node.invariant
