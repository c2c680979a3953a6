use Rattle.std.proofs.Common.{◌≡◌, ℕ, ◌+◌, ◌-◌, ◌<◌, ◌≤◌, List, [], ◌∷◌, ◌++◌, length, get_or, drop, arith, sym, ap, subst, ◌∙◌, length-append}
use Rattle.std.specs.Prelude.{slice_get, unwrap_or}
use Rattle.std.proofs.lemmas.Grind.{common_steps}
use Rattle.std.proofs.lemmas.Option.{unwrap_or-slice_get}
use Rattle.mb_base.specs.declared.value.NodeId.{NodeId}
use Rattle.mb_tree.specs.Roses.{write, shapes, view, root}
use Rattle.mb_tree.specs.machine.Below.{most_at, AreAmong}
use Rattle.mb_tree.proofs.Heights.{heights_on, view_next, view_there, item_there, heights_step, heights_end, low_step, height_last, most_low, parts_first}
use Rattle.mb_tree.proofs.tree.Tree.height.Goals as goal

pub most-below-requires : goal.most-below-requires
most-below-requires c =
    let n = c.node-item.result in
    let t = item_there c.deref-node-items.result.now c.args.self.now.nodes.items c.loop-node.node-index n c.deref-node-items.ensures.value c.loop-node-test.true c.node-item.is in
    let among : AreAmong n.children.items c.loop-node.node-index = parts_first c.requires.whole c.loop-node.node-index (view n) (view_there c.args.self.now.nodes.items c.loop-node.node-index n t.0 t.1) in
    λ i id e.
    let low : id.0 < c.loop-node.node-index = among i id (ap (λ (xs : List NodeId). slice_get xs i) (sym c.deref-in-loop-node.ensures.value) ∙ e) in
    omega (arith, low, c.loop-node.invariant.counted, ap length c.deref.ensures.value)

pub overflow_add-below : goal.overflow_add-below
overflow_add-below c =
    let low = most_low c.loop-node.heights.items c.deref-in-loop-node.result.now c.loop-node.node-index c.loop-node.invariant.low in
    let same : c.most-below.result ≡ most_at c.loop-node.heights.items c.deref-in-loop-node.result.now = c.most-below.ensures ∙ ap (λ (hs : List ℕ). most_at hs c.deref-in-loop-node.result.now) c.deref.ensures.value in
    omega (arith, low, same, c.requires.few, c.loop-node-test.true, c.deref-node-items.ensures.len)

pub loop-node-preserved : goal.loop-node-preserved
loop-node-preserved c =
    let hs = c.loop-node.heights.items in
    let n = c.node-item.result in
    let pushed : c.push.new.self.items ≡ hs ++ (c.most-below.result + 1) ∷ [] = grind (arith, common_steps, c.in_ok-push.ensures.items) in
    let t = item_there c.deref-node-items.result.now c.args.self.now.nodes.items c.loop-node.node-index n c.deref-node-items.ensures.value c.loop-node-test.true c.node-item.is in
    let most : c.most-below.result ≡ most_at hs n.children.items = c.most-below.ensures ∙ ap (λ (x : List ℕ). most_at x c.deref-in-loop-node.result.now) c.deref.ensures.value ∙ ap (most_at hs) c.deref-in-loop-node.ensures.value in
    let low = most_low hs n.children.items c.loop-node.node-index c.loop-node.invariant.low in
    let below : c.most-below.result ≤ c.loop-node.node-index = omega (arith, low, most) in
    record {
      counted = ap length pushed ∙ length-append hs ((c.most-below.result + 1) ∷ []) ∙ omega (arith, c.loop-node.invariant.counted);
      low = λ k. subst (λ (x : List ℕ). get_or x k 0 ≤ c.loop-node.node-index + 1) (sym pushed) (low_step hs c.most-below.result c.loop-node.node-index c.loop-node.invariant.low below k);
      rest = ap (λ (x : List ℕ). heights_on x (drop (c.loop-node.node-index + 1) (shapes c.args.self.now))) pushed
          ∙ heights_step hs (shapes c.args.self.now) c.loop-node.node-index (view n) c.most-below.result (view_next c.args.self.now.nodes.items c.loop-node.node-index n t.0 t.1) most
          ∙ c.loop-node.invariant.rest;
    }

pub returns-clause-longest : goal.returns-clause-longest
returns-clause-longest c tree e =
    let hs = c.loop-node.heights.items in
    let past : length c.args.self.now.nodes.items ≤ c.loop-node.node-index = omega (arith, c.loop-node-test.false, ap length c.deref-node-items.ensures.value) in
    let all : hs ≡ heights_on [] (write [] tree) = sym (heights_end hs c.args.self.now.nodes.items c.loop-node.node-index past) ∙ c.loop-node.invariant.rest ∙ ap (heights_on []) e in
    let h = height_last hs tree all in
    let place : length c.deref-2.result.now - 1 ≡ root [] tree = omega (arith, h.0, ap length c.deref-2.ensures.value) in
    c.unwrap_or.ensures ∙ ap (λ o. unwrap_or o 0) (c.copied.ensures ∙ c.last.ensures.value)
    ∙ unwrap_or-slice_get c.deref-2.result.now (length c.deref-2.result.now - 1) 0
    ∙ ap (λ i. get_or c.deref-2.result.now i 0) place ∙ ap (λ (x : List ℕ). get_or x (root [] tree) 0) c.deref-2.ensures.value ∙ h.1
