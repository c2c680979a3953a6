use Rattle.std.proofs.Common.{◌≡◌, Some, refl, sym}
use Rattle.std.specs.Prelude.{slice_get, None}
use Rattle.mb_tree.specs.Roses.{shapes, view}
use Rattle.mb_tree.proofs.Heights.{parts_first}
use Rattle.mb_scope.proofs.Adding.{there, among_all}
use Rattle.mb_scope.specs.Kinds.{group_part}
use Rattle.mb_scope.proofs.Picking.{group_first}
use Rattle.mb_scope.proofs.Targeting.{target_simple, target_invalid, target_up, target_down, target_empty}
use Rattle.mb_scope.proofs.target.can_be_assigned.Goals as goal

pub returns-in-Simple : goal.returns-in-Simple
returns-in-Simple c =
    let s = shapes c.args.tree.now in
    let is = there c.args.tree.now c.loop-part.id.0 c.index-node.result.now c.loop-part.invariant.there c.index-node.ensures in
    (λ h. c.loop-part.invariant.up (target_simple s c.loop-part.id (view c.index-node.result.now) is (sym c.in-Simple.ensures)), λ h. refl)

pub returns-in-Invalid : goal.returns-in-Invalid
returns-in-Invalid c =
    let s = shapes c.args.tree.now in
    let is = there c.args.tree.now c.loop-part.id.0 c.index-node.result.now c.loop-part.invariant.there c.index-node.ensures in
    (λ h. absurd (let z : ⊥ = cc in z), λ h. absurd (target_invalid s c.loop-part.id (view c.index-node.result.now) is (sym c.in-Invalid.ensures) (c.loop-part.invariant.down h)))

pub loop-part-smaller : goal.loop-part-smaller
loop-part-smaller c =
    let n = c.index-node.result.now in
    let is = there c.args.tree.now c.loop-part.id.0 n c.loop-part.invariant.there c.index-node.ensures in
    let first : slice_get n.children.items 0 ≡ Some c.in-Some.part = group_first n.kind n.children.items c.in-Some.part (sym c.in-Some.ensures) in
    parts_first c.requires.whole c.loop-part.id.0 (view n) is 0 c.in-Some.part first

pub loop-part-preserved : goal.loop-part-preserved
loop-part-preserved c =
    let s = shapes c.args.tree.now in
    let n = c.index-node.result.now in
    let part = c.in-Some.part in
    let is = there c.args.tree.now c.loop-part.id.0 n c.loop-part.invariant.there c.index-node.ensures in
    let inner : group_part n.kind n.children.items ≡ Some part = sym c.in-Some.ensures in
    let first : slice_get n.children.items 0 ≡ Some part = group_first n.kind n.children.items part inner in
    record {
      there = among_all c.args.tree.now c.loop-part.id.0 n c.loop-part.invariant.there c.index-node.ensures c.requires.whole 0 part first;
      up = λ t. c.loop-part.invariant.up (target_up s c.loop-part.id part (view n) is (sym c.in-Grouped.ensures) inner t);
      down = λ t. target_down s c.loop-part.id part (view n) is (sym c.in-Grouped.ensures) inner (c.loop-part.invariant.down t);
    }

pub returns-in-None : goal.returns-in-None
returns-in-None c =
    let s = shapes c.args.tree.now in
    let n = c.index-node.result.now in
    let is = there c.args.tree.now c.loop-part.id.0 n c.loop-part.invariant.there c.index-node.ensures in
    let none : group_part n.kind n.children.items ≡ None = sym c.in-None.ensures in
    (λ h. absurd (let z : ⊥ = cc in z), λ t. absurd (target_empty s c.loop-part.id (view n) is (sym c.in-Grouped.ensures) none (c.loop-part.invariant.down t)))
