use Rattle.std.proofs.Common.{◌≡◌, ◌+◌, ◌-◌, ◌<◌, ◌≤◌, List, Some, length, drop, sym, ap, subst, ◌∙◌, arith}
use Rattle.std.specs.Prelude.{slice_get, vec_len}
use Rattle.std.proofs.lemmas.List.{length-replicate}
use Rattle.std.proofs.lemmas.Option.{slice_get-get_or}
use Rattle.mb_base.specs.declared.value.NodeId.{NodeId}
use Rattle.mb_tree.specs.Roses.{shapes, view}
use Rattle.mb_tree.proofs.Heights.{parts_first}
use Rattle.mb_scope.specs.declared.jump.Around.{Around}
use Rattle.mb_scope.specs.machine.First.{IsFirst}
use Rattle.mb_scope.specs.machine.Around.{outside, inside_of, IsPutAround}
use Rattle.mb_scope.specs.Kinds.{is_function, is_loop}
use Rattle.mb_scope.proofs.Adding.{there, among_read, shapes_long}
use Rattle.mb_scope.proofs.Knowing.{AllKnown, all_known_none, exact, all_known_more, StrayFrom, stray_none, stray_here, stray_later, stray_all, written_back, outside_all}
use Rattle.mb_scope.proofs.jump.first_stray.Goals as goal
use Rattle.mb_scope.proofs.jump.first_stray.Goals.{then-not-allows, else-not-allows}

pub put_around-requires : goal.put_around-requires
put_around-requires c =
    let p = c.loop-place.place - 1 in
    let within : p < vec_len c.args.tree.now.nodes = omega arith in
    let among = among_read c.args.tree.now p c.index-node.result.now within c.index-node.ensures c.requires.whole c.deref.result.now c.deref.ensures.value in
    λ i id e.
    let low : id.0 < vec_len c.args.tree.now.nodes = among i id e in
    omega (arith, c.loop-place.invariant.long, c.deref_mut.ensures.len)

pub loop-place-preserved : goal.loop-place-preserved
loop-place-preserved c =
    let s = shapes c.args.tree.now in
    let p = c.loop-place.place - 1 in
    let n = c.index-node.result.now in
    let known = c.loop-place.known.items in
    let cur = c.index-around.result.now in
    let next : c.loop-place.place ≡ p + 1 = omega arith in
    let within : p < vec_len c.args.tree.now.nodes = omega arith in
    let is = there c.args.tree.now p n within c.index-node.ensures in
    let long : p < length known = omega (arith, c.loop-place.invariant.long, c.loop-place.known.ok.0) in
    let at : slice_get known p ≡ Some cur = slice_get-get_or known p cur long ∙ ap (λ x. Some x) (sym c.index-around.ensures) in
    let before = subst (AllKnown s known) next c.loop-place.invariant.known in
    let x = exact s (parts_first c.requires.whole) known p cur before at in
    let least = subst (λ k. IsFirst (λ id. id.0) (StrayFrom s k) c.loop-place.first) next c.loop-place.invariant.least in
    let same : length c.put_around.new.known ≡ c.loop-place.known.len = omega (arith, c.put_around.auto.known) in
    let kind = n.kind in
    let a = inside_of cur (is_function kind) (is_loop kind) in
    let put : IsPutAround known c.put_around.new.known n.children.items a =
    subst (λ (ks : List Around). IsPutAround ks c.put_around.new.known n.children.items a) c.deref_mut.ensures.value
    (subst (λ (ids : List NodeId). IsPutAround c.deref_mut.result.now c.put_around.new.known ids a) c.deref.ensures.value
    (subst (λ (x : Around). IsPutAround c.deref_mut.result.now c.put_around.new.known c.deref.result.now x) c.inside.ensures c.put_around.ensures)) in
    let as_long : length c.put_around.new.known ≡ length known = omega (arith, same, c.loop-place.known.ok.0) in
    record {
      long = c.loop-place.invariant.long;
      known = subst (λ (ks : List Around). AllKnown s ks p)
          (sym (written_back c.loop-place.known.len c.put_around.new.known (drop (length c.put_around.new.known) known) same))
          (all_known_more s known c.put_around.new.known p (view n) cur as_long put is x before);
      least = elim c.if-not-allows.branch [
        | then-not-allows w ↦ subst (IsFirst (λ id. id.0) (StrayFrom s p)) (sym w.first-is) (stray_here s p (view n) cur c.loop-place.first is x least (sym c.allows.ensures ∙ w.if-not-allows.true))
        | else-not-allows w ↦ subst (IsFirst (λ id. id.0) (StrayFrom s p)) (sym w.first-is) (stray_later s p (view n) cur c.loop-place.first is x least (sym c.allows.ensures ∙ w.if-not-allows.false))
      ];
    }

pub loop-place-init : goal.loop-place-init
loop-place-init c =
    let s = shapes c.args.tree.now in
    let len : length s ≤ c.len-place.result = omega (arith, shapes_long c.args.tree.now) in
    record {
      long = omega (arith, ap length c.in_ok-known.ensures, length-replicate c.len.result outside, c.in_ok-known.known.ok.0);
      known = all_known_none s c.in_ok-known.known.items c.len-place.result len (outside_all c.in_ok-known.known.items c.len.result c.in_ok-known.ensures);
      least = λ id t. stray_none s c.len-place.result id len t;
    }

pub returns : goal.returns
returns c =
    let s = shapes c.args.tree.now in
    let none : c.loop-place.place ≡ 0 = omega arith in
    stray_all s c.loop-place.first (subst (λ k. IsFirst (λ id. id.0) (StrayFrom s k) c.loop-place.first) none c.loop-place.invariant.least)
