use Rattle.std.proofs.Common.{List, arith, subst}
use Rattle.std.proofs.lemmas.List.{length-map, take_all}
use Rattle.std.proofs.lemmas.Result.{err_from_is_err_and}
use Rattle.mb_base.specs.declared.value.Value.{Value}
use Rattle.mb_frames.proofs.HeldLess.{array-object}
use Rattle.mb_frames.proofs.Keeping.{inside-still}
use Rattle.mb_frames.proofs.Readying.{changed-same, changed-then}
use Rattle.mb_frames.specs.Resolved.{values_in}
use Rattle.mb_parts.proofs.Acting.{ready-acts}
use Rattle.mb_parts.proofs.Filling.{IsFilling, filling-next, filling-none, filling-went, item-held}
use Rattle.mb_parts.proofs.arrays.make_array.Goals as goal
use Rattle.mb_world.specs.Image.{Resolve, names_of}

pub returns-then-values-gt-MOST_ELEMENTS-clause-keeps : goal.returns-then-values-gt-MOST_ELEMENTS-clause-keeps
returns-then-values-gt-MOST_ELEMENTS-clause-keeps c =
    record { changed = changed-same c.args.home c.args.w.now c.requires.ready; holds = tt }

pub empty_array-requires : goal.empty_array-requires
empty_array-requires c = ready-acts c.args.w.now c.args.home c.requires.ready c.requires.side

pub returns-in_err-array-clause-keeps : goal.returns-in_err-array-clause-keeps
returns-in_err-array-clause-keeps c =
    let p = err_from_is_err_and c.from_residual.result c.from_residual.ensures.1 in
    rw p.1
    (record { changed = (c.in_err-array.ensures.keeps c.requires.ready c.requires.side tt).changed; holds = tt })

pub loop-place-init : goal.loop-place-init
loop-place-init c =
    let k = c.in_ok-array.ensures.keeps c.requires.ready c.requires.side tt in
    filling-none c.args.home c.args.w.now c.empty_array.new.w c.in_ok-array.array c.in_ok-array.ensures.makes k.changed
    k.holds.0

pub store_element-requires-clause-acts : goal.store_element-requires-clause-acts
store_element-requires-clause-acts c =
    let k = c.loop-place.invariant.changed in
    ready-acts c.loop-place.w c.args.home k.ready
    (inside-still c.args.home c.args.w.now c.loop-place.w k c.requires.side)

pub store_element-requires-clause-ready : goal.store_element-requires-clause-ready
store_element-requires-clause-ready c = c.loop-place.invariant.changed.ready

pub store_element-requires-clause-holds : goal.store_element-requires-clause-holds
store_element-requires-clause-holds c =
    item-held c.args.home c.args.w.now c.loop-place.w c.in_ok-array.array c.args.values.now c.loop-place.place _
    c.loop-place-test.true c.requires.ready c.requires.held.0 c.loop-place.invariant

pub loop-place-preserved : goal.loop-place-preserved
loop-place-preserved c =
    let d = c.args.w.now in
    let d1 = c.loop-place.w in
    let home = c.args.home in
    let i = c.loop-place.invariant in
    let h = item-held home d d1 c.in_ok-array.array c.args.values.now c.loop-place.place _ c.loop-place-test.true
    c.requires.ready c.requires.held.0 i in
    filling-next home d d1 c.in_ok-array.array c.args.values.now c.loop-place.place _ c.loop-place-test.true
    c.requires.ready c.requires.held.0 i c.store_element.new.w (omega arith) c.in_ok-store_element.ensures.stored
    (c.in_ok-store_element.ensures.keeps i.changed.ready (inside-still home d d1 i.changed c.requires.side) h).changed

pub returns-in_err-store_element-clause-keeps : goal.returns-in_err-store_element-clause-keeps
returns-in_err-store_element-clause-keeps c =
    let d = c.args.w.now in
    let d1 = c.loop-place.w in
    let home = c.args.home in
    let i = c.loop-place.invariant in
    let h = item-held home d d1 c.in_ok-array.array c.args.values.now c.loop-place.place _ c.loop-place-test.true
    c.requires.ready c.requires.held.0 i in
    let k = c.in_err-store_element.ensures.keeps i.changed.ready (inside-still home d d1 i.changed c.requires.side) h in
    let p = err_from_is_err_and c.from_residual-in_err-store_element.result
    c.from_residual-in_err-store_element.ensures.1 in
    rw p.1
    (record { changed = changed-then home d d1 c.store_element.new.w i.changed k.changed; holds = tt })

pub returns-clause-makes : goal.returns-clause-makes
returns-clause-makes c =
    let d = c.args.w.now in
    let n = names_of d in
    let values = c.args.values.now in
    filling-went c.args.home d c.loop-place.w c.in_ok-array.array (values_in n values)
    (omega (arith, length-map values (Resolve n)))
    (subst (λ (xs : List Value). IsFilling d c.loop-place.w c.args.home c.in_ok-array.array (values_in n xs))
    (take_all c.loop-place.place values c.loop-place-test.false) c.loop-place.invariant)

pub returns-clause-keeps : goal.returns-clause-keeps
returns-clause-keeps c = record {
  changed = c.loop-place.invariant.changed;
  holds = (array-object c.loop-place.w c.args.home c.in_ok-array.array c.loop-place.invariant.array, tt);
}
