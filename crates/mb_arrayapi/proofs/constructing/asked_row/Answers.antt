use Rattle.std.proofs.Common.{Ok, [], codes, refl, sym, true, ◌∙◌, ◌∷◌}
use Rattle.std.proofs.lemmas.Result.{err_from_is_err_and}
use Rattle.mb_arrayapi.proofs.Acting.{Part-same, halts}
use Rattle.mb_arrayapi.proofs.Constructs.{fn-asked, fn-own}
use Rattle.mb_arrayapi.proofs.MemberRows.{Part-gets, gets-kept}
use Rattle.mb_arrayapi.proofs.constructing.asked_row.Goals as goal
use Rattle.mb_arrayapi.specs.machine.Constructing.{array_place}
use Rattle.mb_base.specs.declared.value.Value.TheVariants as v
use Rattle.mb_frames.specs.Held.{HeldObject, HeldValues}
use Rattle.mb_frames.specs.Resolved.{values_in}
use Rattle.mb_frames.specs.Sorts.{AnObject}
use Rattle.mb_frames.specs.declared.arrays.ArrayFrame.TheVariants as y
use Rattle.mb_frames.specs.declared.frame.Frame.TheVariants as x
use Rattle.mb_frames.specs.declared.frame.Move.TheVariants as move
use Rattle.mb_frames.specs.declared.task.Method.TheVariants as m
use Rattle.mb_frames.specs.declared.task.Task.TheVariants as task
use Rattle.mb_model.specs.BuiltIns.Arguments.{prototype_or}
use Rattle.mb_model.specs.BuiltIns.Arrays.{array_fn, array_from}
use Rattle.mb_model.specs.Operations.Calls.{get}
use Rattle.mb_model.specs.Writing.{◌>>=◌}
use Rattle.mb_world.specs.Image.{names_of, object_in}
use Rattle.mb_world.specs.Key.{Named}
use Rattle.mb_world.specs.Standard.{array_prototype}
use Rattle.mb_world.specs.Value.{BuiltIn}

pub is_array_function-own-requires : goal.is_array_function-own-requires
is_array_function-own-requires c = c.requires.acts.holds.1.0.within

pub array_made-requires : goal.array_made-requires
array_made-requires c =
    let a = c.requires.acts in
    record { acts = record { ready = a.ready; side = a.side; holds = (a.holds.0, tt) } }

pub returns-then-own-clause-part : goal.returns-then-own-clause-part
returns-then-own-clause-part c = λ f.
    let d = c.args.w.now in
    let n = names_of d in
    let s = c.args.home.0 in
    let vs = values_in n c.args.arguments in
    Part-same c.args.home c.array_made.result d c.array_made.new.w f f
    (array_fn s vs (BuiltIn array_place) (object_in n c.args.asked)) (array_from s vs array_prototype)
    (fn-own n s vs c.args.asked (sym c.is_array_function-own.ensures ∙ c.if-own.true))
    (c.array_made.ensures.part f)

pub returns-in_err-key-clause-keeps : goal.returns-in_err-key-clause-keeps
returns-in_err-key-clause-keeps c =
    let p = err_from_is_err_and c.from_residual.result c.from_residual.ensures.1 in
    rw (p.1, c.in_err-key.ensures.kept)
    (halts c.args.w.now c.args.home (HeldValues c.args.arguments ∷ HeldObject c.args.asked ∷ []) c.requires.acts
    AnObject p.0)

pub returns-clause-part : goal.returns-clause-part
returns-clause-part c = λ f.
    let d = c.args.w.now in
    let n = names_of d in
    let s = c.args.home.0 in
    let a = c.requires.acts in
    let o = object_in n c.args.asked in
    let vs = values_in n c.args.arguments in
    let k = c.in_ok-key.ensures in
    let asks = task.Perform (m.Get c.in_ok-key.key (v.Object c.args.asked)) c.args.asked c.args.home true in
    let go = move.Wait (x.Array (y.Prototype c.args.arguments)) asks in
    rw c.waits.ensures
    (Part-same c.args.home (Ok go) d c.prototype_key.new.w f f (array_fn s vs (BuiltIn array_place) o)
    (get s o (Named (codes "prototype")) >>= (λ p. array_from s vs (prototype_or array_prototype p)))
    (fn-asked n s vs c.args.asked (sym c.is_array_function-own.ensures ∙ c.if-own.false))
    (Part-gets c.args.home d c.prototype_key.new.w k.grew a.ready (y.Prototype c.args.arguments) (a.holds.0, tt)
    c.in_ok-key.key k.within c.args.asked a.holds.1.0 (Named (codes "prototype")) k.key f
    (λ p. array_from s vs (prototype_or array_prototype p)) refl))

pub returns-clause-keeps : goal.returns-clause-keeps
returns-clause-keeps c =
    let d = c.args.w.now in
    let a = c.requires.acts in
    let k = c.in_ok-key.ensures in
    rw c.waits.ensures
    (gets-kept c.args.home d c.prototype_key.new.w k.grew a.ready (y.Prototype c.args.arguments) (a.holds.0, tt)
    c.in_ok-key.key k.within c.args.asked a.holds.1.0 (Named (codes "prototype")) k.key AnObject refl refl)
