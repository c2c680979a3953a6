use Rattle.std.proofs.Common.{sym, ◌+◌, ◌∙◌, ◌∷◌}
use Rattle.std.proofs.lemmas.Result.{err_from_is_err_and}
use Rattle.mb_arrayapi.proofs.Acting.{Part-same, halts}
use Rattle.mb_arrayapi.proofs.Calls.{called-in}
use Rattle.mb_arrayapi.proofs.calling.called.Goals as goal
use Rattle.mb_arrayapi.specs.machine.Turning.{elements_held, turns_from}
use Rattle.mb_frames.specs.Held.{HeldValue}
use Rattle.mb_frames.specs.Rest.Arraying.{callback_called}
use Rattle.mb_frames.specs.Sorts.{AValue}
use Rattle.mb_frames.specs.declared.arrays.Callback.TheVariants as callback
use Rattle.mb_frames.specs.declared.arrays.Turn.TheVariants as turn
use Rattle.mb_model.specs.Objects.Methods.{store_element}
use Rattle.mb_model.specs.Writing.{◌>>=◌}
use Rattle.mb_world.specs.Image.{Resolve, names_of, object_in}

pub returns-in_err-count_after-in-Filter-clause-keeps : goal.returns-in_err-count_after-in-Filter-clause-keeps
returns-in_err-count_after-in-Filter-clause-keeps c =
    let p = err_from_is_err_and c.from_residual.result c.from_residual.ensures.1 in
    rw p.1
    (halts c.args.w.now c.args.home (HeldValue c.args.x ∷ HeldValue c.args.element ∷ elements_held c.args.at)
    c.requires.acts AValue p.0)

pub returns-in-Map-clause-part : goal.returns-in-Map-clause-part
returns-in-Map-clause-part c = rw c.in-Map.is (rw (c.requires.turn, c.in-Map.is) at c.stored.ensures.part)

pub returns-in_ok-count_after-in-Filter-clause-part : goal.returns-in_ok-count_after-in-Filter-clause-part
returns-in_ok-count_after-in-Filter-clause-part c =
    let d = c.args.w.now in
    let n = names_of d in
    let s = c.args.home.0 in
    let e = c.args.at in
    let o = object_in n e.object in
    let q = c.in-Filter in
    let x = Resolve n c.args.element in
    let w = Resolve n c.args.x in
    let r = c.stored-in-Filter in
    rw q.is
    (Part-same c.args.home r.result d r.new.w c.args.fuel.now r.new.fuel
    (callback_called n s o x e.place e.left w (callback.Filter q.function q.this q.array q.count))
    (store_element s (object_in n q.array) q.count x
    >>= (λ b. turns_from n s o (turn.Call (callback.Filter q.function q.this q.array (q.count + 1))) (e.place + 1)
    e.left))
    (called-in n s e.object q.function q.this q.array q.count e.place e.left x w
    (sym c.truth.ensures ∙ c.if-not-truth.false))
    (rw c.in_ok-count_after-in-Filter.ensures at r.ensures.part))
