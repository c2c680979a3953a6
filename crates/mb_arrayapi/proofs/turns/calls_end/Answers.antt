use Rattle.std.proofs.Common.{None, Some, refl}
use Rattle.mb_arrayapi.proofs.Acting.{Part-same, Part-value, gives}
use Rattle.mb_arrayapi.proofs.turns.calls_end.Goals as goal
use Rattle.mb_arrayapi.specs.machine.Turning.{calls_ended}
use Rattle.mb_base.specs.declared.value.Value.TheVariants as v
use Rattle.mb_frames.proofs.HeldLess.{array-object, object-value, undefined-held}
use Rattle.mb_frames.specs.Holding.{callback_held}
use Rattle.mb_frames.specs.Sorts.{AValue}
use Rattle.mb_frames.specs.declared.arrays.Callback.TheVariants as callback
use Rattle.mb_model.specs.Writing.{type_error}
use Rattle.mb_world.specs.Image.{names_of}

pub returns-in-ForEach-clause-part : goal.returns-in-ForEach-clause-part
returns-in-ForEach-clause-part c = λ f.
    let d = c.args.w.now in
    let q = c.in-ForEach in
    rw (q.is, c.value.ensures)
    (Part-value c.args.home d f (calls_ended (names_of d) c.args.home.0 (callback.ForEach q.function q.this))
    v.Undefined
    tt refl)

pub returns-in-ForEach-clause-keeps : goal.returns-in-ForEach-clause-keeps
returns-in-ForEach-clause-keeps c =
    let d = c.args.w.now in
    let home = c.args.home in
    rw c.value.ensures
    (gives d home (callback_held c.args.callback) c.requires.acts v.Undefined (undefined-held d home))

pub returns-in-Map-clause-part : goal.returns-in-Map-clause-part
returns-in-Map-clause-part c = λ f.
    let d = c.args.w.now in
    let q = c.in-Map in
    let h = rw q.is at c.requires.acts.holds in
    rw (q.is, c.value-in-Map.ensures)
    (Part-value c.args.home d f (calls_ended (names_of d) c.args.home.0 (callback.Map q.function q.this q.array))
    (v.Object q.array) h.1.1.0.within refl)

pub returns-in-Map-clause-keeps : goal.returns-in-Map-clause-keeps
returns-in-Map-clause-keeps c =
    let d = c.args.w.now in
    let home = c.args.home in
    let q = c.in-Map in
    let h = rw q.is at c.requires.acts.holds in
    rw c.value-in-Map.ensures
    (gives d home (callback_held c.args.callback) c.requires.acts (v.Object q.array)
    (object-value d home q.array (array-object d home q.array h.1.1.0)))

pub returns-in-Filter-clause-part : goal.returns-in-Filter-clause-part
returns-in-Filter-clause-part c = λ f.
    let d = c.args.w.now in
    let q = c.in-Filter in
    let h = rw q.is at c.requires.acts.holds in
    rw (q.is, c.value-in-Filter.ensures)
    (Part-value c.args.home d f
    (calls_ended (names_of d) c.args.home.0 (callback.Filter q.function q.this q.array q.count))
    (v.Object q.array) h.1.1.0.within refl)

pub returns-in-Filter-clause-keeps : goal.returns-in-Filter-clause-keeps
returns-in-Filter-clause-keeps c =
    let d = c.args.w.now in
    let home = c.args.home in
    let q = c.in-Filter in
    let h = rw q.is at c.requires.acts.holds in
    rw c.value-in-Filter.ensures
    (gives d home (callback_held c.args.callback) c.requires.acts (v.Object q.array)
    (object-value d home q.array (array-object d home q.array h.1.1.0)))

pub returns-in-Some-clause-part : goal.returns-in-Some-clause-part
returns-in-Some-clause-part c = λ f.
    let d = c.args.w.now in
    let q = c.in-Reduce in
    let x = c.in-Some.x in
    let h = rw (q.is, c.in-Some.is) at c.requires.acts.holds in
    rw (q.is, c.in-Some.is, c.value-in-Some.ensures)
    (Part-value c.args.home d f (calls_ended (names_of d) c.args.home.0 (callback.Reduce q.function (Some x))) x
    h.1.0.within refl)

pub returns-in-Some-clause-keeps : goal.returns-in-Some-clause-keeps
returns-in-Some-clause-keeps c =
    let q = c.in-Reduce in
    let h = rw (q.is, c.in-Some.is) at c.requires.acts.holds in
    rw c.value-in-Some.ensures
    (gives c.args.w.now c.args.home (callback_held c.args.callback) c.requires.acts c.in-Some.x h.1.0)

pub returns-in-None-clause-part : goal.returns-in-None-clause-part
returns-in-None-clause-part c = λ f.
    let d = c.args.w.now in
    let q = c.in-Reduce in
    rw (q.is, c.in-None.is)
    (Part-same c.args.home c.type_error.result d c.type_error.new.w f f
    (calls_ended (names_of d) c.args.home.0 (callback.Reduce q.function None)) (type_error c.args.home.0) refl
    (c.type_error.ensures.part f))

pub returns-in-None-clause-keeps : goal.returns-in-None-clause-keeps
returns-in-None-clause-keeps c = c.type_error.ensures.keeps AValue
