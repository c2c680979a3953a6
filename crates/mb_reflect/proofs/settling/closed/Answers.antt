use Rattle.std.proofs.Common.{refl}
use Rattle.mb_frames.specs.Sorts.{AValue}
use Rattle.mb_frames.specs.declared.reflecting.ReflectFrame.TheVariants as r
use Rattle.mb_frames.specs.declared.task.Method.TheVariants as m
use Rattle.mb_model.specs.BuiltIns.ObjectMembers.{settle_keys}
use Rattle.mb_model.specs.Task.{OwnPropertyKeys}
use Rattle.mb_model.specs.Writing.{◌>>=◌, keys, perform}
use Rattle.mb_reflect.proofs.Doing.{done-asked, keeps-asked}
use Rattle.mb_reflect.proofs.Rows.{done-failed, done-test}
use Rattle.mb_reflect.proofs.settling.closed.Goals as goal
use Rattle.mb_world.specs.Image.{names_of, object_in}

pub returns-then-not-closed-clause-part : goal.returns-then-not-closed-clause-part
returns-then-not-closed-clause-part c = λ f.
    let o = object_in (names_of c.args.w.now) c.args.object in
    (done-failed c.args.home AValue c.type_error.result c.args.w.now c.type_error.new.w f f c.args.closed
    (λ a. keys (perform c.args.home.0 OwnPropertyKeys o) >>= settle_keys c.args.home.0 o c.args.frozen)
    c.if-not-closed.true
    (record { part = c.type_error.ensures.part f; keeps = c.type_error.ensures.keeps AValue })).part

pub returns-then-not-closed-clause-keeps : goal.returns-then-not-closed-clause-keeps
returns-then-not-closed-clause-keeps c = c.type_error.ensures.keeps AValue

pub returns-clause-part : goal.returns-clause-part
returns-clause-part c = λ f.
    let d = c.args.w.now in
    let o = object_in (names_of d) c.args.object in
    let a = c.requires.acts in
    rw c.waits.ensures
    (done-test c.args.home AValue _ d d f f c.args.closed
    (λ z. keys (perform c.args.home.0 OwnPropertyKeys o) >>= settle_keys c.args.home.0 o c.args.frozen)
    c.if-not-closed.false
    (done-asked c.args.home d f a.ready _ (r.SettledKeys c.args.object c.args.frozen) m.OwnPropertyKeys c.args.object
    AValue a.holds a.holds refl refl (λ log. refl))).part

pub returns-clause-keeps : goal.returns-clause-keeps
returns-clause-keeps c =
    let a = c.requires.acts in
    rw c.waits.ensures
    (keeps-asked c.args.home c.args.w.now a.ready (r.SettledKeys c.args.object c.args.frozen) m.OwnPropertyKeys
    c.args.object AValue a.holds a.holds refl refl)
