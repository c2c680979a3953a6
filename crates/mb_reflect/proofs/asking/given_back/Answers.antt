use Rattle.std.proofs.Common.{refl}
use Rattle.mb_frames.specs.Sorts.{AValue}
use Rattle.mb_model.specs.Task.{Value as ValueAnswer}
use Rattle.mb_model.specs.Writing.{give}
use Rattle.mb_reflect.proofs.Doing.{done-object, keeps-object}
use Rattle.mb_reflect.proofs.Rows.{done-failed, done-test}
use Rattle.mb_reflect.proofs.asking.given_back.Goals as goal
use Rattle.mb_world.specs.Image.{names_of, object_in}

pub returns-then-not-done-clause-part : goal.returns-then-not-done-clause-part
returns-then-not-done-clause-part c = λ f.
    (done-failed c.args.home AValue c.type_error.result c.args.w.now c.type_error.new.w f f c.args.done
    (λ a. give (ValueAnswer (object_in (names_of c.args.w.now) c.args.object))) c.if-not-done.true
    (record { part = c.type_error.ensures.part f; keeps = c.type_error.ensures.keeps AValue })).part

pub returns-then-not-done-clause-keeps : goal.returns-then-not-done-clause-keeps
returns-then-not-done-clause-keeps c = c.type_error.ensures.keeps AValue

pub returns-clause-part : goal.returns-clause-part
returns-clause-part c = λ f.
    let d = c.args.w.now in
    let o = object_in (names_of d) c.args.object in
    let a = c.requires.acts in
    rw c.value.ensures
    (done-test c.args.home AValue _ d d f f c.args.done (λ z. give (ValueAnswer o)) c.if-not-done.false
    (done-object c.args.home d f a.ready _ c.args.object AValue a.holds.0 refl (λ log. refl))).part

pub returns-clause-keeps : goal.returns-clause-keeps
returns-clause-keeps c =
    let a = c.requires.acts in
    rw c.value.ensures (keeps-object c.args.home c.args.w.now a.ready c.args.object AValue a.holds.0 refl)
