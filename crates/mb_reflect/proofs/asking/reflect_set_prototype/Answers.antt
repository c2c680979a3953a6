use Rattle.std.proofs.Common.{◌||◌, refl, sym, ◌∙◌}
use Rattle.mb_frames.proofs.HeldLess.{value-object}
use Rattle.mb_frames.specs.Sorts.{AValue}
use Rattle.mb_frames.specs.declared.reflecting.ReflectFrame.TheVariants as r
use Rattle.mb_frames.specs.declared.task.Method.TheVariants as m
use Rattle.mb_model.specs.BuiltIns.Arguments.{flag_row}
use Rattle.mb_model.specs.Task.{SetPrototypeOf}
use Rattle.mb_model.specs.Writing.{◌>>=◌, unless_type_error}
use Rattle.mb_reflect.proofs.Doing.{done-asked, keeps-asked}
use Rattle.mb_reflect.proofs.Rows.{done-failed, done-test, is-object, not-object, prototype-held}
use Rattle.mb_reflect.proofs.asking.reflect_set_prototype.Goals as goal
use Rattle.mb_world.specs.Image.{Resolve, names_of, object_in}
use Rattle.mb_world.specs.Value.{is_null, is_object}

pub returns-then-not-may_be_prototype-clause-part : goal.returns-then-not-may_be_prototype-clause-part
returns-then-not-may_be_prototype-clause-part c = λ f.
    let d = c.args.w.now in
    let home = c.args.home in
    let o = object_in (names_of d) c.in-Object.object in
    let y = Resolve (names_of d) c.args.prototype in
    rw c.in-Object.is
    (done-test home AValue c.type_error.result d c.type_error.new.w f f (is_object o)
    (λ z. unless_type_error home.0 (is_object y || is_null y) >>= (λ u. flag_row home.0 (SetPrototypeOf y) o))
    (is-object (names_of d) c.in-Object.object)
    (done-failed home AValue c.type_error.result d c.type_error.new.w f f (is_object y || is_null y)
    (λ u. flag_row home.0 (SetPrototypeOf y) o)
    (sym (c.may_be_prototype.ensures.may (names_of d)) ∙ c.if-not-may_be_prototype.true)
    (record { part = c.type_error.ensures.part f; keeps = c.type_error.ensures.keeps AValue }))).part

pub returns-then-not-may_be_prototype-clause-keeps : goal.returns-then-not-may_be_prototype-clause-keeps
returns-then-not-may_be_prototype-clause-keeps c = c.type_error.ensures.keeps AValue

pub returns-else-not-may_be_prototype-clause-part : goal.returns-else-not-may_be_prototype-clause-part
returns-else-not-may_be_prototype-clause-part c = λ f.
    let d = c.args.w.now in
    let home = c.args.home in
    let id = c.in-Object.object in
    let o = object_in (names_of d) id in
    let y = Resolve (names_of d) c.args.prototype in
    let a = c.requires.acts in
    let p = prototype-held d home c.args.prototype a.holds.1.0
    (c.may_be_prototype.ensures.prototype c.if-not-may_be_prototype.false) in
    rw (c.in-Object.is, c.waits.ensures)
    (done-test home AValue _ d d f f (is_object o)
    (λ z. unless_type_error home.0 (is_object y || is_null y) >>= (λ u. flag_row home.0 (SetPrototypeOf y) o))
    (is-object (names_of d) id)
    (done-test home AValue _ d d f f (is_object y || is_null y)
    (λ u. flag_row home.0 (SetPrototypeOf y) o)
    (sym (c.may_be_prototype.ensures.may (names_of d)) ∙ c.if-not-may_be_prototype.false)
    (done-asked home d f a.ready _ r.Truth (m.SetPrototypeOf c.args.prototype) id AValue tt
    (value-object d home id (rw c.in-Object.is at a.holds).0, (p, tt)) refl refl (λ log. refl)))).part

pub returns-else-not-may_be_prototype-clause-keeps : goal.returns-else-not-may_be_prototype-clause-keeps
returns-else-not-may_be_prototype-clause-keeps c =
    let d = c.args.w.now in
    let home = c.args.home in
    let id = c.in-Object.object in
    let a = c.requires.acts in
    let p = prototype-held d home c.args.prototype a.holds.1.0
    (c.may_be_prototype.ensures.prototype c.if-not-may_be_prototype.false) in
    rw c.waits.ensures
    (keeps-asked home d a.ready r.Truth (m.SetPrototypeOf c.args.prototype) id AValue tt
    (value-object d home id (rw c.in-Object.is at a.holds).0, (p, tt)) refl refl)

pub returns-in_default : goal.returns-in_default
returns-in_default c =
    let d = c.args.w.now in
    let home = c.args.home in
    let o = Resolve (names_of d) c.args.x in
    let y = Resolve (names_of d) c.args.prototype in
    let e = c.type_error-in_default.ensures in
    record {
      part = λ f.
          (done-failed home AValue c.type_error-in_default.result d c.type_error-in_default.new.w f f (is_object o)
          (λ z. unless_type_error home.0 (is_object y || is_null y) >>= (λ u. flag_row home.0 (SetPrototypeOf y) o))
          (not-object (names_of d) c.args.x c.in_default.not-Object)
          (record { part = e.part f; keeps = e.keeps AValue })).part;
      keeps = e.keeps AValue;
    }
