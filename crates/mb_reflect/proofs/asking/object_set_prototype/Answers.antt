use Rattle.std.proofs.Common.{◌||◌, Bool, ap, not, refl, sym, true, ◌∙◌, ◌≡◌}
use Rattle.std.specs.Prelude.{if◌then◌else◌}
use Rattle.mb_frames.proofs.HeldLess.{value-object}
use Rattle.mb_frames.specs.Sorts.{AValue}
use Rattle.mb_frames.specs.declared.reflecting.ReflectFrame.TheVariants as r
use Rattle.mb_frames.specs.declared.task.Method.TheVariants as m
use Rattle.mb_model.specs.BuiltIns.ObjectMembers.{object_set_prototype}
use Rattle.mb_model.specs.Meaning.{finished}
use Rattle.mb_model.specs.Task.{Answer, Value as ValueAnswer}
use Rattle.mb_model.specs.Writing.{◌>>=◌, Does, give, unless_type_error}
use Rattle.mb_reflect.proofs.Doing.{done-asked, done-by, done-value, keeps-asked, keeps-given}
use Rattle.mb_reflect.proofs.Rows.{done-failed, done-test, is-object, not-object, prototype-held}
use Rattle.mb_reflect.proofs.asking.object_set_prototype.Goals as goal
use Rattle.mb_world.specs.Image.{Image, Resolve, names_of, object_in}
use Rattle.mb_world.specs.Value.{Val, is_null, is_nullish, is_object}
use Rattle.std.proofs.Common.{ℕ}

-- what follows the tests
abbrev ends : ℕ → Val → Val → Bool → Does Answer
ends s o y b = if b then object_set_prototype s o y else give (ValueAnswer o)

abbrev tested : ℕ → Val → Val → Does Answer
tested s o y = unless_type_error s (not (is_nullish o)) >>= (λ u. ends s o y (is_object o))

pub returns-then-not-may_be_prototype-clause-part : goal.returns-then-not-may_be_prototype-clause-part
returns-then-not-may_be_prototype-clause-part c = λ f.
    let d = c.args.w.now in
    let home = c.args.home in
    let o = Resolve (names_of d) c.args.x in
    let y = Resolve (names_of d) c.args.prototype in
    (done-failed home AValue c.type_error.result d c.type_error.new.w f f (is_object y || is_null y)
    (λ z. tested home.0 o y)
    (sym (c.may_be_prototype.ensures.may (names_of d)) ∙ c.if-not-may_be_prototype.true)
    (record { part = c.type_error.ensures.part f; keeps = c.type_error.ensures.keeps AValue })).part

pub returns-then-not-may_be_prototype-clause-keeps : goal.returns-then-not-may_be_prototype-clause-keeps
returns-then-not-may_be_prototype-clause-keeps c = c.type_error.ensures.keeps AValue

pub returns-then-is_nullish-clause-part : goal.returns-then-is_nullish-clause-part
returns-then-is_nullish-clause-part c = λ f.
    let d = c.args.w.now in
    let home = c.args.home in
    let o = Resolve (names_of d) c.args.x in
    let y = Resolve (names_of d) c.args.prototype in
    let e = c.type_error-then-is_nullish.ensures in
    (done-test home AValue c.type_error-then-is_nullish.result d c.type_error-then-is_nullish.new.w f f
    (is_object y || is_null y) (λ z. tested home.0 o y)
    (sym (c.may_be_prototype.ensures.may (names_of d)) ∙ c.if-not-may_be_prototype.false)
    (done-failed home AValue c.type_error-then-is_nullish.result d c.type_error-then-is_nullish.new.w f f
    (not (is_nullish o)) (λ u. ends home.0 o y (is_object o))
    (ap not (sym (c.is_nullish.ensures (names_of d)) ∙ c.if-is_nullish.true))
    (record { part = e.part f; keeps = e.keeps AValue }))).part

pub returns-then-is_nullish-clause-keeps : goal.returns-then-is_nullish-clause-keeps
returns-then-is_nullish-clause-keeps c = c.type_error-then-is_nullish.ensures.keeps AValue

pub returns-in-Object-clause-part : goal.returns-in-Object-clause-part
returns-in-Object-clause-part c = λ f.
    let d = c.args.w.now in
    let home = c.args.home in
    let id = c.in-Object.object in
    let o = object_in (names_of d) id in
    let y = Resolve (names_of d) c.args.prototype in
    let a = c.requires.acts in
    let p = prototype-held d home c.args.prototype a.holds.1.0
    (c.may_be_prototype.ensures.prototype c.if-not-may_be_prototype.false) in
    let q : not (is_nullish o) ≡ true = ap not (rw c.in-Object.is at (sym (c.is_nullish.ensures (names_of d)) ∙
    c.if-is_nullish.false)) in
    rw (c.in-Object.is, c.waits.ensures)
    (done-test home AValue _ d d f f (is_object y || is_null y) (λ z. tested home.0 o y)
    (sym (c.may_be_prototype.ensures.may (names_of d)) ∙ c.if-not-may_be_prototype.false)
    (done-test home AValue _ d d f f (not (is_nullish o)) (λ u. ends home.0 o y (is_object o)) q
    (done-by home AValue _ d d f f (ends home.0 o y (is_object o) finished) (object_set_prototype home.0 o y finished)
    (λ log. ap (λ (b : Bool). ends home.0 o y b finished (Image d log)) (is-object (names_of d) id))
    (done-asked home d f a.ready _ (r.GivenBack id) (m.SetPrototypeOf c.args.prototype) id AValue
    (value-object d home id (rw c.in-Object.is at a.holds).0, tt)
    (value-object d home id (rw c.in-Object.is at a.holds).0, (p, tt)) refl refl (λ log. refl))))).part

pub returns-in-Object-clause-keeps : goal.returns-in-Object-clause-keeps
returns-in-Object-clause-keeps c =
    let d = c.args.w.now in
    let home = c.args.home in
    let id = c.in-Object.object in
    let a = c.requires.acts in
    let p = prototype-held d home c.args.prototype a.holds.1.0
    (c.may_be_prototype.ensures.prototype c.if-not-may_be_prototype.false) in
    rw c.waits.ensures
    (keeps-asked home d a.ready (r.GivenBack id) (m.SetPrototypeOf c.args.prototype) id AValue
    (value-object d home id (rw c.in-Object.is at a.holds).0, tt)
    (value-object d home id (rw c.in-Object.is at a.holds).0, (p, tt)) refl refl)

pub returns-in_default : goal.returns-in_default
returns-in_default c =
    let d = c.args.w.now in
    let home = c.args.home in
    let o = Resolve (names_of d) c.args.x in
    let y = Resolve (names_of d) c.args.prototype in
    let a = c.requires.acts in
    record {
      part = λ f.
          rw c.value.ensures
          (done-test home AValue _ d d f f (is_object y || is_null y) (λ z. tested home.0 o y)
          (sym (c.may_be_prototype.ensures.may (names_of d)) ∙ c.if-not-may_be_prototype.false)
          (done-test home AValue _ d d f f (not (is_nullish o)) (λ u. ends home.0 o y (is_object o))
          (ap not (sym (c.is_nullish.ensures (names_of d)) ∙ c.if-is_nullish.false))
          (done-value home d f a.ready (ends home.0 o y (is_object o) finished) c.args.x a.holds.0
          (λ log. ap (λ (b : Bool). ends home.0 o y b finished (Image d log))
          (not-object (names_of d) c.args.x c.in_default.not-Object))))).part;
      keeps = rw c.value.ensures (keeps-given home d a.ready c.args.x a.holds.0);
    }
