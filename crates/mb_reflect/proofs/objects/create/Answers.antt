use Rattle.std.proofs.Common.{◌||◌, refl, sym, ◌∙◌}
use Rattle.mb_frames.specs.Sorts.{AValue}
use Rattle.mb_model.specs.BuiltIns.ObjectMembers.{plain_from}
use Rattle.mb_model.specs.Writing.{◌>>=◌, unless_type_error}
use Rattle.mb_reflect.proofs.Rows.{done-failed, done-test, not-undefined, prototype-held}
use Rattle.mb_reflect.proofs.objects.create.Goals as goal
use Rattle.mb_world.specs.Image.{Resolve, names_of}
use Rattle.mb_world.specs.Value.{is_null, is_object, is_undefined}

pub returns-then-not-may_be_prototype-clause-part : goal.returns-then-not-may_be_prototype-clause-part
returns-then-not-may_be_prototype-clause-part c = λ f.
    let d = c.args.w.now in
    let home = c.args.home in
    let y = Resolve (names_of d) c.args.prototype in
    let u = Resolve (names_of d) c.args.properties in
    (done-failed home AValue c.type_error.result d c.type_error.new.w f f (is_object y || is_null y)
    (λ z. unless_type_error home.0 (is_undefined u) >>= (λ v. plain_from home.0 y))
    (sym (c.may_be_prototype.ensures.may (names_of d)) ∙ c.if-not-may_be_prototype.true)
    (record { part = c.type_error.ensures.part f; keeps = c.type_error.ensures.keeps AValue })).part

pub returns-then-not-may_be_prototype-clause-keeps : goal.returns-then-not-may_be_prototype-clause-keeps
returns-then-not-may_be_prototype-clause-keeps c = c.type_error.ensures.keeps AValue

pub plain_from-requires : goal.plain_from-requires
plain_from-requires c =
    let d = c.args.w.now in
    let a = c.requires.acts in
    record {
      acts = record {
        ready = a.ready;
        side = a.side;
        holds = (
          prototype-held d c.args.home c.args.prototype a.holds.0
              (c.may_be_prototype.ensures.prototype c.if-not-may_be_prototype.false),
          tt,
        );
      };
    }

pub returns-in-Undefined-clause-part : goal.returns-in-Undefined-clause-part
returns-in-Undefined-clause-part c = λ f.
    let d = c.args.w.now in
    let home = c.args.home in
    let y = Resolve (names_of d) c.args.prototype in
    rw c.in-Undefined.is
    (done-test home AValue c.plain_from.result d c.plain_from.new.w f f (is_object y || is_null y)
    (λ z. plain_from home.0 y)
    (sym (c.may_be_prototype.ensures.may (names_of d)) ∙ c.if-not-may_be_prototype.false)
    (record { part = c.plain_from.ensures.part f; keeps = c.plain_from.ensures.keeps AValue refl })).part

pub returns-in-Undefined-clause-keeps : goal.returns-in-Undefined-clause-keeps
returns-in-Undefined-clause-keeps c = c.plain_from.ensures.keeps AValue refl

pub returns-in_default : goal.returns-in_default
returns-in_default c =
    let d = c.args.w.now in
    let home = c.args.home in
    let y = Resolve (names_of d) c.args.prototype in
    let u = Resolve (names_of d) c.args.properties in
    let e = c.type_error-in_default.ensures in
    record {
      part = λ f.
          (done-test home AValue c.type_error-in_default.result d c.type_error-in_default.new.w f f
          (is_object y || is_null y) (λ z. unless_type_error home.0 (is_undefined u) >>= (λ v. plain_from home.0 y))
          (sym (c.may_be_prototype.ensures.may (names_of d)) ∙ c.if-not-may_be_prototype.false)
          (done-failed home AValue c.type_error-in_default.result d c.type_error-in_default.new.w f f (is_undefined u)
          (λ z. plain_from home.0 y) (not-undefined (names_of d) c.args.properties c.in_default.not-Undefined)
          (record { part = e.part f; keeps = e.keeps AValue }))).part;
      keeps = e.keeps AValue;
    }
