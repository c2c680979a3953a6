use Rattle.std.proofs.Common.{[], ap, subst, sym, ◌≡◌}
use Rattle.mb_base.specs.declared.value.Value.{Value}
use Rattle.mb_frames.proofs.Apartness.{value-real}
use Rattle.mb_frames.proofs.HeldLess.{constructs}
use Rattle.mb_frames.specs.Held.{HeldConstructor}
use Rattle.mb_frames.specs.Ready.{MayHold}
use Rattle.mb_frames.specs.Sorts.{AValue}
use Rattle.mb_model.specs.BuiltIns.Arguments.{need_constructor}
use Rattle.mb_model.specs.BuiltIns.ReflectMembers.{construct_listed}
use Rattle.mb_model.specs.Meaning.{finished}
use Rattle.mb_model.specs.Operations.Calls.{list_of}
use Rattle.mb_model.specs.Task.{Answer}
use Rattle.mb_model.specs.Writing.{◌>>=◌, Does}
use Rattle.mb_reflect.proofs.Callees.{done-constructor, done-no-constructor}
use Rattle.mb_reflect.proofs.Doing.{done-by}
use Rattle.mb_reflect.proofs.functions.reflect_construct.Goals as goal
use Rattle.mb_world.specs.Image.{Image, Resolve, names_of, object_in}
use Rattle.mb_world.specs.Value.{Val}
use Rattle.std.proofs.Common.{false, ℕ}

-- what follows the tests
abbrev listed : ℕ → Val → Val → Val → Does Answer
listed s f xs target = list_of s false xs >>= construct_listed s f target

pub constructor-requires-clause-real : goal.constructor-requires-clause-real
constructor-requires-clause-real c =
    value-real c.args.w.now c.requires.acts.ready c.args.home c.args.function c.requires.acts.holds.0

pub constructor-requires-in-Some-clause-real : goal.constructor-requires-in-Some-clause-real
constructor-requires-in-Some-clause-real c =
    value-real c.args.w.now c.requires.acts.ready c.args.home c.args.target c.requires.acts.holds.1.1.0

pub list_of-requires-clause-held : goal.list_of-requires-clause-held
list_of-requires-clause-held c =
    let d = c.args.w.now in
    let home = c.args.home in
    let a = c.requires.acts in (
      a.holds.1.0,
      (
        subst (λ (y : Value). MayHold d home (HeldConstructor y)) c.in-Some.ensures.object
            (constructs d home c.args.function a.holds.0 (c.in-Some.ensures.constructs [])),
        (constructs d home c.args.target a.holds.1.1.0 (c.in-Some-constructor.ensures.constructs []), tt),
      ),
    )

pub returns-in-Some-constructor-clause-part : goal.returns-in-Some-constructor-clause-part
returns-in-Some-constructor-clause-part c = λ f.
    let d = c.args.w.now in
    let n = names_of d in
    let home = c.args.home in
    let q = Resolve n c.args.function in
    let t = Resolve n c.args.target in
    let xs = Resolve n c.args.list in
    let e : object_in n c.in-Some.object ≡ q = sym (ap (Resolve n) c.in-Some.ensures.object) in
    (done-constructor home AValue c.list_of.result d c.list_of.new.w f f q
    (λ z. need_constructor home.0 t >>= (λ u. listed home.0 q xs t)) c.in-Some.ensures.constructs
    (done-constructor home AValue c.list_of.result d c.list_of.new.w f f t (λ u. listed home.0 q xs t)
    c.in-Some-constructor.ensures.constructs
    (done-by home AValue c.list_of.result d c.list_of.new.w f f (listed home.0 q xs t finished)
    (listed home.0 (object_in n c.in-Some.object) xs t finished)
    (λ log. ap (λ (y : Val). listed home.0 y xs t finished (Image d log)) (sym e))
    (record { part = c.list_of.ensures.part f; keeps = c.list_of.ensures.keeps })))).part

pub returns-in-Some-constructor-clause-keeps : goal.returns-in-Some-constructor-clause-keeps
returns-in-Some-constructor-clause-keeps c = c.list_of.ensures.keeps

pub returns-in-None-constructor-clause-part : goal.returns-in-None-constructor-clause-part
returns-in-None-constructor-clause-part c = λ f.
    let d = c.args.w.now in
    let n = names_of d in
    let home = c.args.home in
    let q = Resolve n c.args.function in
    let t = Resolve n c.args.target in
    let xs = Resolve n c.args.list in
    (done-constructor home AValue c.type_error.result d c.type_error.new.w f f q
    (λ z. need_constructor home.0 t >>= (λ u. listed home.0 q xs t)) c.in-Some.ensures.constructs
    (done-no-constructor home AValue c.type_error.result d c.type_error.new.w f f t (λ u. listed home.0 q xs t)
    c.in-None-constructor.ensures.constructs
    (record { part = c.type_error.ensures.part f; keeps = c.type_error.ensures.keeps AValue }))).part

pub returns-in-None-constructor-clause-keeps : goal.returns-in-None-constructor-clause-keeps
returns-in-None-constructor-clause-keeps c = c.type_error.ensures.keeps AValue

pub returns-in-None-clause-part : goal.returns-in-None-clause-part
returns-in-None-clause-part c = λ f.
    let d = c.args.w.now in
    let n = names_of d in
    let home = c.args.home in
    let q = Resolve n c.args.function in
    let t = Resolve n c.args.target in
    let xs = Resolve n c.args.list in
    let e = c.type_error-in-None.ensures in
    (done-no-constructor home AValue c.type_error-in-None.result d c.type_error-in-None.new.w f f q
    (λ z. need_constructor home.0 t >>= (λ u. listed home.0 q xs t)) c.in-None.ensures.constructs
    (record { part = e.part f; keeps = e.keeps AValue })).part

pub returns-in-None-clause-keeps : goal.returns-in-None-clause-keeps
returns-in-None-clause-keeps c = c.type_error-in-None.ensures.keeps AValue
