use Rattle.std.proofs.Common.{Bool, [], ap, refl, sym, ◌∙◌}
use Rattle.std.specs.Prelude.{if◌then◌else◌}
use Rattle.mb_frames.proofs.Apartness.{value-real}
use Rattle.mb_frames.proofs.HeldLess.{called, value-object, values-none}
use Rattle.mb_frames.specs.Sorts.{AValue}
use Rattle.mb_frames.specs.declared.task.Method.TheVariants as m
use Rattle.mb_model.specs.BuiltIns.ErrorsAndFunctions.{function_apply_list}
use Rattle.mb_model.specs.BuiltIns.ReflectMembers.{apply_listed}
use Rattle.mb_model.specs.Meaning.{finished}
use Rattle.mb_model.specs.Task.{Answer}
use Rattle.mb_model.specs.Writing.{Does}
use Rattle.mb_reflect.proofs.Callees.{done-called, done-uncalled}
use Rattle.mb_reflect.proofs.Doing.{done-by, done-passed-on, keeps-passed-on}
use Rattle.mb_reflect.proofs.functions.function_apply.Goals as goal
use Rattle.mb_world.specs.Image.{Image, Resolve, names_of}
use Rattle.mb_world.specs.Value.{Val, is_nullish}
use Rattle.std.proofs.Common.{ℕ}

-- by whether there is a list
abbrev chosen : ℕ → Val → Val → Val → Bool → Does Answer
chosen s f this xs b = if b then apply_listed s f this [] else function_apply_list s f this xs

pub callable-requires-clause-real : goal.callable-requires-clause-real
callable-requires-clause-real c =
    value-real c.args.w.now c.requires.acts.ready c.args.home c.args.function c.requires.acts.holds.0

pub returns-then-is_nullish-clause-part : goal.returns-then-is_nullish-clause-part
returns-then-is_nullish-clause-part c = λ f.
    let d = c.args.w.now in
    let n = names_of d in
    let home = c.args.home in
    let id = c.in-Some.object in
    let a = c.requires.acts in
    let q = Resolve n c.args.function in
    let t = Resolve n c.args.this in
    let xs = Resolve n c.args.list in
    rw (c.performs.ensures, c.new-arguments.ensures)
    (done-called home AValue _ d d f f q (λ z. chosen home.0 q t xs (is_nullish xs)) c.in-Some.ensures.calls
    (done-passed-on home d f a.ready (chosen home.0 q t xs (is_nullish xs) finished) (m.Call c.args.this []) id AValue
    (value-object d home id (rw c.in-Some.ensures.object at a.holds).0, (a.holds.1.0, (values-none d home, tt))) refl
    (λ log. ap (λ (b : Bool). chosen home.0 q t xs b finished (Image d log))
    (sym (c.is_nullish.ensures n) ∙ c.if-is_nullish.true)
    ∙ ap (λ (y : Val). apply_listed home.0 y t [] finished (Image d log))
    (ap (Resolve n) c.in-Some.ensures.object)))).part

pub returns-then-is_nullish-clause-keeps : goal.returns-then-is_nullish-clause-keeps
returns-then-is_nullish-clause-keeps c =
    let d = c.args.w.now in
    let home = c.args.home in
    let id = c.in-Some.object in
    let a = c.requires.acts in
    rw (c.performs.ensures, c.new-arguments.ensures)
    (keeps-passed-on home d a.ready (m.Call c.args.this []) id AValue
    (value-object d home id (rw c.in-Some.ensures.object at a.holds).0, (a.holds.1.0, (values-none d home, tt))) refl)

pub list_of-requires-clause-held : goal.list_of-requires-clause-held
list_of-requires-clause-held c =
    let a = c.requires.acts in (
      a.holds.1.1.0,
      (called c.args.w.now c.args.home c.args.function a.holds.0 (c.in-Some.ensures.calls []), (a.holds.1.0, tt)),
    )

pub returns-else-is_nullish-clause-part : goal.returns-else-is_nullish-clause-part
returns-else-is_nullish-clause-part c = λ f.
    let d = c.args.w.now in
    let n = names_of d in
    let home = c.args.home in
    let q = Resolve n c.args.function in
    let t = Resolve n c.args.this in
    let xs = Resolve n c.args.list in
    (done-called home AValue c.list_of.result d c.list_of.new.w f f q (λ z. chosen home.0 q t xs (is_nullish xs))
    c.in-Some.ensures.calls
    (done-by home AValue c.list_of.result d c.list_of.new.w f f (chosen home.0 q t xs (is_nullish xs) finished)
    (function_apply_list home.0 q t xs finished)
    (λ log. ap (λ (b : Bool). chosen home.0 q t xs b finished (Image d log))
    (sym (c.is_nullish.ensures n) ∙ c.if-is_nullish.false))
    (record { part = c.list_of.ensures.part f; keeps = c.list_of.ensures.keeps }))).part

pub returns-else-is_nullish-clause-keeps : goal.returns-else-is_nullish-clause-keeps
returns-else-is_nullish-clause-keeps c = c.list_of.ensures.keeps

pub returns-in-None-clause-part : goal.returns-in-None-clause-part
returns-in-None-clause-part c = λ f.
    let d = c.args.w.now in
    let n = names_of d in
    let home = c.args.home in
    let q = Resolve n c.args.function in
    let xs = Resolve n c.args.list in
    (done-uncalled home AValue c.type_error.result d c.type_error.new.w f f q
    (λ z. chosen home.0 q (Resolve n c.args.this) xs (is_nullish xs)) c.in-None.ensures.calls
    (record { part = c.type_error.ensures.part f; keeps = c.type_error.ensures.keeps AValue })).part

pub returns-in-None-clause-keeps : goal.returns-in-None-clause-keeps
returns-in-None-clause-keeps c = c.type_error.ensures.keeps AValue
