use Rattle.std.proofs.Common.{List, ap, drop, refl, ◌∙◌}
use Rattle.std.proofs.lemmas.Result.{err_from_is_err_and}
use Rattle.mb_frames.proofs.Apartness.{value-real}
use Rattle.mb_frames.proofs.HeldLess.{value-object}
use Rattle.mb_frames.specs.Resolved.{values_in}
use Rattle.mb_frames.specs.Sorts.{AValue}
use Rattle.mb_frames.specs.declared.task.Method.TheVariants as m
use Rattle.mb_model.specs.BuiltIns.Arguments.{arg}
use Rattle.mb_model.specs.BuiltIns.ReflectMembers.{apply_listed}
use Rattle.mb_model.specs.Meaning.{finished}
use Rattle.mb_reflect.proofs.Callees.{done-called, done-uncalled}
use Rattle.mb_reflect.proofs.Doing.{done-passed-on, halted, keeps-passed-on}
use Rattle.mb_reflect.proofs.Given.{passed-held, passed-is, rest-held, rest-is}
use Rattle.mb_reflect.proofs.functions.function_call.Goals as goal
use Rattle.mb_reflect.specs.machine.Arguments.{passed}
use Rattle.mb_world.specs.Image.{Image, Resolve, names_of, object_in}
use Rattle.mb_world.specs.Value.{Val}

pub callable-requires-clause-real : goal.callable-requires-clause-real
callable-requires-clause-real c =
    value-real c.args.w.now c.requires.acts.ready c.args.home c.args.function c.requires.acts.holds.0

pub returns-in_err-arguments-in-Some-clause-keeps : goal.returns-in_err-arguments-in-Some-clause-keeps
returns-in_err-arguments-in-Some-clause-keeps c =
    let p = err_from_is_err_and c.from_residual.result c.from_residual.ensures.1 in
    rw p.1 (halted c.args.home AValue p.0 c.args.w.now c.requires.acts.ready)

pub returns-in_ok-arguments-in-Some-clause-part : goal.returns-in_ok-arguments-in-Some-clause-part
returns-in_ok-arguments-in-Some-clause-part c = λ f.
    let d = c.args.w.now in
    let n = names_of d in
    let home = c.args.home in
    let id = c.in-Some.object in
    let xs = c.args.arguments.now in
    let a = c.requires.acts in
    let q = Resolve n c.args.function in
    rw (c.performs.ensures, c.argument-this.ensures, c.in_ok-arguments-in-Some.ensures)
    (done-called home AValue _ d d f f q (λ z. apply_listed home.0 q (arg (values_in n xs) 0) (drop 1 (values_in n xs)))
    c.in-Some.ensures.calls
    (done-passed-on home d f a.ready _ (m.Call (passed xs 0) (drop 1 xs)) id AValue (
      value-object d home id (rw c.in-Some.ensures.object at a.holds).0,
      (passed-held d home xs a.holds.1.0 0, (rest-held d home xs a.holds.1.0, tt)),
    ) refl
    (λ log. ap (λ (y : Val). apply_listed home.0 y (arg (values_in n xs) 0) (drop 1 (values_in n xs)) finished
    (Image d log)) (ap (Resolve n) c.in-Some.ensures.object)
    ∙ ap (λ (y : Val). apply_listed home.0 (object_in n id) y (drop 1 (values_in n xs)) finished (Image d log))
    (passed-is n xs 0)
    ∙ ap (λ (ys : List Val). apply_listed home.0 (object_in n id) (Resolve n (passed xs 0)) ys finished (Image d log))
    (rest-is n xs)))).part

pub returns-in_ok-arguments-in-Some-clause-keeps : goal.returns-in_ok-arguments-in-Some-clause-keeps
returns-in_ok-arguments-in-Some-clause-keeps c =
    let d = c.args.w.now in
    let home = c.args.home in
    let id = c.in-Some.object in
    let xs = c.args.arguments.now in
    let a = c.requires.acts in
    rw (c.performs.ensures, c.argument-this.ensures, c.in_ok-arguments-in-Some.ensures)
    (keeps-passed-on home d a.ready (m.Call (passed xs 0) (drop 1 xs)) id AValue (
      value-object d home id (rw c.in-Some.ensures.object at a.holds).0,
      (passed-held d home xs a.holds.1.0 0, (rest-held d home xs a.holds.1.0, tt)),
    ) refl)

pub returns-in-None-clause-part : goal.returns-in-None-clause-part
returns-in-None-clause-part c = λ f.
    let d = c.args.w.now in
    let n = names_of d in
    let home = c.args.home in
    let xs = c.args.arguments.now in
    let q = Resolve n c.args.function in
    (done-uncalled home AValue c.type_error.result d c.type_error.new.w f f q
    (λ z. apply_listed home.0 q (arg (values_in n xs) 0) (drop 1 (values_in n xs))) c.in-None.ensures.calls
    (record { part = c.type_error.ensures.part f; keeps = c.type_error.ensures.keeps AValue })).part

pub returns-in-None-clause-keeps : goal.returns-in-None-clause-keeps
returns-in-None-clause-keeps c = c.type_error.ensures.keeps AValue
