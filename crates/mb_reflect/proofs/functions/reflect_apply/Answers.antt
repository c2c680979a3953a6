use Rattle.std.proofs.Common.{[]}
use Rattle.mb_frames.proofs.Apartness.{value-real}
use Rattle.mb_frames.proofs.HeldLess.{called}
use Rattle.mb_frames.specs.Sorts.{AValue}
use Rattle.mb_model.specs.BuiltIns.ErrorsAndFunctions.{function_apply_list}
use Rattle.mb_reflect.proofs.Callees.{done-called, done-uncalled}
use Rattle.mb_reflect.proofs.functions.reflect_apply.Goals as goal
use Rattle.mb_world.specs.Image.{Resolve, names_of}

pub callable-requires-clause-real : goal.callable-requires-clause-real
callable-requires-clause-real c =
    value-real c.args.w.now c.requires.acts.ready c.args.home c.args.function c.requires.acts.holds.0

pub list_of-requires-clause-held : goal.list_of-requires-clause-held
list_of-requires-clause-held c =
    let a = c.requires.acts in (
      a.holds.1.1.0,
      (called c.args.w.now c.args.home c.args.function a.holds.0 (c.in-Some.ensures.calls []), (a.holds.1.0, tt)),
    )

pub returns-in-Some-clause-part : goal.returns-in-Some-clause-part
returns-in-Some-clause-part c = λ f.
    let n = names_of c.args.w.now in
    let q = Resolve n c.args.function in
    (done-called c.args.home AValue c.list_of.result c.args.w.now c.list_of.new.w f f q
    (λ z. function_apply_list c.args.home.0 q (Resolve n c.args.this) (Resolve n c.args.list))
    c.in-Some.ensures.calls
    (record { part = c.list_of.ensures.part f; keeps = c.list_of.ensures.keeps })).part

pub returns-in-Some-clause-keeps : goal.returns-in-Some-clause-keeps
returns-in-Some-clause-keeps c = c.list_of.ensures.keeps

pub returns-in-None-clause-part : goal.returns-in-None-clause-part
returns-in-None-clause-part c = λ f.
    let n = names_of c.args.w.now in
    let q = Resolve n c.args.function in
    (done-uncalled c.args.home AValue c.type_error.result c.args.w.now c.type_error.new.w f f q
    (λ z. function_apply_list c.args.home.0 q (Resolve n c.args.this) (Resolve n c.args.list))
    c.in-None.ensures.calls
    (record { part = c.type_error.ensures.part f; keeps = c.type_error.ensures.keeps AValue })).part

pub returns-in-None-clause-keeps : goal.returns-in-None-clause-keeps
returns-in-None-clause-keeps c = c.type_error.ensures.keeps AValue
