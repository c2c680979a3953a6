use Rattle.std.proofs.Common.{drop}
use Rattle.mb_frames.specs.Resolved.{keys_of}
use Rattle.mb_frames.specs.Sorts.{AValue}
use Rattle.mb_model.specs.BuiltIns.ObjectMembers.{settle_keys}
use Rattle.mb_reflect.proofs.Rows.{done-failed, done-test}
use Rattle.mb_reflect.proofs.settling.settled.Goals as goal
use Rattle.mb_world.specs.Image.{names_of, object_in}

pub returns-then-not-done-clause-part : goal.returns-then-not-done-clause-part
returns-then-not-done-clause-part c =
    let d = c.args.w.now in
    let f = c.args.fuel.now in
    (done-failed c.args.home AValue c.type_error.result d c.type_error.new.w f f c.args.done
    (λ a. settle_keys c.args.home.0 (object_in (names_of d) c.args.object) c.args.frozen
    (drop c.args.next (keys_of (names_of d) c.args.keys))) c.if-not-done.true
    (record { part = c.type_error.ensures.part f; keeps = c.type_error.ensures.keeps AValue })).part

pub returns-then-not-done-clause-keeps : goal.returns-then-not-done-clause-keeps
returns-then-not-done-clause-keeps c = c.type_error.ensures.keeps AValue

pub returns-clause-part : goal.returns-clause-part
returns-clause-part c =
    let d = c.args.w.now in
    let a = c.requires.acts in
    (done-test c.args.home AValue c.settle_from.result d d c.args.fuel.now c.settle_from.new.fuel c.args.done
    (λ z. settle_keys c.args.home.0 (object_in (names_of d) c.args.object) c.args.frozen
    (drop c.args.next (keys_of (names_of d) c.args.keys))) c.if-not-done.false
    (record { part = c.settle_from.ensures.part d a; keeps = c.settle_from.ensures.keeps d a })).part
