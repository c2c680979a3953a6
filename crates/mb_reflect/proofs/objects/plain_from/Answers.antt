use Rattle.std.proofs.Common.{arith, refl}
use Rattle.std.proofs.lemmas.Result.{err_from_is_err_and}
use Rattle.mb_frames.specs.Sorts.{AnObject}
use Rattle.mb_model.specs.Meaning.{finished}
use Rattle.mb_model.specs.Writing.{Row, is_value}
use Rattle.mb_reflect.proofs.Doing.{done-object, halted}
use Rattle.mb_reflect.proofs.Made.{done-made, new-object, plain-is-made, was-made}
use Rattle.mb_reflect.proofs.objects.plain_from.Goals as goal
use Rattle.mb_world.specs.Graph.{Graph}
use Rattle.mb_world.specs.Image.{names_of, object_in}
use Rattle.mb_world.specs.Value.{Val}
use Rattle.mb_world.specs.declared.cell.CellKind.TheVariants as kind
use Rattle.mb_frames.proofs.Keeping.{keeps-then}
use Rattle.mb_reflect.proofs.Doing.{keeps-object}

pub make-requires-clause-home : goal.make-requires-clause-home
make-requires-clause-home c = omega (arith, c.requires.acts.side, c.requires.acts.ready.formed.sides.1)

pub make-requires-clause-proto : goal.make-requires-clause-proto
make-requires-clause-proto c = c.requires.acts.holds.0.within

pub returns-in_err-made-clause-keeps : goal.returns-in_err-made-clause-keeps
returns-in_err-made-clause-keeps c = λ wanted e.
    let p = err_from_is_err_and c.from_residual.result c.from_residual.ensures.1 in
    rw (p.1, c.in_err-made.ensures.kept) (halted c.args.home wanted p.0 c.args.w.now c.requires.acts.ready)

pub returns-clause-part : goal.returns-clause-part
returns-clause-part c = λ f.
    let d = c.args.w.now in
    let d1 = c.make.new.self in
    let home = c.args.home in
    let id = c.in_ok-made.made in
    let a = c.requires.acts in
    let m = plain-is-made d home c.args.prototype a.holds.0 in
    let e = c.in_ok-made.ensures in
    let rest : Val → Graph → Row = λ o. is_value o finished in
    let k = was-made home d d1 kind.Plain c.args.prototype id refl m a.ready a.side e.made e.id in
    rw c.value.ensures
    (done-made home d d1 kind.Plain c.args.prototype id refl m a.ready a.side e.made e.id AnObject _ d1 f f rest
    (done-object home d1 f k.ready (rest (object_in (names_of d1) id)) id AnObject
    (new-object home d d1 kind.Plain c.args.prototype id refl m a.ready a.side e.made e.id) refl (λ log. refl))).part

pub returns-clause-keeps : goal.returns-clause-keeps
returns-clause-keeps c = λ wanted g.
    let d = c.args.w.now in
    let d1 = c.make.new.self in
    let home = c.args.home in
    let id = c.in_ok-made.made in
    let a = c.requires.acts in
    let m = plain-is-made d home c.args.prototype a.holds.0 in
    let e = c.in_ok-made.ensures in
    let k = was-made home d d1 kind.Plain c.args.prototype id refl m a.ready a.side e.made e.id in
    rw c.value.ensures
    (keeps-then home wanted _ d d1 d1 k
    (keeps-object home d1 k.ready id wanted
    (new-object home d d1 kind.Plain c.args.prototype id refl m a.ready a.side e.made e.id) g))
