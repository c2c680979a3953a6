use Rattle.std.proofs.Common.{Bool, None, [], ap, arith, refl, sym, ◌∙◌, ◌∷◌}
use Rattle.std.specs.Prelude.{if◌then◌else◌}
use Rattle.std.proofs.lemmas.Result.{err_from_is_err_and}
use Rattle.mb_frames.proofs.HeldAs.{made-there}
use Rattle.mb_frames.proofs.Keeping.{inside-still, keeps-then}
use Rattle.mb_frames.proofs.Leaving.{holds-still}
use Rattle.mb_frames.specs.Held.{HeldValue}
use Rattle.mb_frames.specs.Sorts.{AnObject}
use Rattle.mb_model.specs.BuiltIns.ErrorsAndFunctions.{error_message, with_message}
use Rattle.mb_model.specs.Meaning.{finished}
use Rattle.mb_model.specs.Task.{Answer}
use Rattle.mb_model.specs.Writing.{Does, Row, is_value}
use Rattle.mb_reflect.proofs.Doing.{done-by, done-object, halted, keeps-object}
use Rattle.mb_reflect.proofs.Made.{done-made, fault-is-made, new-object, was-made}
use Rattle.mb_reflect.proofs.Rows.{not-undefined}
use Rattle.mb_reflect.proofs.failures.error_made.Goals as goal
use Rattle.mb_world.proofs.Images.{value-grows}
use Rattle.mb_world.specs.Data.{new_cell}
use Rattle.mb_world.specs.Graph.{Graph}
use Rattle.mb_world.specs.Image.{Image, Resolve, names_of, object_in}
use Rattle.mb_world.specs.Value.{Val}
use Rattle.mb_world.specs.declared.cell.CellKind.TheVariants as kind

pub make-requires-clause-home : goal.make-requires-clause-home
make-requires-clause-home c = omega (arith, c.requires.acts.side, c.requires.acts.ready.formed.sides.1)

pub make-requires-clause-proto : goal.make-requires-clause-proto
make-requires-clause-proto c = c.requires.acts.holds.1.0.within

pub returns-in_err-error-clause-keeps : goal.returns-in_err-error-clause-keeps
returns-in_err-error-clause-keeps c = λ wanted g.
    let p = err_from_is_err_and c.from_residual.result c.from_residual.ensures.1 in
    rw (p.1, c.in_err-error.ensures.kept) (halted c.args.home wanted p.0 c.args.w.now c.requires.acts.ready)

pub returns-in-Undefined-clause-part : goal.returns-in-Undefined-clause-part
returns-in-Undefined-clause-part c = λ f.
    let d = c.args.w.now in
    let d1 = c.make.new.self in
    let home = c.args.home in
    let id = c.in_ok-error.error in
    let a = c.requires.acts in
    let k = kind.Fault c.args.kind in
    let m = fault-is-made d home c.args.kind c.args.prototype a.holds.1.0 in
    let e = c.in_ok-error.ensures in
    let rest : Val → Graph → Row = λ o. is_value o finished in
    let w = was-made home d d1 k c.args.prototype id refl m a.ready a.side e.made e.id in
    rw (c.in-Undefined.is, c.value.ensures)
    (done-made home d d1 k c.args.prototype id refl m a.ready a.side e.made e.id AnObject _ d1 f f rest
    (done-object home d1 f w.ready (rest (object_in (names_of d1) id)) id AnObject
    (new-object home d d1 k c.args.prototype id refl m a.ready a.side e.made e.id) refl (λ log. refl))).part

pub returns-in-Undefined-clause-keeps : goal.returns-in-Undefined-clause-keeps
returns-in-Undefined-clause-keeps c = λ wanted g.
    let d = c.args.w.now in
    let d1 = c.make.new.self in
    let home = c.args.home in
    let id = c.in_ok-error.error in
    let a = c.requires.acts in
    let k = kind.Fault c.args.kind in
    let m = fault-is-made d home c.args.kind c.args.prototype a.holds.1.0 in
    let e = c.in_ok-error.ensures in
    let w = was-made home d d1 k c.args.prototype id refl m a.ready a.side e.made e.id in
    rw c.value.ensures
    (keeps-then home wanted _ d d1 d1 w
    (keeps-object home d1 w.ready id wanted
    (new-object home d d1 k c.args.prototype id refl m a.ready a.side e.made e.id) g))

pub with_message-requires : goal.with_message-requires
with_message-requires c =
    let d = c.args.w.now in
    let d1 = c.make.new.self in
    let home = c.args.home in
    let id = c.in_ok-error.error in
    let a = c.requires.acts in
    let k = kind.Fault c.args.kind in
    let m = fault-is-made d home c.args.kind c.args.prototype a.holds.1.0 in
    let e = c.in_ok-error.ensures in
    let w = was-made home d d1 k c.args.prototype id refl m a.ready a.side e.made e.id in
    record {
      acts = record {
        ready = w.ready;
        side = inside-still home d d1 w a.side;
        holds = (
          new-object home d d1 k c.args.prototype id refl m a.ready a.side e.made e.id,
          holds-still home d d1 a.ready w (HeldValue c.args.message ∷ []) (a.holds.0, tt),
        );
      };
      error = record {
        cell = new_cell d.texts home k c.args.prototype None;
        there = rw e.made (made-there d home k c.args.prototype None id e.id);
        home_is = refl;
        counted = refl;
        no_array = refl;
        extensible = refl;
        empty = refl;
      };
    }

pub returns-in_default-clause-part : goal.returns-in_default-clause-part
returns-in_default-clause-part c = λ f.
    let d = c.args.w.now in
    let d1 = c.make.new.self in
    let home = c.args.home in
    let id = c.in_ok-error.error in
    let a = c.requires.acts in
    let k = kind.Fault c.args.kind in
    let m = fault-is-made d home c.args.kind c.args.prototype a.holds.1.0 in
    let e = c.in_ok-error.ensures in
    let y = Resolve (names_of d) c.args.message in
    let y1 = Resolve (names_of d1) c.args.message in
    let o = object_in (names_of d1) id in
    let rest : Val → Graph → Row = λ x. error_message home.0 x y finished in
    let w = was-made home d d1 k c.args.prototype id refl m a.ready a.side e.made e.id in
    (done-made home d d1 k c.args.prototype id refl m a.ready a.side e.made e.id AnObject c.with_message.result
    c.with_message.new.w f f rest
    (done-by home AnObject c.with_message.result d1 c.with_message.new.w f f (rest o)
    (with_message home.0 o y1 finished)
    (λ log. ap (λ (b : Bool). (let p : Does Answer = if b then is_value o else with_message home.0 o y in p) finished
    (Image d1 log)) (not-undefined (names_of d) c.args.message c.in_default.not-Undefined)
    ∙ ap (λ (z : Val). with_message home.0 o z finished (Image d1 log))
    (sym (value-grows d d1 w.found.grew.grows c.args.message a.holds.0.within)))
    (record { part = c.with_message.ensures.part f; keeps = c.with_message.ensures.keeps AnObject refl }))).part

pub returns-in_default-clause-keeps : goal.returns-in_default-clause-keeps
returns-in_default-clause-keeps c = λ wanted g.
    let d = c.args.w.now in
    let d1 = c.make.new.self in
    let home = c.args.home in
    let id = c.in_ok-error.error in
    let a = c.requires.acts in
    let k = kind.Fault c.args.kind in
    let m = fault-is-made d home c.args.kind c.args.prototype a.holds.1.0 in
    let e = c.in_ok-error.ensures in
    keeps-then home wanted c.with_message.result d d1 c.with_message.new.w
    (was-made home d d1 k c.args.prototype id refl m a.ready a.side e.made e.id)
    (c.with_message.ensures.keeps wanted g)
