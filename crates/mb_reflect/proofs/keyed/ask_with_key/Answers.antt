use Rattle.std.proofs.Common.{◌∷◌}
use Rattle.std.proofs.lemmas.Result.{err_from_is_err_and}
use Rattle.mb_frames.proofs.HeldLess.{key-held, value-object}
use Rattle.mb_frames.proofs.Keeping.{inside-still, keeps-then}
use Rattle.mb_frames.proofs.Leaving.{holds-in, holds-still}
use Rattle.mb_frames.specs.Held.{HeldObject}
use Rattle.mb_frames.specs.Sorts.{AValue}
use Rattle.mb_model.specs.Operations.Conversions.{to_key}
use Rattle.mb_model.specs.Writing.{◌>>=◌}
use Rattle.mb_parts.proofs.Texting.{texts-changed}
use Rattle.mb_reflect.proofs.Doing.{halted}
use Rattle.mb_reflect.proofs.Keying.{done-keyed, done-no-key}
use Rattle.mb_reflect.proofs.Rows.{done-failed, not-object}
use Rattle.mb_reflect.proofs.keyed.ask_with_key.Goals as goal
use Rattle.mb_reflect.specs.machine.Keyed.{keyed_held, keyed_rest}
use Rattle.mb_world.specs.Image.{Resolve, names_of}
use Rattle.mb_world.specs.Value.{is_object}

pub returns-in_err-key-in-Object-clause-keeps : goal.returns-in_err-key-in-Object-clause-keeps
returns-in_err-key-in-Object-clause-keeps c =
    let p = err_from_is_err_and c.from_residual.result c.from_residual.ensures.1 in
    rw (p.1, c.in_err-key-in-Object.ensures.kept) (halted c.args.home AValue p.0 c.args.w.now c.requires.acts.ready)

pub asks_with_key-requires : goal.asks_with_key-requires
asks_with_key-requires c =
    let d = c.args.w.now in
    let d1 = c.key_from.new.w in
    let home = c.args.home in
    let a = c.requires.acts in
    let id = c.in-Object.object in
    let t = texts-changed home d d1 c.in_ok-key-in-Object.ensures.grew a.ready in
    let h = rw c.in-Object.is at a.holds in
    let s = holds-still home d d1 a.ready t (HeldObject id ∷ keyed_held c.args.member)
    (value-object d home id h.0, h.1.1) in
    record {
      acts = record {
        ready = t.ready;
        side = inside-still home d d1 t a.side;
        holds = (
          s.0,
          (key-held d1 home c.in-Some.key (rw c.in-Some.is at c.in_ok-key-in-Object.ensures.within), s.1),
        );
      };
    }

pub type_error-requires-clause-ready : goal.type_error-requires-clause-ready
type_error-requires-clause-ready c =
    (texts-changed c.args.home c.args.w.now c.key_from.new.w c.in_ok-key-in-Object.ensures.grew
    c.requires.acts.ready).ready

pub type_error-requires-clause-side : goal.type_error-requires-clause-side
type_error-requires-clause-side c =
    inside-still c.args.home c.args.w.now c.key_from.new.w
    (texts-changed c.args.home c.args.w.now c.key_from.new.w c.in_ok-key-in-Object.ensures.grew
    c.requires.acts.ready) c.requires.acts.side

pub returns-in-Some-clause-part : goal.returns-in-Some-clause-part
returns-in-Some-clause-part c = λ f.
    let d = c.args.w.now in
    let d1 = c.key_from.new.w in
    let home = c.args.home in
    let a = c.requires.acts in
    let id = c.in-Object.object in
    let h = rw c.in-Object.is at a.holds in
    rw c.in-Object.is
    (done-keyed home d d1 c.asks_with_key.new.w c.in_ok-key-in-Object.ensures.grew a.ready c.args.member id c.args.key
    c.asks_with_key.result f h.0.within c.in-Some.key (holds-in d home (keyed_held c.args.member) h.1.1)
    (rw c.in-Some.is at c.in_ok-key-in-Object.ensures.key)
    (record { part = c.asks_with_key.ensures.part f; keeps = c.asks_with_key.ensures.keeps })).part

pub returns-in-Some-clause-keeps : goal.returns-in-Some-clause-keeps
returns-in-Some-clause-keeps c =
    let d = c.args.w.now in
    let d1 = c.key_from.new.w in
    keeps-then c.args.home AValue c.asks_with_key.result d d1 c.asks_with_key.new.w
    (texts-changed c.args.home d d1 c.in_ok-key-in-Object.ensures.grew c.requires.acts.ready)
    c.asks_with_key.ensures.keeps

pub returns-in-None-clause-part : goal.returns-in-None-clause-part
returns-in-None-clause-part c = λ f.
    let d = c.args.w.now in
    let d1 = c.key_from.new.w in
    let home = c.args.home in
    let a = c.requires.acts in
    let id = c.in-Object.object in
    let h = rw c.in-Object.is at a.holds in
    rw c.in-Object.is
    (done-no-key home d d1 c.type_error.new.w c.in_ok-key-in-Object.ensures.grew a.ready c.args.member id c.args.key
    c.type_error.result f h.0.within
    (rw c.in-None.is at c.in_ok-key-in-Object.ensures.key)
    (record { part = c.type_error.ensures.part f; keeps = c.type_error.ensures.keeps AValue })).part

pub returns-in-None-clause-keeps : goal.returns-in-None-clause-keeps
returns-in-None-clause-keeps c =
    let d = c.args.w.now in
    let d1 = c.key_from.new.w in
    keeps-then c.args.home AValue c.type_error.result d d1 c.type_error.new.w
    (texts-changed c.args.home d d1 c.in_ok-key-in-Object.ensures.grew c.requires.acts.ready)
    (c.type_error.ensures.keeps AValue)

pub returns-in_default : goal.returns-in_default
returns-in_default c =
    let d = c.args.w.now in
    let home = c.args.home in
    let o = Resolve (names_of d) c.args.x in
    let y = Resolve (names_of d) c.args.key in
    let e = c.type_error-in_default.ensures in
    record {
      part = λ f.
          (done-failed home AValue c.type_error-in_default.result d c.type_error-in_default.new.w f f (is_object o)
          (λ z. to_key home.0 y >>= keyed_rest (names_of d) home.0 c.args.member o)
          (not-object (names_of d) c.args.x c.in_default.not-Object)
          (record { part = e.part f; keeps = e.keeps AValue })).part;
      keeps = e.keeps AValue;
    }
