use Rattle.std.proofs.Common.{refl, ◌∷◌, []}
use Rattle.std.proofs.lemmas.Result.{err_from_is_err_and}
use Rattle.mb_frames.proofs.HeldLess.{text-value-held, value-datum}
use Rattle.mb_frames.proofs.Keeping.{inside-still, keeps-halted, keeps-then}
use Rattle.mb_frames.proofs.Leaving.{holds-still}
use Rattle.mb_frames.proofs.Readying.{changed-then}
use Rattle.mb_frames.specs.Held.{HeldObject}
use Rattle.mb_frames.specs.Sorts.{AnObject}
use Rattle.mb_base.specs.declared.value.Value.TheVariants as v
use Rattle.mb_parts.proofs.Texting.{texts-changed}
use Rattle.mb_reflect.proofs.Doing.{halted}
use Rattle.mb_reflect.proofs.Messages.{bare-later, bare-open, done-message, done-no-text, message, no-message}
use Rattle.mb_reflect.proofs.failures.with_message.Goals as goal
use Rattle.std.proofs.Common.{false, true}

pub returns-in_err-text-clause-keeps : goal.returns-in_err-text-clause-keeps
returns-in_err-text-clause-keeps c = λ wanted g.
    let p = err_from_is_err_and c.from_residual.result c.from_residual.ensures.1 in
    rw (p.1, c.in_err-text.ensures.kept) (halted c.args.home wanted p.0 c.args.w.now c.requires.acts.ready)

pub put-requires-clause-object : goal.put-requires-clause-object
put-requires-clause-object c =
    let d = c.args.w.now in
    let d1 = c.text_from.new.w in
    let a = c.requires.acts in
    (holds-still c.args.home d d1 a.ready (texts-changed c.args.home d d1 c.in_ok-text.ensures.grew a.ready)
    (HeldObject c.args.error ∷ []) (a.holds.0, tt)).0.within

pub put-requires-clause-full : goal.put-requires-clause-full
put-requires-clause-full c = rw c.in-Some.is at c.in_ok-text.ensures.within

pub put-requires-clause-name : goal.put-requires-clause-name
put-requires-clause-name c = no-message

pub type_error-requires-clause-ready : goal.type_error-requires-clause-ready
type_error-requires-clause-ready c =
    (texts-changed c.args.home c.args.w.now c.text_from.new.w c.in_ok-text.ensures.grew c.requires.acts.ready).ready

pub type_error-requires-clause-side : goal.type_error-requires-clause-side
type_error-requires-clause-side c =
    inside-still c.args.home c.args.w.now c.text_from.new.w
    (texts-changed c.args.home c.args.w.now c.text_from.new.w c.in_ok-text.ensures.grew c.requires.acts.ready)
    c.requires.acts.side

pub returns-in_err-put-in-Some-clause-keeps : goal.returns-in_err-put-in-Some-clause-keeps
returns-in_err-put-in-Some-clause-keeps c = λ wanted g.
    let d = c.args.w.now in
    let d1 = c.text_from.new.w in
    let d2 = c.put.new.w in
    let home = c.args.home in
    let a = c.requires.acts in
    let t = c.in_ok-text.ensures.grew in
    let k = texts-changed home d d1 t a.ready in
    let within = rw c.in-Some.is at c.in_ok-text.ensures.within in
    let b = bare-later home d d1 t a.ready a.side c.args.error a.holds.0 c.requires.error c.args.message wanted in
    let p = err_from_is_err_and c.from_residual-in_err-put-in-Some.result
    c.from_residual-in_err-put-in-Some.ensures.1 in
    let q = (c.put.ensures.keeps home (bare-open d1 home c.args.error b) k.ready (inside-still home d d1 k a.side) (
      value-datum d1 home (v.Text c.in-Some.text) true false true
          (text-value-held d1 home c.in-Some.text within),
      tt,
    )).changed in
    rw p.1 (keeps-halted home wanted p.0 d d2 (changed-then home d d1 d2 k q))

pub returns-in_ok-put-in-Some-clause-part : goal.returns-in_ok-put-in-Some-clause-part
returns-in_ok-put-in-Some-clause-part c = λ f.
    let d = c.args.w.now in
    let d1 = c.text_from.new.w in
    let home = c.args.home in
    let a = c.requires.acts in
    let t = c.in_ok-text.ensures.grew in
    let within = rw c.in-Some.is at c.in_ok-text.ensures.within in
    let b = bare-later home d d1 t a.ready a.side c.args.error a.holds.0 c.requires.error c.args.message AnObject in
    rw c.value.ensures
    (done-message home d d1 t a.ready a.side c.args.error a.holds.0 c.requires.error c.args.message AnObject
    c.put.new.w c.in-Some.text within (c.in_ok-put-in-Some.ensures.keeps home (bare-open d1 home c.args.error b)) f
    c.in_ok-put-in-Some.ensures.puts (rw c.in-Some.is at c.in_ok-text.ensures.text) refl).part

pub returns-in_ok-put-in-Some-clause-keeps : goal.returns-in_ok-put-in-Some-clause-keeps
returns-in_ok-put-in-Some-clause-keeps c = λ wanted g.
    let d = c.args.w.now in
    let d1 = c.text_from.new.w in
    let home = c.args.home in
    let a = c.requires.acts in
    let t = c.in_ok-text.ensures.grew in
    let within = rw c.in-Some.is at c.in_ok-text.ensures.within in
    let b = bare-later home d d1 t a.ready a.side c.args.error a.holds.0 c.requires.error c.args.message wanted in
    rw c.value.ensures
    (done-message home d d1 t a.ready a.side c.args.error a.holds.0 c.requires.error c.args.message wanted
    c.put.new.w c.in-Some.text within (c.in_ok-put-in-Some.ensures.keeps home (bare-open d1 home c.args.error b)) 0
    c.in_ok-put-in-Some.ensures.puts (rw c.in-Some.is at c.in_ok-text.ensures.text) g).keeps

pub returns-in-None-clause-part : goal.returns-in-None-clause-part
returns-in-None-clause-part c = λ f.
    let a = c.requires.acts in
    (done-no-text c.args.home c.args.w.now c.text_from.new.w c.in_ok-text.ensures.grew a.ready a.side c.args.error
    a.holds.0 c.requires.error c.args.message AnObject c.type_error.result c.type_error.new.w f
    (rw c.in-None.is at c.in_ok-text.ensures.text)
    (record { part = c.type_error.ensures.part f; keeps = c.type_error.ensures.keeps AnObject })).part

pub returns-in-None-clause-keeps : goal.returns-in-None-clause-keeps
returns-in-None-clause-keeps c = λ wanted g.
    let d = c.args.w.now in
    let d1 = c.text_from.new.w in
    keeps-then c.args.home wanted c.type_error.result d d1 c.type_error.new.w
    (texts-changed c.args.home d d1 c.in_ok-text.ensures.grew c.requires.acts.ready)
    (c.type_error.ensures.keeps wanted)
