use Rattle.std.proofs.Common.{[], ◌∷◌}
use Rattle.std.proofs.lemmas.Result.{err_from_is_err_and}
use Rattle.mb_base.specs.declared.value.Value.TheVariants as v
use Rattle.mb_frames.proofs.HeldLess.{text-value-held}
use Rattle.mb_frames.specs.Held.{HeldValue}
use Rattle.mb_frames.specs.Sorts.{AValue}
use Rattle.mb_intrinsics.proofs.Sides.{acts-after, given-after, halted, thrown-after}
use Rattle.mb_intrinsics.proofs.Symbols.{after-texts, text-given, value-none, value-text}
use Rattle.mb_model.specs.BuiltIns.Basics.{value_string}
use Rattle.mb_model.specs.Meaning.{finished}
use Rattle.mb_model.specs.Writing.{type_error}
use Rattle.mb_parts.proofs.Texting.{texts-changed}
use Rattle.mb_world.specs.Image.{Resolve, names_of, text_in}
use Rattle.mb_intrinsics.proofs.basics.value_string.Goals as goal

pub returns-in_err-text-clause-keeps : goal.returns-in_err-text-clause-keeps
returns-in_err-text-clause-keeps c =
    let p = err_from_is_err_and c.from_residual.result c.from_residual.ensures.1 in
    rw (p.1, c.in_err-text.ensures.kept)
    (halted c.args.w.now c.args.home (HeldValue c.args.x ∷ []) c.requires.acting p.0)

pub type_error-requires : goal.type_error-requires
type_error-requires c =
    let d = c.args.w.now in
    let d1 = c.text_from.new.w in
    acts-after d c.args.home (HeldValue c.args.x ∷ []) c.requires.acting d1
    (texts-changed c.args.home d d1 c.in_ok-text.ensures.grew c.requires.acting.ready)

pub returns-in-Some-clause-row : goal.returns-in-Some-clause-row
returns-in-Some-clause-row c = λ f.
    let d = c.args.w.now in
    let d1 = c.text_from.new.w in
    let home = c.args.home in
    rw c.value.ensures
    (text-given home d d1 f c.in-Some.text (value_string home.0 (Resolve (names_of d) c.args.x) finished)
    c.in_ok-text.ensures.grew (rw c.in-Some.is at c.in_ok-text.ensures.within)
    (λ log. value-text home.0 d c.args.x log (text_in (names_of d1) c.in-Some.text)
    (rw c.in-Some.is at c.in_ok-text.ensures.text)))

pub returns-in-Some-clause-keeps : goal.returns-in-Some-clause-keeps
returns-in-Some-clause-keeps c =
    let d = c.args.w.now in
    let d1 = c.text_from.new.w in
    let home = c.args.home in
    rw c.value.ensures
    (given-after d home (HeldValue c.args.x ∷ []) c.requires.acting d1
    (texts-changed home d d1 c.in_ok-text.ensures.grew c.requires.acting.ready) (v.Text c.in-Some.text)
    (text-value-held d1 home c.in-Some.text (rw c.in-Some.is at c.in_ok-text.ensures.within)))

pub returns-in-None-clause-row : goal.returns-in-None-clause-row
returns-in-None-clause-row c = λ f.
    let d = c.args.w.now in
    let home = c.args.home in
    after-texts home c.type_error.result d c.text_from.new.w c.type_error.new.w f f
    (value_string home.0 (Resolve (names_of d) c.args.x) finished) (type_error home.0 finished)
    c.in_ok-text.ensures.grew
    (λ log. value-none home.0 d c.args.x log (rw c.in-None.is at c.in_ok-text.ensures.text))
    (c.type_error.ensures.part f)

pub returns-in-None-clause-keeps : goal.returns-in-None-clause-keeps
returns-in-None-clause-keeps c =
    let d = c.args.w.now in
    let d1 = c.text_from.new.w in
    thrown-after d c.args.home (HeldValue c.args.x ∷ []) c.requires.acting d1
    (texts-changed c.args.home d d1 c.in_ok-text.ensures.grew c.requires.acting.ready) c.type_error.result
    c.type_error.new.w
    (c.type_error.ensures.keeps AValue)
