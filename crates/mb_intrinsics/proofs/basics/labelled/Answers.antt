use Rattle.std.proofs.Common.{[], Some, ap, ◌∷◌}
use Rattle.std.proofs.lemmas.Result.{err_from_is_err_and}
use Rattle.mb_base.specs.declared.value.Value.TheVariants as v
use Rattle.mb_frames.proofs.Passed.{Part-by}
use Rattle.mb_frames.specs.Held.{HeldValue}
use Rattle.mb_frames.specs.Sorts.{AValue}
use Rattle.mb_intrinsics.proofs.Labels.{labelled-changed, labelled-held, labelled-row, no-text}
use Rattle.mb_intrinsics.proofs.Sides.{acts, given-after, halted, thrown}
use Rattle.mb_model.specs.BuiltIns.Basics.{labelled}
use Rattle.mb_model.specs.Meaning.{finished}
use Rattle.mb_model.specs.Writing.{type_error}
use Rattle.mb_world.specs.Data.{made}
use Rattle.mb_world.specs.Image.{Image, Resolve, names_of}
use Rattle.mb_world.specs.Value.{text_of}
use Rattle.mb_world.specs.declared.cell.CellKind.TheVariants.{Plain}
use Rattle.mb_intrinsics.proofs.basics.labelled.Goals as goal

pub built_in-prototype-requires : goal.built_in-prototype-requires
built_in-prototype-requires c =
    (acts c.args.w.now c.args.home (HeldValue c.args.text ∷ []) c.requires.acting).built_ins 13 (λ e. cc)

pub returns-in_err-object-in-Text-clause-keeps : goal.returns-in_err-object-in-Text-clause-keeps
returns-in_err-object-in-Text-clause-keeps c =
    let p = err_from_is_err_and c.from_residual.result c.from_residual.ensures.1 in
    rw (p.1, c.in_err-object-in-Text.ensures.kept)
    (halted c.args.w.now c.args.home (HeldValue c.args.text ∷ []) c.requires.acting p.0)

pub type_error-requires : goal.type_error-requires
type_error-requires c = acts c.args.w.now c.args.home (HeldValue c.args.text ∷ []) c.requires.acting

pub returns-in_ok-object-in-Text-clause-row : goal.returns-in_ok-object-in-Text-clause-row
returns-in_ok-object-in-Text-clause-row c = λ f.
    let d = c.args.w.now in
    let home = c.args.home in
    let a = c.requires.acting in
    let proto = c.built_in-prototype.result in
    let label = c.in-Text.label in
    let id = c.in_ok-object-in-Text.object in
    let h = rw c.in-Text.is at a.holds.0 in
    let q = (labelled-held d home proto label c.built_in-prototype.ensures.held h.within id
    c.in_ok-object-in-Text.ensures.id).within in
    rw (c.in-Text.is, c.value.ensures)
    (labelled-row d c.make.new.self home proto label id a.ready.ids c.in_ok-object-in-Text.ensures.made
    c.in_ok-object-in-Text.ensures.id (acts d home (HeldValue c.args.text ∷ []) a).side
    c.built_in-prototype.ensures.ids h.within
    c.built_in-prototype.ensures.value (rw c.in_ok-object-in-Text.ensures.made q) f)

pub returns-in_ok-object-in-Text-clause-keeps : goal.returns-in_ok-object-in-Text-clause-keeps
returns-in_ok-object-in-Text-clause-keeps c =
    let d = c.args.w.now in
    let home = c.args.home in
    let a = c.requires.acting in
    let proto = c.built_in-prototype.result in
    let label = c.in-Text.label in
    let id = c.in_ok-object-in-Text.object in
    let h = rw c.in-Text.is at a.holds.0 in
    rw (c.in_ok-object-in-Text.ensures.made, c.value.ensures)
    (given-after d home (HeldValue c.args.text ∷ []) a (made d home Plain proto (Some label))
    (labelled-changed d home proto label c.built_in-prototype.ensures.held h.within a.ready a.takes_part) (v.Object id)
    (labelled-held d home proto label c.built_in-prototype.ensures.held h.within id c.in_ok-object-in-Text.ensures.id))

pub returns-in_default : goal.returns-in_default
returns-in_default c =
    let d = c.args.w.now in
    let home = c.args.home in
    record {
      row = λ f.
          Part-by home c.type_error.result d c.type_error.new.w f f
          (labelled home.0 (text_of (Resolve (names_of d) c.args.text)) finished) (type_error home.0 finished)
          (λ log. ap (λ o. labelled home.0 o finished (Image d log))
          (no-text (names_of d) c.args.text c.in_default.not-Text))
          (c.type_error.ensures.part f);
      keeps = thrown d home (HeldValue c.args.text ∷ []) c.requires.acting c.type_error.result c.type_error.new.w
          (c.type_error.ensures.keeps AValue);
    }
