use Rattle.std.proofs.Common.{[], Some, ◌∷◌}
use Rattle.std.proofs.lemmas.Result.{err_from_is_err_and}
use Rattle.mb_frames.proofs.HeldLess.{text-if-held}
use Rattle.mb_frames.proofs.Keeping.{inside-still, keeps-then}
use Rattle.mb_frames.specs.Held.{HeldTextIf, HeldValue}
use Rattle.mb_frames.specs.Sorts.{AValue}
use Rattle.mb_intrinsics.proofs.Sides.{acts-after, halted, thrown-after}
use Rattle.mb_intrinsics.proofs.Symbols.{after-texts, symbol-none, symbol-text-known}
use Rattle.mb_intrinsics.specs.machine.Acting.{Acting}
use Rattle.mb_model.specs.BuiltIns.Basics.{symbol_described, symbol_of}
use Rattle.mb_model.specs.Meaning.{finished}
use Rattle.mb_model.specs.Writing.{type_error}
use Rattle.mb_parts.proofs.Texting.{texts-changed}
use Rattle.mb_world.specs.Image.{Resolve, names_of, text_in}
use Rattle.mb_intrinsics.proofs.basics.symbol_described.Goals as goal

pub returns-in_err-text-clause-keeps : goal.returns-in_err-text-clause-keeps
returns-in_err-text-clause-keeps c =
    let p = err_from_is_err_and c.from_residual.result c.from_residual.ensures.1 in
    rw (p.1, c.in_err-text.ensures.kept)
    (halted c.args.w.now c.args.home (HeldValue c.args.x ∷ []) c.requires.acting p.0)

pub new_symbol-requires : goal.new_symbol-requires
new_symbol-requires c =
    let d = c.args.w.now in
    let d1 = c.text_from.new.w in
    let home = c.args.home in
    let k = texts-changed home d d1 c.in_ok-text.ensures.grew c.requires.acting.ready in
    let a : Acting d1 home (HeldTextIf (Some c.in-Some.text) ∷ []) = record {
      ready = k.ready;
      takes_part = inside-still home d d1 k c.requires.acting.takes_part;
      holds = (text-if-held d1 home (Some c.in-Some.text) (rw c.in-Some.is at c.in_ok-text.ensures.within), tt);
    } in
    record { acting = a }

pub type_error-requires : goal.type_error-requires
type_error-requires c =
    let d = c.args.w.now in
    let d1 = c.text_from.new.w in
    acts-after d c.args.home (HeldValue c.args.x ∷ []) c.requires.acting d1
    (texts-changed c.args.home d d1 c.in_ok-text.ensures.grew c.requires.acting.ready)

pub returns-in-Some-clause-row : goal.returns-in-Some-clause-row
returns-in-Some-clause-row c = λ f.
    let d = c.args.w.now in
    let d1 = c.text_from.new.w in
    let home = c.args.home in
    after-texts home c.new_symbol.result d d1 c.new_symbol.new.w f f
    (symbol_described home.0 (Resolve (names_of d) c.args.x) finished)
    (symbol_of (Some (text_in (names_of d1) c.in-Some.text)) finished) c.in_ok-text.ensures.grew
    (λ log. symbol-text-known home.0 d c.args.x log (text_in (names_of d1) c.in-Some.text)
    (rw c.in-Some.is at c.in_ok-text.ensures.text))
    (c.new_symbol.ensures.row f)

pub returns-in-Some-clause-keeps : goal.returns-in-Some-clause-keeps
returns-in-Some-clause-keeps c =
    let d = c.args.w.now in
    let d1 = c.text_from.new.w in
    keeps-then c.args.home AValue c.new_symbol.result d d1 c.new_symbol.new.w
    (texts-changed c.args.home d d1 c.in_ok-text.ensures.grew c.requires.acting.ready) c.new_symbol.ensures.keeps

pub returns-in-None-clause-row : goal.returns-in-None-clause-row
returns-in-None-clause-row c = λ f.
    let d = c.args.w.now in
    let home = c.args.home in
    after-texts home c.type_error.result d c.text_from.new.w c.type_error.new.w f f
    (symbol_described home.0 (Resolve (names_of d) c.args.x) finished) (type_error home.0 finished)
    c.in_ok-text.ensures.grew
    (λ log. symbol-none home.0 d c.args.x log (rw c.in-None.is at c.in_ok-text.ensures.text))
    (c.type_error.ensures.part f)

pub returns-in-None-clause-keeps : goal.returns-in-None-clause-keeps
returns-in-None-clause-keeps c =
    let d = c.args.w.now in
    let d1 = c.text_from.new.w in
    thrown-after d c.args.home (HeldValue c.args.x ∷ []) c.requires.acting d1
    (texts-changed c.args.home d d1 c.in_ok-text.ensures.grew c.requires.acting.ready) c.type_error.result
    c.type_error.new.w
    (c.type_error.ensures.keeps AValue)
