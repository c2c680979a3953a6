use Rattle.std.proofs.Common.{List, [], ap, length, refl, sym, ◌∙◌, ◌≡◌}
use Rattle.std.proofs.lemmas.Result.{err_from_is_err_and}
use Rattle.mb_base.specs.declared.value.Value.TheVariants as v
use Rattle.mb_frames.proofs.HeldLess.{text-value-held}
use Rattle.mb_frames.proofs.Passed.{Part-by}
use Rattle.mb_frames.specs.Sorts.{AValue}
use Rattle.mb_frames.specs.declared.machine.Halt.TheVariants.{NoMemory}
use Rattle.mb_intrinsics.proofs.Sides.{acts, given-after, halted, thrown}
use Rattle.mb_intrinsics.proofs.Symbols.{described-long, described-short, not-long, text-given}
use Rattle.mb_model.specs.BuiltIns.Basics.{symbol_string}
use Rattle.mb_model.specs.Meaning.{finished}
use Rattle.mb_model.specs.Writing.{is_value, range_error}
use Rattle.mb_parts.proofs.Texting.{texts-changed}
use Rattle.mb_parts.proofs.Writing.{TextsGrew-text, text-is, text-within}
use Rattle.mb_world.specs.Graph.{Item}
use Rattle.mb_world.specs.Image.{Image, names_of}
use Rattle.mb_world.specs.Symbols.{symbol_text}
use Rattle.mb_world.specs.Value.{Text}
use Rattle.mb_intrinsics.proofs.basics.described.Goals as goal

pub returns-in_err-units-clause-keeps : goal.returns-in_err-units-clause-keeps
returns-in_err-units-clause-keeps c =
    let p = err_from_is_err_and c.from_residual.result c.from_residual.ensures.1 in
    rw p.1 (halted c.args.w.now c.args.home [] c.requires.acting p.0)

pub returns-in-Ok-clause-row : goal.returns-in-Ok-clause-row
returns-in-Ok-clause-row c = λ f.
    let d = c.args.w.now in
    let home = c.args.home in
    let d1 = c.intern.new.self in
    let units = c.deref.result.now in
    let text = c.in-Ok.text in
    let t = TextsGrew-text d d1 units c.requires.acting.ready.ids c.texts-texts.ensures.ids c.in-Ok.ensures.texts in
    let known : (log : List Item) → symbol_text (Image d log) c.args.symbol.0 ≡ units
    = λ log. c.in_ok-units.ensures log ∙ sym c.deref.ensures.value in
    let short = not-long (length units) (λ l. let z = c.in-Ok.ensures.long.1 l in cc) in
    rw c.value.ensures
    (text-given home d d1 f text (symbol_string home.0 c.args.symbol.0 finished) t
    (text-within d1 text units c.in-Ok.ensures.text)
    (λ log. described-short d c.args.symbol c.requires.symbol home.0 units known short log
    ∙ ap (λ x. is_value (Text x) finished (Image d log)) (sym (text-is d1 text units c.in-Ok.ensures.text))))

pub returns-in-Ok-clause-keeps : goal.returns-in-Ok-clause-keeps
returns-in-Ok-clause-keeps c =
    let d = c.args.w.now in
    let home = c.args.home in
    let d1 = c.intern.new.self in
    let a = c.requires.acting in
    let units = c.deref.result.now in
    let t = TextsGrew-text d d1 units a.ready.ids c.texts-texts.ensures.ids c.in-Ok.ensures.texts in
    rw c.value.ensures
    (given-after d home [] a d1 (texts-changed home d d1 t a.ready) (v.Text c.in-Ok.text)
    (text-value-held d1 home c.in-Ok.text (text-within d1 c.in-Ok.text units c.in-Ok.ensures.text)))

pub throws-requires : goal.throws-requires
throws-requires c = rw c.in-Err-Long.ensures.kept (acts c.args.w.now c.args.home [] c.requires.acting)

pub returns-in-Err-Long-clause-row : goal.returns-in-Err-Long-clause-row
returns-in-Err-Long-clause-row c = λ f.
    let d = c.args.w.now in
    let home = c.args.home in
    let units = c.deref.result.now in
    let known : (log : List Item) → symbol_text (Image d log) c.args.symbol.0 ≡ units
    = λ log. c.in_ok-units.ensures log ∙ sym c.deref.ensures.value in
    let h = rw c.in-Err-Long.field-0-is at c.in-Err-Long.ensures.long in
    let k = rw c.in-Err-Long.ensures.kept at c.throws.ensures.part f in
    Part-by home c.throws.result d c.throws.new.w f f (symbol_string home.0 c.args.symbol.0 finished)
    (range_error home.0 finished)
    (λ log. described-long d c.args.symbol c.requires.symbol home.0 units known (h.0 refl) log) k

pub returns-in-Err-Long-clause-keeps : goal.returns-in-Err-Long-clause-keeps
returns-in-Err-Long-clause-keeps c =
    let h = rw c.in-Err-Long.ensures.kept at c.throws.ensures.keeps AValue in
    thrown c.args.w.now c.args.home [] c.requires.acting c.throws.result c.throws.new.w h

pub returns-clause-keeps : goal.returns-clause-keeps
returns-clause-keeps c =
    rw c.in-Err-NoMemory.ensures.kept (halted c.args.w.now c.args.home [] c.requires.acting NoMemory)
