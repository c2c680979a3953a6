use Rattle.std.proofs.Common.{[], ◌∙◌}
use Rattle.std.proofs.lemmas.Result.{err_from_is_err_and}
use Rattle.mb_arrayapi.proofs.Acting.{gives-after, halts, texted}
use Rattle.mb_arrayapi.proofs.Joins.{Part-whole}
use Rattle.mb_arrayapi.proofs.joining.joined.Goals as goal
use Rattle.mb_base.specs.declared.value.Value.TheVariants as v
use Rattle.mb_frames.proofs.HeldLess.{text-value-held}
use Rattle.mb_frames.specs.Sorts.{AValue}
use Rattle.mb_frames.specs.declared.machine.Halt.TheVariants.{NoMemory}
use Rattle.mb_parts.proofs.Writing.{TextsGrew-text, text-is, text-within}

pub returns-in_err-charge-clause-keeps : goal.returns-in_err-charge-clause-keeps
returns-in_err-charge-clause-keeps c =
    let p = err_from_is_err_and c.from_residual.result c.from_residual.ensures.1 in
    rw p.1 (halts c.args.w.now c.args.home [] c.requires.acts AValue p.0)

pub returns-in-Ok-clause-part : goal.returns-in-Ok-clause-part
returns-in-Ok-clause-part c = λ o separator place.
    let d = c.args.w.now in
    let d1 = c.intern.new.self in
    let units = c.items-units.result.now in
    let text = c.in-Ok.text in
    let t = TextsGrew-text d d1 units c.requires.acts.ready.ids c.texts-texts.ensures.ids c.in-Ok.ensures.texts in
    rw c.value.ensures
    (Part-whole c.args.home d o separator c.args.so_far.now place d1 t text
    (text-within d1 text units c.in-Ok.ensures.text)
    (text-is d1 text units c.in-Ok.ensures.text ∙ c.items-units.ensures) c.args.fuel.now c.charge.new.fuel
    (rw c.items-units.ensures at c.in_ok-charge.ensures.paid))

pub returns-in-Ok-clause-keeps : goal.returns-in-Ok-clause-keeps
returns-in-Ok-clause-keeps c =
    let d = c.args.w.now in
    let home = c.args.home in
    let d1 = c.intern.new.self in
    let a = c.requires.acts in
    let units = c.items-units.result.now in
    let t = TextsGrew-text d d1 units a.ready.ids c.texts-texts.ensures.ids c.in-Ok.ensures.texts in
    rw c.value.ensures
    (gives-after d home [] a d1 (texted d home [] a d1 t) (v.Text c.in-Ok.text)
    (text-value-held d1 home c.in-Ok.text (text-within d1 c.in-Ok.text units c.in-Ok.ensures.text)))

pub returns-in-Err-NoMemory-clause-keeps : goal.returns-in-Err-NoMemory-clause-keeps
returns-in-Err-NoMemory-clause-keeps c =
    rw c.in-Err-NoMemory.ensures.kept (halts c.args.w.now c.args.home [] c.requires.acts AValue NoMemory)
