use Rattle.std.proofs.Common.{sym, ap, ◌∙◌, subst, slice_get}
use Rattle.std.specs.List.{list_all}
use Rattle.mb_array.specs.Define.{HasItsLength, table_in}
use Rattle.mb_array.specs.machine.Done.{length_parts}
use Rattle.mb_array.specs.machine.Tried.{is_below, is_length}
use Rattle.mb_array.proofs.Tried.{has-length}
use Rattle.mb_array.proofs.tests.asked.has_length.Goals as goal

pub returns : goal.returns
returns r c =
    let d = c.args.w.now in
    let cell = c.cell-cell.ensures in
    let there = c.get-property.ensures.value in
    subst (λ x. HasItsLength d.texts (table_in x)) (sym cell.value)
    (has-length d.texts c.cell-cell.result.now.props c.in-Some.text c.in_ok-keys.keys.items c.parts.result.0 cell.distinct
    (ap (λ t. slice_get t c.in-Some.text.0) (sym c.texts.ensures.value) ∙ c.in-Some.ensures.text)
    (ap is_length (sym there) ∙ c.fits_length.ensures)
    (ap (λ p. p.0) c.parts.ensures ∙ ap (λ p. (length_parts p).0) there)
    c.in_ok-keys.ensures.order
    (ap (list_all (is_below c.parts.result.0)) (sym c.deref.ensures.value) ∙ c.all_below.ensures))
