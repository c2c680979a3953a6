use Rattle.std.proofs.Common.{is_some, slice_get, sym, ap, ◌∙◌, subst}
use Rattle.mb_text.specs.Texts.{has_text}
use Rattle.mb_props.specs.Table.{found}
use Rattle.mb_world.specs.Data.{length_units, length_key}
use Rattle.mb_array.specs.Define.{HasItsLength, table_in}
use Rattle.mb_array.specs.machine.Done.{HasCell, length_parts}
use Rattle.mb_array.proofs.Lengths.{no-text, length-is}
use Rattle.mb_array.proofs.length.length_of.Goals as goal

pub unreachable-requires : goal.unreachable-requires
unreachable-requires c =
    let d = c.args.w.now in
    let cell = c.cell-cell.ensures in
    no-text d c.cell-cell.result.now.props _ cell.within.props_in
    (sym (ap (λ x. found (table_in x) (length_key d.texts)) cell.value) ∙ c.requires.length.there)
    (ap (λ t. has_text t length_units) (sym c.texts.ensures.value) ∙ sym c.find.ensures.found ∙ ap is_some c.in_default.is)

pub returns : goal.returns
returns c =
    let d = c.args.w.now in
    let cell = c.cell-cell.ensures in
    let h : HasCell d c.args.o = record { cell = c.cell-cell.result.now; there = cell.value; within = cell.within; distinct = cell.distinct } in
    length-is d c.args.o h (subst (HasItsLength d.texts) (ap table_in cell.value) c.requires.length) c.in-Some.text
    (ap (λ t. slice_get t c.in-Some.text.0) (sym c.texts.ensures.value) ∙ c.in-Some.ensures.text)
    c.parts-value.result
    (c.parts-value.ensures ∙ ap length_parts c.get.ensures.value)
