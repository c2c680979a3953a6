use Rattle.std.proofs.Common.{◌≡◌, Some, is_some, slice_get, decimal, sym, ap, ◌∙◌, subst}
use Rattle.std.specs.Prelude.{All, IfSome}
use Rattle.mb_base.specs.declared.value.Key.TheVariants.{Text}
use Rattle.mb_text.specs.Texts.{has_text}
use Rattle.mb_props.specs.Table.{found, HasDistinctKeys}
use Rattle.mb_world.specs.Data.{cell_at}
use Rattle.mb_world.specs.Ids.{PropertyIn}
use Rattle.mb_array.specs.Define.{table_in}
use Rattle.mb_array.proofs.Listing.{no-text, an-element, no-element}
use Rattle.mb_array.proofs.indices.element_at.Goals as goal

pub returns-in_default : goal.returns-in_default
returns-in_default c =
    let d = c.args.w.now in
    let h = c.requires.cell in
    let g : All (PropertyIn d) (table_in (cell_at d c.args.o)) = subst (λ x. All (PropertyIn d) (table_in x)) (sym h.there) h.within.props_in in
    no-text d h.distinct (table_in (cell_at d c.args.o)) g c.args.index c.requires.index
    (sym (ap (λ t. has_text t (decimal c.args.index)) c.texts.ensures.value) ∙ sym c.in_ok-text.ensures.found ∙ ap is_some c.in_default.is)

pub returns-in-Some-get : goal.returns-in-Some-get
returns-in-Some-get c =
    let d = c.args.w.now in
    let h = c.requires.cell in
    let i = c.args.index in
    let text = c.in-Some.text in
    let g : All (PropertyIn d) (table_in (cell_at d c.args.o)) = subst (λ x. All (PropertyIn d) (table_in x)) (sym h.there) h.within.props_in in
    let at : slice_get c.texts.result.now text.0 ≡ Some (decimal i) = subst (λ r. IfSome r (λ id. slice_get c.texts.result.now id.0 ≡ Some (decimal i))) c.in-Some.is c.in_ok-text.ensures.text in
    an-element d h.distinct (table_in (cell_at d c.args.o)) g i c.requires.index text c.in-Some-get.field-0
    (ap (λ t. slice_get t text.0) (sym c.texts.ensures.value) ∙ at)
    (subst (λ x. HasDistinctKeys (table_in x)) (sym c.cell.ensures.value) c.get.ensures.distinct)
    (ap (λ x. found (table_in x) (Text text i)) c.cell.ensures.value ∙ sym c.get.ensures.value ∙ c.in-Some-get.is)

pub returns-in-None : goal.returns-in-None
returns-in-None c =
    let d = c.args.w.now in
    let h = c.requires.cell in
    let i = c.args.index in
    let text = c.in-Some.text in
    let g : All (PropertyIn d) (table_in (cell_at d c.args.o)) = subst (λ x. All (PropertyIn d) (table_in x)) (sym h.there) h.within.props_in in
    let at : slice_get c.texts.result.now text.0 ≡ Some (decimal i) = subst (λ r. IfSome r (λ id. slice_get c.texts.result.now id.0 ≡ Some (decimal i))) c.in-Some.is c.in_ok-text.ensures.text in
    no-element d h.distinct (table_in (cell_at d c.args.o)) g i c.requires.index text
    (ap (λ t. slice_get t text.0) (sym c.texts.ensures.value) ∙ at)
    (ap (λ x. found (table_in x) (Text text i)) c.cell.ensures.value ∙ sym c.get.ensures.value ∙ c.in-None.is)
