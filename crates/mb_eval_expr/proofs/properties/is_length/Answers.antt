use Rattle.std.proofs.Common.{ap, sym, ◌∙◌, ◌≡◌}
use Rattle.mb_eval_expr.proofs.Referring.{same-pointwise}
use Rattle.mb_parts.proofs.Writing.{text-is}
use Rattle.mb_world.specs.Data.{length_units}
use Rattle.mb_world.specs.Image.{names_of, text_in}
use Rattle.mb_world.specs.Value.{same_units}
use Rattle.mb_eval_expr.proofs.properties.is_length.Goals as goal

pub returns : goal.returns
returns c =
    let e : text_in (names_of c.args.w.now) c.args.text ≡ c.units.result.now
    = text-is c.args.w.now c.args.text c.units.result.now (rw c.texts.ensures.value at c.units.ensures.text) in
    c.eq.ensures ∙ same-pointwise c.units.result.now c.as_slice.result.now
    ∙ ap (same_units c.units.result.now) c.as_slice.ensures
    ∙ ap (λ t. same_units t length_units) (sym e)
