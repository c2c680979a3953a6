use Rattle.std.proofs.Common.{ap, ◌∙◌, sym}
use Rattle.mb_base.specs.declared.value.StrId.{StrId}
use Rattle.mb_world.specs.Data.{length_units}
use Rattle.mb_world.proofs.Arrays.{place-found, place-new}
use Rattle.mb_world.proofs.world.making.length_text.Goals as goal

pub returns-in-Some : goal.returns-in-Some
returns-in-Some c =
    ap (λ n. let id : StrId = record { 0 = n } in id) (sym (place-found c.args.texts.now length_units c.in-Some.id.0 c.in-Some.ensures.distinct c.in-Some.ensures.text))

pub returns-else-len-gt-MOST : goal.returns-else-len-gt-MOST
returns-else-len-gt-MOST c =
    ap (λ n. let id : StrId = record { 0 = n } in id) (c.len-len.ensures.len ∙ sym (place-new c.args.texts.now length_units (sym c.in-None.ensures.found)))
