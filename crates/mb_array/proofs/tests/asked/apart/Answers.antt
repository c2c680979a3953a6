use Rattle.std.proofs.Common.{sym, ap, ◌∙◌}
use Rattle.mb_world.specs.Data.{property_in}
use Rattle.mb_ordinary.specs.Definitions.{property_values}
use Rattle.mb_array.specs.machine.Tried.{are_plain}
use Rattle.mb_array.proofs.Tried.{plain-apart}
use Rattle.mb_array.proofs.tests.asked.apart.Goals as goal

pub returns : goal.returns
returns r c =
    plain-apart c.args.w.now c.args.o c.args.key c.args.desc c.plain_field.ensures c.plain_field-2.ensures c.plain_field-3.ensures
    (ap (λ x. are_plain (property_values (property_in c.args.key x))) c.cell.ensures.value
    ∙ ap (λ p. are_plain (property_values p)) (sym c.get-property.ensures.value) ∙ c.plain_property.ensures)
