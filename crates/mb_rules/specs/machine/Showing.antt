-- An own property as the rule of its key shows it.
use Rattle.std.specs.Prelude.{false, Option, Some, None}
use Rattle.mb_base.specs.declared.value.Value.{Value}
use Rattle.mb_desc.specs.declared.descriptor.Full.{Full}
use Rattle.mb_desc.specs.declared.descriptor.Full.TheVariants.{Datum}
use Rattle.mb_desc.specs.Descriptors.{is_enumerable, is_configurable}
use Rattle.mb_world.specs.declared.rule.RuleKind.{RuleKind}
use Rattle.mb_world.specs.declared.rule.RuleKind.TheVariants.{Hide, Substitute}

abbrev pub constant : Value → Full Value → Full Value
constant value p = Datum value false (is_enumerable p) (is_configurable p)

abbrev pub shown_by : Option RuleKind → Option (Full Value) → Option (Full Value)
shown_by (Some (Hide named)) p = None
shown_by (Some (Substitute named value)) None = None
shown_by (Some (Substitute named value)) (Some p) = Some (constant value p)
shown_by _ p = p
