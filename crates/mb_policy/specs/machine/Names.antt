-- What the code reads from a row on its way.
use Rattle.std.specs.Prelude.{Option, Some, None, if◌then◌else◌}
use Rattle.mb_base.specs.declared.value.Side.{Side}
use Rattle.mb_base.specs.declared.value.StrId.{StrId}
use Rattle.mb_base.specs.declared.value.Value.{Value}
use Rattle.mb_base.specs.declared.value.Value.TheVariants as v
use Rattle.toml.specs.Data.{Data, string, integer, float, boolean, datetime, array, table}
use Rattle.mb_world.specs.declared.rule.Rule.{Rule}
use Rattle.mb_world.specs.declared.rule.RuleKind.{RuleKind}
use Rattle.mb_world.specs.Formed.{is_whole}
use Rattle.mb_world.specs.Image.{side_in}
use Rattle.mb_policy.specs.Rows.{are_one_side}

-- the constant that a value other than a text is
abbrev pub plain_constant_of : Data → Option Value
plain_constant_of (boolean b) = Some (v.Bool b)
plain_constant_of (integer z) = if is_whole z then Some (v.Whole z) else None
plain_constant_of (string s) = None
plain_constant_of (float x) = None
plain_constant_of (datetime t) = None
plain_constant_of (array ds) = None
plain_constant_of (table ms) = None

-- the rule of a label and a kind with the sides that its fields name
abbrev pub rule_with_sides : StrId → RuleKind → Option (Option Side) → Option (Option Side) → Option Rule
rule_with_sides label kind (Some owner) (Some viewer) =
    if are_one_side (side_in owner) (side_in viewer) then None
    else Some (record { label = label; kind = kind; owner = owner; viewer = viewer })
rule_with_sides label kind _ _ = None
