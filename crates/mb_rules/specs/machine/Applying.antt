-- Which rules apply to a cell as a side sees it.
use Rattle.std.specs.Prelude.{List, [], Bool, true, false, ◌&&◌, nat_eq, Option, Some, None}
use Rattle.mb_base.specs.declared.value.StrId.{StrId}
use Rattle.mb_base.specs.declared.value.Key.{Key}
use Rattle.mb_base.specs.declared.value.Key.TheVariants as k
use Rattle.mb_base.specs.declared.value.Side.{Side}
use Rattle.mb_world.specs.declared.cell.Cell.{Cell}
use Rattle.mb_world.specs.declared.rule.Rule.{Rule}
use Rattle.mb_world.specs.declared.rule.RuleKind.{RuleKind}
use Rattle.mb_world.specs.declared.rule.RuleKind.TheVariants.{Hide, ReadOnly, Substitute, Revoke}
use Rattle.mb_world.specs.View.{foreign_owner, means_side}
use Rattle.mb_world.specs.Data.{labelled}
use Rattle.mb_world.specs.Image.{owner_by, side_in}

abbrev pub rules_if : (foreign : Bool) → Option StrId → List Rule → List Rule
rules_if true (Some label) rules = labelled label rules
rules_if true None rules = []
rules_if false label rules = []

-- the rules for the label of another side's object
abbrev pub rules_on : Side → Cell → List Rule → List Rule
rules_on viewer c rules = rules_if (foreign_owner viewer.0 (owner_by c.kind c.home)) c.label rules

-- the rule speaks of that owner's objects as the viewer sees them
abbrev pub speaks : (owner viewer : Side) → Rule → Bool
speaks owner viewer r = means_side (side_in r.owner) owner.0 && means_side (side_in r.viewer) viewer.0

abbrev pub is_revoke : RuleKind → Bool
is_revoke Revoke = true
is_revoke _ = false

abbrev pub is_read_only : RuleKind → Bool
is_read_only ReadOnly = true
is_read_only _ = false

abbrev pub names_key : Key → RuleKind → Bool
names_key (k.Text text index) (Hide named) = nat_eq named.0 text.0
names_key (k.Text text index) (Substitute named value) = nat_eq named.0 text.0
names_key _ _ = false

abbrev pub revokes : (owner viewer : Side) → Rule → Bool
revokes owner viewer r = speaks owner viewer r && is_revoke r.kind

abbrev pub closes : (owner viewer : Side) → Rule → Bool
closes owner viewer r = speaks owner viewer r && is_read_only r.kind

abbrev pub is_of_key : (owner viewer : Side) → Key → Rule → Bool
is_of_key owner viewer key r = speaks owner viewer r && names_key key r.kind
