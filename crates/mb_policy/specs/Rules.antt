-- What rules over the ids of a table of texts stand for.
use Rattle.std.specs.Prelude.{◌≡◌, ℕ, ◌<◌, ◌≤◌, List, [], length, true, false, Option, Err, ⊤}
use Rattle.mb_base.specs.declared.value.StrId.{StrId}
use Rattle.mb_base.specs.declared.value.Side.{Side}
use Rattle.mb_base.specs.declared.value.Value.{Value}
use Rattle.mb_base.specs.declared.value.Value.TheVariants as v
use Rattle.mb_world.specs.declared.rule.Rule.{Rule as WorldRule}
use Rattle.mb_world.specs.declared.rule.RuleKind.{RuleKind as WorldRuleKind}
use Rattle.mb_world.specs.declared.rule.RuleKind.TheVariants as r
use Rattle.mb_world.specs.Value.{Val}
use Rattle.mb_world.specs.Graph.{Rule, RuleKind}
use Rattle.mb_text.specs.Texts.{text_at}
use Rattle.mb_world.specs.Formed.{is_whole}
use Rattle.mb_world.specs.Ids.{Maybe}
use Rattle.mb_world.specs.Image.{Names, Resolve, rule_in, rule_kind_in, side_in}
use Rattle.mb_policy.specs.declared.fault.PolicyFault.{PolicyFault}
use Rattle.mb_policy.specs.declared.fault.PolicyFault.TheVariants.{Refused, NoMemory}
use Rattle.mb_policy.specs.Rows.{are_one_side}
use Rattle.mb_policy.specs.Policy.{Reading}
use Rattle.mb_policy.specs.Accepted.{IsOfCharacters}

-- a table of texts, before there is any object
abbrev pub texts_alone : List (List ℕ) → Names
texts_alone texts = record { texts = texts; stands = [] }

abbrev pub constant_by : List (List ℕ) → Value → Val
constant_by texts value = Resolve (texts_alone texts) value

abbrev pub kind_by : List (List ℕ) → WorldRuleKind → RuleKind
kind_by texts kind = rule_kind_in (texts_alone texts) kind

-- the rule with its texts
abbrev pub rule_by : List (List ℕ) → WorldRule → Rule
rule_by texts rule = rule_in (texts_alone texts) rule

-- ---- that each id is one of the table, and stands for what a file can give

abbrev pub IsText : List (List ℕ) → StrId → Type 0
IsText texts id = (id.0 < length texts) × IsOfCharacters (text_at texts id)

-- a constant names no object and no symbol
abbrev pub IsConstant : List (List ℕ) → Value → Type 0
IsConstant texts (v.Bool b) = ⊤
IsConstant texts (v.Whole z) = is_whole z ≡ true
IsConstant texts (v.Text id) = IsText texts id × (length (text_at texts id) ≤ 1048576)
IsConstant texts value = ⊥

abbrev pub IsKind : List (List ℕ) → WorldRuleKind → Type 0
IsKind texts (r.Hide key) = IsText texts key
IsKind texts r.ReadOnly = ⊤
IsKind texts (r.Substitute key value) = IsText texts key × IsConstant texts value
IsKind texts r.Revoke = ⊤

abbrev pub IsSide : Side → Type 0
IsSide side = side.0 < 8

-- an owner and a viewer that are both given are two sides
pub record AreSides (owner viewer : Option Side) : Type 0 where
  pub owner_is : Maybe IsSide owner
  pub viewer_is : Maybe IsSide viewer
  pub apart : are_one_side (side_in owner) (side_in viewer) ≡ false

abbrev pub IsRule : List (List ℕ) → WorldRule → Type 0
IsRule texts rule = IsText texts rule.label × IsKind texts rule.kind × AreSides rule.owner rule.viewer

-- ---- the refusal

-- the reading is that refusal, or memory was wanted
abbrev pub Refuses : Reading → PolicyFault → Type 0
Refuses reading (Refused kind) = reading ≡ Err kind
Refuses reading NoMemory = ⊤
