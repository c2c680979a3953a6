-- Which rules a policy file can give.
use Rattle.std.specs.Prelude.{◌≡◌, ℕ, ◌<◌, ◌≤◌, List, length, true, false, None, All, ⊤}
use Rattle.std.specs.Str.{all_scalars}
use Rattle.std.specs.List.{flat_map}
use Rattle.std.specs.Char.Escape.{encode_utf16}
use Rattle.mb_world.specs.Value.{Val, Truth, Whole, Text}
use Rattle.mb_world.specs.Graph.{Rule, RuleKind, Hide, ReadOnly, Substitute, Revoke}
use Rattle.mb_world.specs.Formed.{is_whole}
use Rattle.mb_world.specs.Ids.{Maybe}
use Rattle.mb_policy.specs.Rows.{are_one_side}
use Rattle.mb_policy.specs.Conflicts.{conflict_in}

-- units that characters spell: there is no lone surrogate among them
pub record IsOfCharacters (units : List ℕ) : Type 0 where
  pub characters : List ℕ
  pub are_characters : all_scalars characters ≡ true
  pub spelled : units ≡ flat_map encode_utf16 characters

abbrev pub MayBeConstant : Val → Type 0
MayBeConstant (Truth b) = ⊤
MayBeConstant (Whole z) = is_whole z ≡ true
MayBeConstant (Text units) = IsOfCharacters units × (length units ≤ 1048576)
MayBeConstant x = ⊥

abbrev pub MayBeKind : RuleKind → Type 0
MayBeKind (Hide key) = IsOfCharacters key
MayBeKind ReadOnly = ⊤
MayBeKind (Substitute key value) = IsOfCharacters key × MayBeConstant value
MayBeKind Revoke = ⊤

abbrev pub IsSideNumber : ℕ → Type 0
IsSideNumber n = n < 8

-- an owner and a viewer that are both given are two sides
pub record MayBeRule (rule : Rule) : Type 0 where
  pub label : IsOfCharacters rule.label
  pub kind : MayBeKind rule.kind
  pub owner : Maybe IsSideNumber rule.owner
  pub viewer : Maybe IsSideNumber rule.viewer
  pub apart : are_one_side rule.owner rule.viewer ≡ false

-- the rules that a file can give
pub record AreRules (rules : List Rule) : Type 0 where
  pub few : length rules ≤ 1000
  pub allowed : All MayBeRule rules
  pub no_conflict : conflict_in rules ≡ None
