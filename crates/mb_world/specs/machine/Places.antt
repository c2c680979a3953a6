-- The index of a scope with many names: for each name, its first place.
use Rattle.std.specs.Prelude.{ℕ, ◌<◌, ◌≡◌, List, length, Option, position}
use Rattle.std.specs.Map.{lookup}
use Rattle.mb_base.specs.declared.value.StrId.{StrId}
use Rattle.mb_world.specs.declared.scope.Bound.{Bound}
use Rattle.mb_world.specs.Data.{has_name}
use Rattle.mb_world.specs.Long.{same_id}

-- what the index has for a name
abbrev pub placed : List (StrId × ℕ) → StrId → Option ℕ
placed places name = lookup (same_id name) places

-- the index has the first place of each name
abbrev pub ArePlaces : List Bound → List (StrId × ℕ) → Type 0
ArePlaces names places = (name : StrId) → placed places name ≡ position (has_name name) names

-- it is kept beside more than eight names
abbrev pub IsPlaced : List Bound → List (StrId × ℕ) → Type 0
IsPlaced names places = 8 < length names → ArePlaces names places
