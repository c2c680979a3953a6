-- Which rows of a policy conflict.
use Rattle.std.specs.Prelude.{ℕ, ◌+◌, List, [], ◌∷◌, ◌++◌, length, Bool, false, not, ◌&&◌, nat_eq, Option, Some, None}
use Rattle.std.specs.List.{list_any, position_from}
use Rattle.mb_world.specs.Value.{same_units}
use Rattle.mb_world.specs.Graph.{Rule, RuleKind, Hide, ReadOnly, Substitute, Revoke}
use Rattle.mb_world.specs.View.{means_side}

-- the key that a rule of kind hide or substitute names
abbrev pub key_named : RuleKind → Option (List ℕ)
key_named (Hide key) = Some key
key_named ReadOnly = None
key_named (Substitute key value) = Some key
key_named Revoke = None

abbrev pub same_named : Option (List ℕ) → Option (List ℕ) → Bool
same_named (Some a) (Some b) = same_units a b
same_named _ _ = false

abbrev pub all_sides : List ℕ
all_sides = 0 ∷ 1 ∷ 2 ∷ 3 ∷ 4 ∷ 5 ∷ 6 ∷ 7 ∷ []

-- a rule of these sides means that owner, and that other side as viewer
abbrev pub means_pair : Option ℕ → Option ℕ → ℕ → ℕ → Bool
means_pair owner viewer o v = not (nat_eq o v) && (means_side owner o && means_side viewer v)

-- both rules mean one owner, as one other side sees its objects
abbrev pub meet : Rule → Rule → Bool
meet a b = list_any (λ o. list_any (λ v.
    means_pair a.owner a.viewer o v && means_pair b.owner b.viewer o v) all_sides) all_sides

-- two rules name one key of one label, and meet
abbrev pub conflicts : Rule → Rule → Bool
conflicts a b = (same_units a.label b.label && same_named (key_named a.kind) (key_named b.kind)) && meet a b

-- ---- the first pair

abbrev pub or_later : Option ℕ → ℕ → Option (ℕ × ℕ) → Option (ℕ × ℕ)
or_later (Some first) second later = Some (first, second)
or_later None second later = later

-- the numbers from 1 of two that the test finds: the least second, then the least first. These stand before the rest
abbrev pub first_pair : {A : Type 0} → (A → A → Bool) → List A → List A → Option (ℕ × ℕ)
first_pair test before [] = None
first_pair test before (x ∷ rest) =
    or_later (position_from (λ b. test b x) 1 before) (length before + 1) (first_pair test (before ++ x ∷ []) rest)

-- the first two rows that conflict
abbrev pub conflict_in : List Rule → Option (ℕ × ℕ)
conflict_in rules = first_pair conflicts [] rules
