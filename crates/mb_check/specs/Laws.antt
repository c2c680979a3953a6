-- What holds of the rules.
use Rattle.std.specs.Prelude.{◌≡◌, ◌↔◌, ℕ, Bool, true, not, List, ◌∷◌, ◌++◌, IsPermutation}
use Rattle.std.specs.List.{list_all}
use Rattle.mb_check.specs.Rules.{first_broken, own_keys}
use Rattle.mb_check.specs.declared.verdict.Verdict.TheVariants.{Pass, Broken}

-- no rule is broken
abbrev pub are_kept : List (Bool × ℕ) → Bool
are_kept rules = list_all (λ rule. not rule.0) rules

-- a rule of that number is broken, and none before it is
abbrev pub IsFirstBroken : List (Bool × ℕ) → ℕ → Type 0
IsFirstBroken rules number =
    (before : List (Bool × ℕ)) × (after : List (Bool × ℕ))
    × (rules ≡ before ++ (true, number) ∷ after) × (are_kept before ≡ true)

abbrev pub BrokenByTheFirst : Type 0
BrokenByTheFirst =
    (rules : List (Bool × ℕ)) (number : ℕ) → (first_broken rules ≡ Broken number) ↔ IsFirstBroken rules number

abbrev pub PassedByAll : Type 0
PassedByAll = (rules : List (Bool × ℕ)) → (first_broken rules ≡ Pass) ↔ (are_kept rules ≡ true)

abbrev pub AlikeInAnyOrder : {K : Type 0} → (same : K → K → Bool) → Type 0
AlikeInAnyOrder {K} same =
    (said said' fixed fixed' loose loose' : List K) (extensible : Bool)
    → IsPermutation said said'
    → IsPermutation fixed fixed'
    → IsPermutation loose loose'
    → own_keys same said fixed loose extensible ≡ own_keys same said' fixed' loose' extensible
