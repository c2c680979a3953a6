-- The first of what holds.
use Rattle.std.specs.Prelude.{ℕ, ◌≤◌, Option, Some, None, nat_lt, if◌then◌else◌}

-- the first x by its place of which P holds, where there is one
abbrev pub IsFirst : {X : Type 0} → (X → ℕ) → (X → Type 0) → Option X → Type 0
IsFirst {X} place P None = (x : X) → P x → ⊥
IsFirst {X} place P (Some x) = P x × ((other : X) → P other → place x ≤ place other)

abbrev pub sooner : {X : Type 0} → (X → ℕ) → Option X → Option X → Option X
sooner place None b = b
sooner place (Some x) None = Some x
sooner place (Some x) (Some y) = Some (if nat_lt (place y) (place x) then y else x)
