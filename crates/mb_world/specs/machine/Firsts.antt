-- An index that keeps for each key what was noted for it first.
use Rattle.std.specs.Prelude.{Bool, true, false, Option, Some, None}

-- what was found, or else this, where the test passes
abbrev pub or_if : {A : Type 0} → Bool → A → Option A → Option A
or_if b x (Some y) = Some y
or_if true x None = Some x
or_if false x None = None
