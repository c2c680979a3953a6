-- Texts that are joined.
use Rattle.std.specs.Prelude.{Bool, List, Option, Some, [], false, if◌then◌else◌, length, true, ℕ, ◌+◌, ◌++◌, ◌<◌, ◌≡◌}
use Rattle.std.specs.Prelude.{◌≤◌, ◌∷◌}
use Rattle.mb_model.specs.Operations.Conversions.{text_limit}
use Rattle.mb_world.specs.Value.{Val, is_nullish, is_undefined, to_text}

-- the text of an element, if it has one
abbrev pub element_text : Val → Option (List ℕ)
element_text x = if is_nullish x then Some [] else to_text x

-- the separator, if the value has a text
abbrev pub separator_text : Val → Option (List ℕ)
separator_text x = if is_undefined x then Some (44 ∷ []) else to_text x

-- the units came last, or the text would be too long
abbrev pub Extends : (before units after : List ℕ) → Bool → Type 0
Extends before units after true = (after ≡ before ++ units) × (length before + length units ≤ text_limit)
Extends before units after false = text_limit < length before + length units
