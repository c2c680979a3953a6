-- Texts of digits.
use Rattle.std.specs.Prelude.{ℕ, ◌<◌, List, length, slice_index}
use Rattle.std.specs.Int.{IsInRange}

-- each unit is a digit
abbrev pub AreDigits : List ℕ → Type 0
AreDigits text = (k : ℕ) → k < length text → IsInRange 48 57 (slice_index text k)
