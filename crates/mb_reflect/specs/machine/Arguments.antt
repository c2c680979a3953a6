-- What was passed to a built-in.
use Rattle.std.specs.Prelude.{List, slice_get, unwrap_or, ℕ}
use Rattle.mb_base.specs.declared.value.Value.{Value}
use Rattle.mb_base.specs.declared.value.Value.TheVariants as v

-- the argument at a place, or else this value
abbrev pub passed_or : List Value → ℕ → Value → Value
passed_or xs place x = unwrap_or (slice_get xs place) x

-- the argument at a place, or undefined
abbrev pub passed : List Value → ℕ → Value
passed xs place = passed_or xs place v.Undefined
