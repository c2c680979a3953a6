use Rattle.std.proofs.Common.{◌≡◌, ◌<◌, ℕ, take, slice_index}
use Rattle.std.specs.Int.{IsInRange}
use Rattle.std.specs.Str.Parse.{digits_value}
use Rattle.mb_text.proofs.index.number.Given as goal

abbrev pub invariant-loop-unit : goal.invariant-loop-unit
invariant-loop-unit l = record {
  digits : (k : ℕ) → k < l.unit-index → IsInRange 48 57 (slice_index l.units k);
  number : l.n ≡ digits_value 10 (take l.unit-index l.units);
}
