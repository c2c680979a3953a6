-- What the tests find out before they call.
use Rattle.std.specs.Prelude.{ℕ, ◌-◌, ◌^◌, ◌==◌, Bool, true, false, not, ◌&&◌, ◌||◌, nat_lt, List, [], ◌∷◌, Option, Some, is_ok}
use Rattle.mb_base.specs.declared.value.Key.{Key}
use Rattle.mb_base.specs.declared.value.Key.TheVariants.{Text, Symbol}
use Rattle.mb_base.specs.declared.value.Value.{Value}
use Rattle.mb_base.specs.declared.value.Value.TheVariants as v
use Rattle.mb_desc.specs.declared.descriptor.Full.{Full}
use Rattle.mb_desc.specs.declared.descriptor.Full.TheVariants.{Datum}
use Rattle.mb_array.specs.machine.Done.{asked_length}

abbrev pub is_plain : Value → Bool
is_plain (v.Object a) = false
is_plain x = true

-- none of the values is an object
abbrev pub are_plain : List Value → Bool
are_plain [] = true
are_plain (x ∷ xs) = is_plain x && are_plain xs

abbrev pub is_length : Option (Full Value) → Bool
is_length (Some (Datum x w e c)) = not e && (not c && is_ok (asked_length x))
is_length property = false

-- no index, or one below the length
abbrev pub is_below : ℕ → Key → Bool
is_below n (Text text index) = index == 2 ^ 32 - 1 || nat_lt index n
is_below n (Symbol symbol) = true
