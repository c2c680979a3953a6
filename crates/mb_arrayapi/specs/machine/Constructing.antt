-- What Array makes of its arguments.
use Rattle.std.specs.Prelude.{List, None, Option, Some, [], ℕ, ℤ, ◌∷◌, ◌≡◌}
use Rattle.mb_base.specs.declared.value.Value.{Value}
use Rattle.mb_frames.specs.Resolved.{values_in}
use Rattle.mb_model.specs.BuiltIns.Arrays.{array_filled, array_from, array_make}
use Rattle.mb_model.specs.Task.{Answer}
use Rattle.mb_model.specs.Writing.{Does, range_error}
use Rattle.mb_world.specs.Image.{Names}
use Rattle.mb_world.specs.Value.{Val, Whole}

-- the place of `Array` in the table
abbrev pub array_place : ℕ
array_place = 4

-- the arguments are the elements, and no length
abbrev pub IsFilled : List Value → Type 0
IsFilled arguments = (n : Names) (s : ℕ) (p : Val) →
    array_from s (values_in n arguments) p ≡ array_filled s (values_in n arguments) p

-- an array of that length, if an array may be so long
abbrev pub numbered : Option ℕ → ℕ → Val → Does Answer
numbered (Some n) s p = array_make s n p
numbered None s p = range_error s

-- a number alone as the length of an array
abbrev pub IsLength : Option ℕ → ℤ → Type 0
IsLength o z = (s : ℕ) (p : Val) → array_from s (Whole z ∷ []) p ≡ numbered o s p

-- what is made: one of a length, or one of the arguments
abbrev pub chosen : Option (Option ℕ) → List Val → ℕ → Val → Does Answer
chosen None vs s p = array_filled s vs p
chosen (Some o) vs s p = numbered o s p

abbrev pub IsLengthIn : Option (Option ℕ) → List Value → Type 0
IsLengthIn o arguments = (n : Names) (s : ℕ) (p : Val) →
    array_from s (values_in n arguments) p ≡ chosen o (values_in n arguments) s p
