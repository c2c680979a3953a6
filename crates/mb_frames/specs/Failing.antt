-- What an error object of a side needs: the prototype of its kind (ECMA-262 20.5).
use Rattle.std.specs.Prelude.{None, is_some, true, ℕ, ◌<◌, ◌≡◌, ◌≢◌}
use Rattle.mb_base.specs.declared.value.Side.{Side}
use Rattle.mb_world.specs.Data.{Data, built_in_of}
use Rattle.mb_world.specs.Formed.{HasBuiltIn}
use Rattle.mb_world.specs.Intrinsics.{ErrorPrototype, RangeErrorPrototype, ReferenceErrorPrototype, TypeErrorPrototype, intrinsic, place_of}
use Rattle.mb_world.specs.declared.cell.ErrorKind.{ErrorKind}
use Rattle.mb_world.specs.declared.cell.ErrorKind.TheVariants.{Error as ErrorKindError, TypeError as ErrorKindType, RangeError as ErrorKindRange, ReferenceError as ErrorKindReference}

-- the place of the prototype of a kind of errors
abbrev pub error_place : ErrorKind → ℕ
error_place ErrorKindError = place_of ErrorPrototype
error_place ErrorKindType = place_of TypeErrorPrototype
error_place ErrorKindRange = place_of RangeErrorPrototype
error_place ErrorKindReference = place_of ReferenceErrorPrototype

-- the prototype of a kind of errors is there for the side
abbrev pub HasErrorPrototype : Data → Side → ErrorKind → Type 0
HasErrorPrototype d side kind = is_some (built_in_of d.joined d.cells side (error_place kind)) ≡ true

-- each side that takes part has the built-ins of the table
abbrev pub HasItsBuiltIns : Data → Type 0
HasItsBuiltIns d =
    (side : Side) (place : ℕ) → side.0 < d.sides → intrinsic place ≢ None → HasBuiltIn d side place
