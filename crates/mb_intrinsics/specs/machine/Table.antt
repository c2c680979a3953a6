-- How the table of the code stands for the definition's.
use Rattle.std.specs.Prelude.{ℕ, List, [], ◌∷◌, ◌++◌, ◌≡◌, ◌&&◌, Bool, true, map, length, nat_lt, slice_index_or, Option, Some, None, codes, pos}
use Rattle.std.specs.Borrow.{Bor}
use Rattle.std.specs.List.{list_all}
use Rattle.mb_desc.specs.declared.descriptor.Full.TheVariants.{Datum, Accessor}
use Rattle.mb_intrinsics.specs.declared.table.Given.{Given}
use Rattle.mb_intrinsics.specs.declared.table.Given.TheVariants as given
use Rattle.mb_intrinsics.specs.declared.table.Row.{Row}
use Rattle.mb_world.specs.Graph.{Property}
use Rattle.mb_world.specs.Intrinsics.{Intrinsic}
use Rattle.mb_world.specs.Standard.{frozen, frozen_getter, properties_of, prototype_of}
use Rattle.mb_world.specs.Value.{Val, Null, Whole, Text, BuiltIn}

abbrev pub given_property : List ℕ → Given → Property
given_property name (given.Whole n) = frozen name (Whole (pos n))
given_property name (given.Text t) = frozen name (Text (t.now))
given_property name (given.BuiltIn place) = frozen name (BuiltIn place)
given_property name (given.Getter place) = frozen_getter name (BuiltIn place)

abbrev pub property_in : Bor (List ℕ) × Given → Property
property_in p = given_property p.0.now p.1

abbrev pub prototype_in : Option ℕ → Val
prototype_in None = Null
prototype_in (Some place) = BuiltIn place

-- what a function has first (ECMA-262 10.2.9, 10.2.10)
abbrev pub function_in : Option (ℕ × Bor (List ℕ)) → List Property
function_in None = []
function_in (Some f) = frozen (codes "length") (Whole (pos (f.0))) ∷ frozen (codes "name") (Text (f.1.now)) ∷ []

-- the prototype and the properties of a row
abbrev pub row_in : Row → Val × List Property
row_in r = (prototype_in r.0, function_in r.1 ++ map property_in r.2.now)

abbrev pub row_of : Intrinsic → Val × List Property
row_of i = (prototype_of i, properties_of i)

-- ---- what is computed of each row

-- the text has at most 24 units
abbrev pub is_short : List ℕ → Bool
is_short t = nat_lt (length t) 25

-- a key that begins with no digit, so that it spells no array index
abbrev pub is_key : List ℕ → Bool
is_key t = is_short t && nat_lt 57 (slice_index_or t 0 0)

abbrev pub is_sound_given : Given → Bool
is_sound_given (given.Whole n) = true
is_sound_given (given.Text t) = is_short t.now
is_sound_given (given.BuiltIn place) = nat_lt place 80
is_sound_given (given.Getter place) = nat_lt place 80

abbrev pub is_sound_property : Bor (List ℕ) × Given → Bool
is_sound_property p = is_key p.0.now && is_sound_given p.1

abbrev pub is_sound_function : Option (ℕ × Bor (List ℕ)) → Bool
is_sound_function None = true
is_sound_function (Some f) = is_short f.1.now

abbrev pub is_sound_prototype : Option ℕ → Bool
is_sound_prototype None = true
is_sound_prototype (Some place) = nat_lt place 80

-- its texts are short, no key is an index, and what it names is of the table
pub record IsSound (r : Row) : Type 0 where
  pub prototype : is_sound_prototype r.0 ≡ true
  pub function : is_sound_function r.1 ≡ true
  pub properties : list_all is_sound_property r.2.now ≡ true

abbrev pub is_sound_row : Row → Bool
is_sound_row r = is_sound_prototype r.0 && (is_sound_function r.1 && list_all is_sound_property r.2.now)
