-- What stands in the fields of a row of a policy file.
use Rattle.std.specs.Prelude.{ℕ, ◌-◌, List, [], ◌∷◌, length, Bool, true, ◌&&◌, nat_le, Option, Some, None, option_map, option_and_then, if◌then◌else◌}
use Rattle.std.specs.Str.{chars}
use Rattle.std.specs.List.{flat_map}
use Rattle.std.specs.Char.Escape.{encode_utf16}
use Rattle.toml.specs.Data.{Data, string, integer, float, boolean, datetime, array, table, Members, no_members, member, get_member, as_str}
use Rattle.mb_world.specs.Value.{Val, Truth, Whole, Text}
use Rattle.mb_world.specs.Formed.{is_whole}

-- the code units of a text that is UTF-8
unfoldable pub text_units : List ℕ → List ℕ
text_units bytes = flat_map encode_utf16 (chars bytes)

-- each field has a name that passes the test
abbrev pub all_fields : (List ℕ → Bool) → Members → Bool
all_fields test no_members = true
all_fields test (member name value rest) = test name && all_fields test rest

-- the text in a field, where one stands there
abbrev pub str_at : List ℕ → Members → Option (List ℕ)
str_at field row = option_and_then as_str (get_member field row)

-- the same, in code units
abbrev pub units_at : List ℕ → Members → Option (List ℕ)
units_at field row = option_map text_units (str_at field row)

-- ---- constants

-- a text that a script may have
abbrev pub text_constant : List ℕ → Option Val
text_constant units = if nat_le (length units) 1048576 then Some (Text units) else None

-- a constant: true or false, a text that isn't longer than 2^20 units, a whole number in range
abbrev pub constant_of : Data → Option Val
constant_of (boolean b) = Some (Truth b)
constant_of (string s) = text_constant (text_units s)
constant_of (integer z) = if is_whole z then Some (Whole z) else None
constant_of (float x) = None
constant_of (datetime t) = None
constant_of (array ds) = None
constant_of (table ms) = None

abbrev pub constant_at : List ℕ → Members → Option Val
constant_at field row = option_and_then constant_of (get_member field row)

-- ---- sides

-- the sides have the letters A to H
abbrev pub side_of : List ℕ → Option ℕ
side_of (letter ∷ []) = if nat_le 65 letter && nat_le letter 72 then Some (letter - 65) else None
side_of _ = None

-- the side that a field names, or every side where the field isn't there
abbrev pub side_in_field : Option Data → Option (Option ℕ)
side_in_field None = Some None
side_in_field (Some d) = option_map Some (option_and_then side_of (as_str d))

abbrev pub side_at : List ℕ → Members → Option (Option ℕ)
side_at field row = side_in_field (get_member field row)
