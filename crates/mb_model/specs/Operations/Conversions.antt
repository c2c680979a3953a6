use Rattle.std.specs.Prelude.{ℕ, ◌+◌, ◌/◌, List, ◌++◌, length, Bool, nat_lt, nat_le, if◌then◌else◌, ℤ, pos, negsuc}
use Rattle.mb_world.specs.Value.{Val, Whole, Text, to_text}
use Rattle.mb_world.specs.Key.{PropertyKey, key_of}
use Rattle.mb_model.specs.Writing.{Does, ◌>>=◌, give, pay, range_error, or_type_error}

-- conversions of values (ECMA-262 7.1), and the limits of texts and whole numbers

-- ToPropertyKey (ECMA-262 7.1.19)
abbrev pub to_key : ℕ → Val → Does PropertyKey
to_key s v = or_type_error s (key_of v)

-- ToString (ECMA-262 7.1.17)
abbrev pub text_by : ℕ → Val → Does (List ℕ)
text_by s v = or_type_error s (to_text v)

abbrev pub text_limit : ℕ
text_limit = 1048576

abbrev pub join_charged : List ℕ → List ℕ → Does Val
join_charged a b = do
  _ ← pay ((length a + length b) / 64)
  give (Text (a ++ b))

-- a text of two, with its charge
abbrev pub join_texts : ℕ → List ℕ → List ℕ → Does Val
join_texts s a b = if nat_lt text_limit (length a + length b) then range_error s else join_charged a b

abbrev pub whole_limit : ℕ
whole_limit = 9007199254740991

abbrev pub in_range : ℤ → Bool
in_range (pos n) = nat_le n whole_limit
in_range (negsuc n) = nat_lt n whole_limit

-- a result within the whole numbers
abbrev pub whole : ℕ → ℤ → Does Val
whole s z = if in_range z then give (Whole z) else range_error s
