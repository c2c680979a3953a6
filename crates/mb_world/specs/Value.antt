use Rattle.std.specs.Prelude.{ℕ, List, [], ◌∷◌, Bool, true, false, not, ◌&&◌, nat_eq, Option, Some, None, ℤ, pos, negsuc, zero, suc, ◌+◌, ◌++◌, ◌/◌, ◌%◌, nat_lt, codes}
use Rattle.mb_desc.specs.Validate.{same_flag}

-- the values of scripts

-- ECMAScript language values (ECMA-262 6.1): a text is its code units, a symbol or an object its number, a built-in its
-- place
pub data Val : Type 0 where
  Undefined : Val
  Null : Val
  Truth : Bool → Val
  Whole : ℤ → Val
  Text : List ℕ → Val
  Symbol : ℕ → Val
  Object : ℕ → Val
  BuiltIn : ℕ → Val

-- two lists of code units are the same
abbrev pub same_units : List ℕ → List ℕ → Bool
same_units [] [] = true
same_units (a ∷ x) (b ∷ y) = nat_eq a b && same_units x y
same_units [] (b ∷ y) = false
same_units (a ∷ x) [] = false

abbrev pub same_whole : ℤ → ℤ → Bool
same_whole (pos a) (pos b) = nat_eq a b
same_whole (negsuc a) (negsuc b) = nat_eq a b
same_whole (pos a) (negsuc b) = false
same_whole (negsuc a) (pos b) = false

-- SameValue, IsStrictlyEqual (ECMA-262 7.2.10, 7.2.15), which agree here
abbrev pub same_value : Val → Val → Bool
same_value Undefined Undefined = true
same_value Null Null = true
same_value (Truth a) (Truth b) = same_flag a b
same_value (Whole a) (Whole b) = same_whole a b
same_value (Text a) (Text b) = same_units a b
same_value (Symbol a) (Symbol b) = nat_eq a b
same_value (Object a) (Object b) = nat_eq a b
same_value (BuiltIn a) (BuiltIn b) = nat_eq a b
same_value _ _ = false

-- Type(v) is Object (ECMA-262 6.1.7)
abbrev pub is_object : Val → Bool
is_object (Object n) = true
is_object (BuiltIn p) = true
is_object _ = false

abbrev pub is_undefined : Val → Bool
is_undefined Undefined = true
is_undefined _ = false

abbrev pub is_null : Val → Bool
is_null Null = true
is_null _ = false

-- undefined or null (ECMA-262 7.2.1 RequireObjectCoercible refuses these)
abbrev pub is_nullish : Val → Bool
is_nullish Undefined = true
is_nullish Null = true
is_nullish _ = false

-- ToBoolean (ECMA-262 7.1.2)
abbrev pub to_boolean : Val → Bool
to_boolean Undefined = false
to_boolean Null = false
to_boolean (Truth b) = b
to_boolean (Whole z) = not (same_whole z (pos 0))
to_boolean (Text []) = false
to_boolean (Text (c ∷ cs)) = true
to_boolean (Symbol n) = true
to_boolean (Object n) = true
to_boolean (BuiltIn p) = true

abbrev pub truth_text : Bool → List ℕ
truth_text true = codes "true"
truth_text false = codes "false"

-- decimal digits, with a count above their number
abbrev pub digits_within : ℕ → ℕ → List ℕ
digits_within zero n = []
digits_within (suc k) n = elim (nat_lt n 10) [
  | true ↦ (48 + n) ∷ []
  | false ↦ digits_within k (n / 10) ++ ((48 + n % 10) ∷ [])
]

abbrev pub decimal : ℕ → List ℕ
decimal n = digits_within (suc n) n

-- a whole number in decimal (ECMA-262 6.1.6.1.20)
abbrev pub whole_text : ℤ → List ℕ
whole_text (pos n) = decimal n
whole_text (negsuc n) = 45 ∷ decimal (suc n)

-- ToString of a primitive (ECMA-262 7.1.17); a symbol has none, nor has an object here
abbrev pub to_text : Val → Option (List ℕ)
to_text Undefined = Some (codes "undefined")
to_text Null = Some (codes "null")
to_text (Truth b) = Some (truth_text b)
to_text (Whole z) = Some (whole_text z)
to_text (Text t) = Some t
to_text (Symbol n) = None
to_text (Object n) = None
to_text (BuiltIn p) = None

-- the whole number that a value is
abbrev pub whole_of : Val → Option ℤ
whole_of (Whole z) = Some z
whole_of _ = None

-- the text that a value is
abbrev pub text_of : Val → Option (List ℕ)
text_of (Text t) = Some t
text_of _ = None

-- the number of an object of the graph
abbrev pub number_of : Val → ℕ
number_of (Object n) = n
number_of _ = 0
