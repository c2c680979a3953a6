use Rattle.std.specs.Prelude.{ℕ, ◌+◌, ◌-◌, ◌*◌, List, [], ◌∷◌, ◌++◌, length, map, Bool, true, false, not, ◌&&◌, ◌||◌, nat_eq, nat_lt, nat_le, Option, Some, None, is_none, if◌then◌else◌, option_map}
use Rattle.mb_world.specs.Value.{Val, Text, Symbol, same_units, to_text}

-- property keys, array indices and the order of keys

-- property keys (ECMA-262 6.1.7): a text, or a symbol by its number
pub data PropertyKey : Type 0 where
  Named : List ℕ → PropertyKey
  SymbolKey : ℕ → PropertyKey

abbrev pub same_key : PropertyKey → PropertyKey → Bool
same_key (Named a) (Named b) = same_units a b
same_key (SymbolKey a) (SymbolKey b) = nat_eq a b
same_key (Named a) (SymbolKey b) = false
same_key (SymbolKey a) (Named b) = false

-- ToPropertyKey of a primitive (ECMA-262 7.1.19); an object has none here
abbrev pub key_of : Val → Option PropertyKey
key_of (Symbol n) = Some (SymbolKey n)
key_of v = option_map (λ t. Named t) (to_text v)

-- IsPropertyKey (ECMA-262 7.2.7)
abbrev pub is_property_key : Val → Bool
is_property_key (Text t) = true
is_property_key (Symbol n) = true
is_property_key _ = false

-- the value that stands for a key, as ownKeys lists it
abbrev pub value_of_key : PropertyKey → Val
value_of_key (Named t) = Text t
value_of_key (SymbolKey n) = Symbol n

abbrev pub is_digit : ℕ → Bool
is_digit c = nat_le 48 c && nat_le c 57

-- the number that decimal digits write, after those that gave n; none where another unit stands there
abbrev pub digits_after : ℕ → List ℕ → Option ℕ
digits_after n [] = Some n
digits_after n (c ∷ cs) = if is_digit c then digits_after (n * 10 + (c - 48)) cs else None

abbrev pub at_most : ℕ → Option ℕ → Option ℕ
at_most m None = None
at_most m (Some n) = if nat_le n m then Some n else None

-- digits that write an index with more than one: not 0 first, and at most ten
abbrev pub index_of_digits : List ℕ → ℕ → Option ℕ
index_of_digits t first =
    if nat_eq first 48 || nat_lt 10 (length t) then None else at_most 4294967294 (digits_after 0 t)

-- the array index that a text spells (ECMA-262 6.1.7): canonical, from 0 to 2^32 - 2
abbrev pub index_of : List ℕ → Option ℕ
index_of [] = None
index_of (c ∷ []) = digits_after 0 (c ∷ [])
index_of (c ∷ d ∷ cs) = index_of_digits (c ∷ d ∷ cs) c

abbrev pub index_of_key : PropertyKey → Option ℕ
index_of_key (Named t) = index_of t
index_of_key (SymbolKey n) = None

-- an index and its key, put in ascending order
abbrev pub put_index : ℕ × PropertyKey → List (ℕ × PropertyKey) → List (ℕ × PropertyKey)
put_index p [] = p ∷ []
put_index p (q ∷ qs) = if nat_lt p.0 q.0 then p ∷ q ∷ qs else q ∷ put_index p qs

abbrev pub with_index : PropertyKey → Option ℕ → List (ℕ × PropertyKey) → List (ℕ × PropertyKey)
with_index k None ps = ps
with_index k (Some i) ps = put_index (i, k) ps

-- the keys that are array indices, ascending
abbrev pub indices : List PropertyKey → List (ℕ × PropertyKey)
indices [] = []
indices (k ∷ ks) = with_index k (index_of_key k) (indices ks)

abbrev pub keep_if : {A : Type 0} → Bool → A → List A → List A
keep_if true x xs = x ∷ xs
keep_if false x xs = xs

-- a text that spells no array index
abbrev pub is_name : PropertyKey → Bool
is_name (Named t) = is_none (index_of t)
is_name (SymbolKey n) = false

abbrev pub is_symbol : PropertyKey → Bool
is_symbol (Named t) = false
is_symbol (SymbolKey n) = true

-- the texts that are no array indices, in their order
abbrev pub names_only : List PropertyKey → List PropertyKey
names_only [] = []
names_only (k ∷ ks) = keep_if (is_name k) k (names_only ks)

-- the symbols, in their order
abbrev pub symbols_only : List PropertyKey → List PropertyKey
symbols_only [] = []
symbols_only (k ∷ ks) = keep_if (is_symbol k) k (symbols_only ks)

-- the texts, in their order
abbrev pub texts_only : List PropertyKey → List PropertyKey
texts_only [] = []
texts_only (k ∷ ks) = keep_if (not (is_symbol k)) k (texts_only ks)

-- OrdinaryOwnPropertyKeys (ECMA-262 10.1.11.1): first the indices from the least on, behind them all other texts, and
-- last symbols in order of creation
abbrev pub keys_in_order : List PropertyKey → List PropertyKey
keys_in_order ks = map (λ p. p.1) (indices ks) ++ names_only ks ++ symbols_only ks

abbrev pub has_key : PropertyKey → List PropertyKey → Bool
has_key k [] = false
has_key k (x ∷ xs) = same_key k x || has_key k xs

-- each key of xs is one of ys
abbrev pub all_in : List PropertyKey → List PropertyKey → Bool
all_in [] ys = true
all_in (x ∷ xs) ys = has_key x ys && all_in xs ys

abbrev pub distinct : List PropertyKey → Bool
distinct [] = true
distinct (x ∷ xs) = not (has_key x xs) && distinct xs
