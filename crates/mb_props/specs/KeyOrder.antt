-- The order of own keys (ECMA-262, 10.1.11.1).
use Rattle.std.specs.Prelude.{◌≡◌, ℕ, ◌-◌, ◌^◌, ◌==◌, Bool, true, false, not, List, ◌++◌}
use Rattle.std.specs.List.{filter}
use Rattle.std.specs.List.Sorted.{IsPermutation, IsNonDecreasingBy}
use Rattle.mb_base.specs.declared.value.Key.{Key}
use Rattle.mb_base.specs.declared.value.Key.TheVariants.{Text, Symbol}

-- the index that the key spells, or `2 ^ 32 - 1` where it spells none
abbrev pub index_of : Key → ℕ
index_of (Text _text index) = index
index_of (Symbol _symbol) = 2 ^ 32 - 1

-- the key is a text with that index
abbrev pub has_index : ℕ → Key → Bool
has_index index (Text _text own) = own == index
has_index _index (Symbol _symbol) = false

-- the key is an array index (6.1.7)
abbrev pub is_array_index : Key → Bool
is_array_index (Text _text index) = not (index == 2 ^ 32 - 1)
is_array_index (Symbol _symbol) = false

-- the key is a text and no array index
abbrev pub is_name : Key → Bool
is_name key = has_index (2 ^ 32 - 1) key

abbrev pub is_symbol : Key → Bool
is_symbol (Text _text _index) = false
is_symbol (Symbol _symbol) = true

-- those of the keys that are array indices, names, and symbols
abbrev pub array_indices : List Key → List Key
array_indices keys = filter is_array_index keys

abbrev pub names : List Key → List Key
names keys = filter is_name keys

abbrev pub symbols : List Key → List Key
symbols keys = filter is_symbol keys

-- `ordered` has the keys of a table, given in order of creation, as OrdinaryOwnPropertyKeys lists them
pub record IsInKeyOrder (keys ordered : List Key) : Type 0 where
  pub permutation : IsPermutation keys ordered
  -- the array indices stand first, then the names and then the symbols, both in order of creation
  pub in_parts : ordered ≡ array_indices ordered ++ names keys ++ symbols keys
  pub ascending : IsNonDecreasingBy index_of (array_indices ordered)
  -- keys of one index, of which a table of one set of texts has no two, stand in order of creation
  pub one_index : (index : ℕ) → filter (has_index index) ordered ≡ filter (has_index index) keys

-- only one list is in the order
abbrev pub KeyOrderIsOne : Type 0
KeyOrderIsOne = (keys one two : List Key) → IsInKeyOrder keys one → IsInKeyOrder keys two → one ≡ two
