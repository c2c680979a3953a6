-- A table of own properties: a list of pairs, the property that was made first at its head.
use Rattle.std.specs.Prelude.{Bool, false, ◌==◌, ◌&&◌, List, Option}
use Rattle.std.specs.List.{IsDistinct}
use Rattle.std.specs.Map.{keys_of, lookup, remove_entry}
use Rattle.mb_base.specs.declared.value.Key.{Key}
use Rattle.mb_base.specs.declared.value.Key.TheVariants.{Text, Symbol}
use Rattle.indexmap.specs.IndexMap.{insert_entry as insert}

-- the two keys are the same
abbrev pub same_key : Key → Key → Bool
same_key (Text a i) (Text b j) = a.0 == b.0 && i == j
same_key (Symbol a) (Symbol b) = a.0 == b.0
same_key _ _ = false

module _ {P : Type 0} where
  -- no key has two pairs
  abbrev pub HasDistinctKeys : List (Key × P) → Type 0
  HasDistinctKeys table = IsDistinct same_key (keys_of table)

  -- the property of the key
  abbrev pub found : List (Key × P) → Key → Option P
  found table key = lookup (same_key key) table

  -- the table once a key is put: that of an insertion-ordered map
  abbrev pub insert_entry : List (Key × P) → Key → P → List (Key × P)
  insert_entry = insert same_key

  -- the pairs without the key's, in the order of before
  abbrev pub without : List (Key × P) → Key → List (Key × P)
  without table key = remove_entry (same_key key) table
