-- Texts by their names, and what a name stands for among them.
use Rattle.std.specs.Prelude.{ℕ, List, [], ◌∷◌, map, Option, Some, None, if◌then◌else◌, String, Vec, string_bytes}
use Rattle.std.specs.declared.alloc.Global.{Global}
use Rattle.std.specs.Str.{bytes_eq}

-- entries in order, each the bytes of a name and those of its text
abbrev pub Shelf : Type 0
Shelf = List (List ℕ × List ℕ)

-- the text of a name: that of the first entry with the name
abbrev pub held : List ℕ → Shelf → Option (List ℕ)
held name [] = None
held name (entry ∷ shelf) = if bytes_eq entry.0 name then Some entry.1 else held name shelf

-- names and texts as Rust holds them
abbrev pub entry_of : String Global × Vec ℕ Global → List ℕ × List ℕ
entry_of entry = (string_bytes entry.0, entry.1.items)

abbrev pub shelf_of : List (String Global × Vec ℕ Global) → Shelf
shelf_of = map entry_of
