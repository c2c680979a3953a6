-- A library in memory as its callers see it, and what each call does.
use Rattle.std.specs.Prelude.{ℕ, List, ◌++◌, Bool, length, take, drop, min, Option, Some, None, option_map, if◌then◌else◌}
use Rattle.mb_outer.specs.Counts.{one_more, names_next, none_above}
use Rattle.mb_outer.specs.Shelf.{Shelf, held}
use Rattle.mb_outer.specs.declared.library.Start.{Start}
use Rattle.mb_outer.specs.declared.library.Start.TheVariants as start
use Rattle.mb_outer.specs.declared.library.Got.{Got}
use Rattle.mb_outer.specs.declared.library.Got.TheVariants as got

-- the texts, what is left of the started one, the most bytes of a read, the numbers of the calls that are to fail, and
-- the numbers of calls and of faults so far
pub record ShelfState : Type 0 where
  pub shelf : Shelf
  pub rest : Option (List ℕ)
  pub piece : ℕ
  pub failing : List ℕ
  pub calls : ℕ
  pub faults : ℕ

-- no call fails any more by its number
abbrev pub is_sound : ShelfState → Bool
is_sound library = none_above library.failing library.calls

-- the next call is to fail by its number
abbrev pub next_fails : ShelfState → Bool
next_fails library = names_next library.failing library.calls

-- the text that a start of that name gives, where it is no fault
abbrev pub next_text : ShelfState → List ℕ → Option (List ℕ)
next_text library name = if next_fails library then None else held name library.shelf

-- the bytes that a read into a buffer of that length gives, where it is no fault: as many as the piece, the buffer and
-- the rest allow
abbrev pub next_bytes : ShelfState → ℕ → Option (List ℕ)
next_bytes library room = if next_fails library then None else option_map (take (min library.piece room)) library.rest

-- the library after a call that is a fault
abbrev pub after_fault : ShelfState → ShelfState
after_fault library = record library { calls = one_more library.calls; faults = one_more library.faults }

-- the library after a start that gave that text
abbrev pub after_start : ShelfState → Option (List ℕ) → ShelfState
after_start library None = record (after_fault library) { rest = None }
after_start library (Some text) = record library { rest = Some text; calls = one_more library.calls }

-- the library after a read that gave these bytes
abbrev pub after_read : ShelfState → Option (List ℕ) → ShelfState
after_read library None = after_fault library
after_read library (Some bytes) = record library {
  rest = option_map (drop (length bytes)) library.rest;
  calls = one_more library.calls;
}

-- the answer of a start that gave that text
abbrev pub start_answer : Option (List ℕ) → Start
start_answer None = start.Failed
start_answer (Some text) = start.Started

-- the answer of a read that gave these bytes
abbrev pub read_answer : Option (List ℕ) → Got
read_answer None = got.Failed
read_answer (Some bytes) = got.Bytes (length bytes)

-- a buffer after a read that gave these bytes: they stand at its front, and what is behind them stays
abbrev pub filled : List ℕ → Option (List ℕ) → List ℕ
filled into None = into
filled into (Some bytes) = bytes ++ drop (length bytes) into
