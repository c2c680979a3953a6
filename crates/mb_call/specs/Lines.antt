-- The line of the last entry, where the trace is written.
use Rattle.std.specs.Prelude.{Bool, Err, List, Ok, Result, [], false, true, ℕ, ◌++◌, ◌∷◌, ◌≡◌}
use Rattle.mb_base.specs.declared.NoMemory.{NoMemory}
use Rattle.mb_frames.specs.Stepping.{Written}
use Rattle.mb_trace.specs.Line.{line_of}
use Rattle.mb_world.specs.Data.{Data}
use Rattle.mb_world.specs.declared.entry.Entry.{Entry}

-- the line of the last entry
pub record IsLineOfLast (d : Data) (lettered : Bool) (line : List ℕ) : Type 0 where
  pub before : List Entry
  pub entry : Entry
  pub last : d.entries ≡ before ++ entry ∷ []
  pub is : line ≡ line_of d lettered entry

-- it was written, where the trace is
abbrev pub WritesIf : Bool → Data → Written → Written → Type 0
WritesIf false d l l' = l' ≡ l
WritesIf true d l l' = (line : List ℕ) × IsLineOfLast d l.lettered line ×
    (l' ≡ record l { lines = l.lines ++ line ∷ [] })

abbrev pub WritesLast : Result (Unit {0}) NoMemory → Data → Written → Written → Type 0
WritesLast (Ok u) d l l' = WritesIf l.traced d l l'
WritesLast (Err refusal) d l l' = Unit {0}
