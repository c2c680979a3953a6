use Rattle.std.specs.Prelude.{ℕ, List, [], ◌∷◌, ◌++◌, Bool, true, false, codes}
use Rattle.mb_text.specs.Spelling.{spelled}
use Rattle.mb_world.specs.EntryLine.{numbered_texts, side_letter, entry_line}
use Rattle.mb_world.specs.Graph.{Item, Printed, Uncaught, Traced}
use Rattle.mb_model.specs.Trace.Entries.{entries}
use Rattle.mb_model.specs.Story.{Ending, Done, WithThrow, OutOfFuel, Stage}

-- the text that a run writes

abbrev pub line_of : Bool → Bool → List (List ℕ) → Item → List (List ℕ)
line_of traced lettered numbered (Printed s t) = (side_letter lettered s ∷ 32 ∷ spelled false t) ∷ []
line_of traced lettered numbered (Uncaught s t) = (side_letter lettered s ∷ 33 ∷ 32 ∷ spelled false t) ∷ []
line_of true lettered numbered (Traced e) = entry_line lettered numbered e ∷ []
line_of false lettered numbered (Traced e) = []

abbrev pub lines_of : Bool → Bool → List (List ℕ) → List Item → List (List ℕ)
lines_of traced lettered numbered [] = []
lines_of traced lettered numbered (i ∷ is) =
    line_of traced lettered numbered i ++ lines_of traced lettered numbered is

abbrev pub ending_line : Ending → List ℕ
ending_line Done = codes "= done"
ending_line WithThrow = codes "= uncaught"
ending_line OutOfFuel = codes "= spent"

abbrev pub with_feeds : List (List ℕ) → List ℕ
with_feeds [] = []
with_feeds (l ∷ ls) = l ++ (10 ∷ with_feeds ls)

-- the lines of a log, where the long texts have the numbers of its own trace
abbrev pub log_lines : Bool → Bool → List Item → List (List ℕ)
log_lines traced lettered log = lines_of traced lettered (numbered_texts (entries log)) log

-- the bytes that a story writes
abbrev pub Text_of : Bool → Bool → Stage → List ℕ
Text_of traced lettered t = with_feeds (log_lines traced lettered t.graph.log ++ (ending_line t.ending ∷ []))
