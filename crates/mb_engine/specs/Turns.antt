-- What a turn leaves of a world and its lines, beside the turn of the story.
use Rattle.std.specs.Prelude.{Bool, List, [], false, true, ℕ, ◌++◌, ◌∷◌, ◌≡◌}
use Rattle.mb_frames.specs.Standing.{Logged}
use Rattle.mb_frames.specs.Stepping.{Written}
use Rattle.mb_model.specs.Story as story
use Rattle.mb_model.specs.Text.{line_of}
use Rattle.mb_model.specs.Trace.Entries.{entries}
use Rattle.mb_world.specs.Data.{Data}
use Rattle.mb_world.specs.EntryLine.{numbered_texts}
use Rattle.mb_world.specs.Graph.{Graph, Item}
use Rattle.mb_world.specs.Image.{Image}
use Rattle.mb_engine.specs.declared.turns.TurnEnd.{TurnEnd}
use Rattle.mb_engine.specs.declared.turns.TurnEnd.TheVariants.{Ended, Idle, NoMemory, Spent, Uncaught}

-- the lines of items that a log got, each as it is told where it was made
abbrev pub lines_made : Bool → Bool → List Item → List Item → List (List ℕ)
lines_made traced lettered log [] = []
lines_made traced lettered log (i ∷ is) =
    line_of traced lettered (numbered_texts (entries (log ++ (i ∷ [])))) i
    ++ lines_made traced lettered (log ++ (i ∷ [])) is

-- these items were added to a log: the world has its entries, and their lines stand at the end
pub record IsTold (d' : Data) (l l' : Written) (log added : List Item) : Type 0 where
  pub logged : Logged d' (log ++ added)
  pub lines : l' ≡ record l { lines = l.lines ++ lines_made l.traced l.lettered log added }

-- the graph is the image of the world that is left, with what was added to the log
pub record Left (d' : Data) (l l' : Written) (log : List Item) (g : Graph) : Type 0 where
  pub added : List Item
  pub image : g ≡ Image d' (log ++ added)
  pub told : IsTold d' l l' log added

-- what a turn answers where it leaves the world d' and f' units, and the story's turn ends so
abbrev pub Turns : TurnEnd → Data → ℕ → Written → Written → List Item → story.TurnEnd → Type 0
Turns Idle d' f' l l' log t = t ≡ story.Idle
Turns Ended d' f' l l' log t = (g : Graph) × (t ≡ story.Ended g f') × Left d' l l' log g
Turns Uncaught d' f' l l' log t = (g : Graph) × (t ≡ story.Threw g f') × Left d' l l' log g
Turns Spent d' f' l l' log t = (g : Graph) × (t ≡ story.Unpaid g f') × Left d' l l' log g
Turns NoMemory d' f' l l' log t = Unit {0}

-- it ends the run
abbrev pub halts : TurnEnd → Bool
halts Idle = false
halts Ended = false
halts Uncaught = false
halts Spent = true
halts NoMemory = true

-- lines are added at the end, and nothing else changes of them
pub record AddsLines (l l' : Written) : Type 0 where
  pub traced : l'.traced ≡ l.traced
  pub lettered : l'.lettered ≡ l.lettered
  pub more : List (List ℕ)
  pub lines : l'.lines ≡ l.lines ++ more
