-- What a step did: the part of a row that it took, the move that it made, what it charged, and what it added to the
-- log.
use Rattle.mb_model.specs.Engine.{Pay}
use Rattle.std.specs.Prelude.{is_some}
use Rattle.mb_frames.specs.Standing.{Across}
use Rattle.std.specs.Prelude.{false, true}
use Rattle.std.specs.Prelude.{◌*◌, ◌+◌, ◌++◌, ◌-◌, ◌<◌, Bool, Err, List, None, Ok, Option, Result, Some, [], length, map, ℕ, ◌∷◌, ◌≡◌, ◌≤◌}
use Rattle.mb_base.specs.declared.value.Side.{Side}
use Rattle.mb_frames.specs.Held.{AreIn}
use Rattle.mb_frames.specs.Holding.{move_held, passage_held}
use Rattle.mb_frames.specs.Standing.{Here, Logged, Passage, Tasks, done_by, goes_on, home_of, left_by, move_of, moves, row_of, under_way}
use Rattle.mb_model.specs.Engine.{Spent, exec, leading}
use Rattle.mb_model.specs.Text.{lines_of}
use Rattle.mb_world.specs.EntryLine.{numbered_texts}
use Rattle.mb_model.specs.Trace.Entries.{entries}
use Rattle.mb_model.specs.Writing.{Row}
use Rattle.mb_world.specs.Data.{Data}
use Rattle.mb_world.specs.Graph.{Graph, Item}
use Rattle.mb_world.specs.Grows.{Grows}
use Rattle.mb_world.specs.Image.{Image, entries_in}
use Rattle.mb_frames.specs.declared.frame.Frame.{Frame}
use Rattle.mb_frames.specs.declared.frame.Frame.TheVariants as x
use Rattle.mb_frames.specs.declared.frame.Move.{Move}
use Rattle.mb_frames.specs.declared.frame.Move.TheVariants as move
use Rattle.mb_frames.specs.declared.machine.Halt.{Halt}
use Rattle.mb_frames.specs.declared.machine.Halt.TheVariants.{Spent as SpentHalt, NoMemory}
use Rattle.mb_frames.specs.declared.machine.Lines.{Lines}
use Rattle.mb_frames.specs.declared.machine.Waiting.{Waiting}
use Rattle.mb_frames.specs.declared.machine.Machine.{Machine}

-- ---- lines

-- lines as plain lists of bytes
pub record Written : Type 0 where
  pub traced : Bool
  pub lettered : Bool
  pub lines : List (List ℕ)

abbrev pub written : Lines → Written
written l = record { traced = l.traced; lettered = l.lettered; lines = map (λ line. line.items) l.all.items }

-- a step adds at most one item to the log: an entry, which stands in the trace, or a line. The lines tell it
pub record Added (d d' : Data) (l l' : Written) (added : List Item) : Type 0 where
  pub few : length added ≤ 1
  pub trace : entries_in d' ≡ entries_in d ++ entries added
  pub told : l' ≡ record l {
    lines = l.lines ++ lines_of l.traced l.lettered (numbered_texts (entries_in d')) added;
  }

-- ---- worlds

-- ids name what they named, and stand for what they stood for; scripts, sides and whether the world is joined stay, and
-- no entry is lost
pub record Grew (d d' : Data) : Type 0 where
  pub grows : Grows d d'
  pub programs : d'.programs ≡ d.programs
  pub sides : d'.sides ≡ d.sides
  pub joined : d'.joined ≡ d.joined

-- ---- parts of rows

-- what a step charges: a task that only puts a frame below itself isn't paid yet
abbrev pub charge : Row → Move → ℕ
charge p (move.Done o) = leading p
charge p (move.Wait y t) = leading p
charge p (move.Next t) = leading p
charge p (move.Anew t) = leading p
charge p (move.Entered y t) = 0

-- a frame that starts, and one that waits
abbrev pub IsStart : Frame → Type 0
IsStart (x.Begin t) = Unit {0}
IsStart (x.Begun t) = Unit {0}
IsStart (x.Anew t) = Unit {0}
IsStart y = ⊥

abbrev pub IsWait : Frame → Type 0
IsWait (x.Begin t) = ⊥
IsWait (x.Begun t) = ⊥
IsWait (x.Anew t) = ⊥
IsWait y = Unit {0}

-- what waits is put below what starts; a row may start anew where it is under way or has paid
abbrev pub MayMove : Bool → Row → Move → Type 0
MayMove begun p (move.Done o) = Unit {0}
MayMove begun p (move.Wait y t) = IsWait y
MayMove begun p (move.Next t) = Unit {0}
MayMove true p (move.Anew t) = Unit {0}
MayMove false p (move.Anew t) = 0 < leading p
MayMove true p (move.Entered y t) = ⊥
MayMove false p (move.Entered y t) = IsWait y

-- what goes on at another home has a frame of the membrane below it; a row starts anew there where this one has paid
abbrev pub MayCross : Frame → Type 0
MayCross (x.Membrane y) = Unit {0}
MayCross y = ⊥

abbrev pub MayMoveAcross : Row → Move → Type 0
MayMoveAcross p (move.Done o) = ⊥
MayMoveAcross p (move.Wait y t) = IsWait y
MayMoveAcross p (move.Next t) = Unit {0}
MayMoveAcross p (move.Anew t) = 0 < leading p
MayMoveAcross p (move.Entered y t) = ⊥

abbrev pub MayPass : Bool → Row → Passage → Type 0
MayPass begun p (Here home m) = MayMove begun p m
MayPass begun p (Across y home m) = MayCross y.frame × MayMoveAcross p m

-- The part p of a row, from a world d with f units, went on by a passage, whatever tasks do; `begun` tells whether the
-- row was under way. What it charges was paid, and the world is d'.
pub record Went (begun : Bool) (d d' : Data) (f f' : ℕ) (l l' : Written) (p : Graph → Row) (m : Passage) : Type 0 where
  pub added : List Item
  pub logged : Added d d' l l' added
  pub same : (w : Tasks) (log : List Item) → Logged d log →
      exec w begun (p (Image d log)) f ≡ goes_on w d' m (Image d' (log ++ added)) f'
  pub paid : (log : List Item) → Logged d log → charge (p (Image d log)) (move_of m) ≤ f
  pub left : (log : List Item) → Logged d log → f' ≡ f - charge (p (Image d log)) (move_of m)
  pub may : (log : List Item) → Logged d log → MayPass begun (p (Image d log)) m
  pub ids : AreIn d' (passage_held m)
  pub grew : Grew d d'

-- the part's charge is above what is left: nothing is added to the log
pub record Unpaid (begun : Bool) (d d' : Data) (f f' : ℕ) (l l' : Written) (p : Graph → Row) : Type 0 where
  pub same : (w : Tasks) (log : List Item) → Logged d log → exec w begun (p (Image d log)) f ≡ Spent (Image d' log) f'
  pub above : (log : List Item) → Logged d log → f < leading (p (Image d log))
  pub trace : entries_in d' ≡ entries_in d
  pub told : l' ≡ l
  pub grew : Grew d d'

-- what a function that does a part of a row at a home answers
abbrev pub Step : Side → Bool → Result Move Halt → Data → Data → ℕ → ℕ → Written → Written → (Graph → Row) → Type 0
Step home begun (Ok m) d d' f f' l l' p = Went begun d d' f f' l l' p (Here home m)
Step home begun (Err SpentHalt) d d' f f' l l' p = Unpaid begun d d' f f' l l' p
Step home begun (Err NoMemory) d d' f f' l l' p = Unit {0}

-- a move that takes nothing and puts nothing below what begins
abbrev pub IsCalm : Move → Type 0
IsCalm (move.Done o) = Unit {0}
IsCalm (move.Wait y t) = IsWait y
IsCalm (move.Next t) = Unit {0}
IsCalm (move.Anew t) = ⊥
IsCalm (move.Entered y t) = ⊥

-- the usual part: it charges nothing, and nothing changes
pub record Sure (home : Side) (d : Data) (p : Graph → Row) (m : Move) : Type 0 where
  pub same : (w : Tasks) (begun : Bool) (log : List Item) (f : ℕ) →
      exec w begun (p (Image d log)) f ≡ moves w d home m (Image d log) f
  pub free : (log : List Item) → leading (p (Image d log)) ≡ 0
  pub calm : IsCalm m
  pub ids : AreIn d (move_held m)

-- a charge in front of a part
abbrev pub charged_by : ℕ → (Graph → Row) → Graph → Row
charged_by n p g = Pay n g (p g)

-- the answer puts no entry below
abbrev pub PutsNone : Result Move Halt → Type 0
PutsNone (Ok (move.Entered y t)) = ⊥
PutsNone r = Unit {0}

-- ---- steps of machines

abbrev pub IsEntered : Move → Type 0
IsEntered (move.Entered y t) = Unit {0}
IsEntered m = ⊥

abbrev pub IsBegin : Frame → Type 0
IsBegin (x.Begin t) = Unit {0}
IsBegin y = ⊥

-- The machine m made one step: it took the top frame and went on by a passage, whatever tasks do. All that a step crate
-- says of the stack.
pub record Stepped (m m' : Machine) (d d' : Data) (f f' : ℕ) (l l' : Written) : Type 0 where
  pub below : List Waiting
  pub top : Waiting
  pub passage : Passage
  pub was : m.stack.items ≡ below ++ (top ∷ [])
  pub is : m'.stack.items ≡ below ++ left_by passage
  pub done : m'.done ≡ done_by (move_of passage)
  pub now : m'.now ≡ home_of passage
  -- an entry is put below what begins, and nothing else is
  pub enters : IsEntered (move_of passage) → IsBegin top.frame
  pub step : Went (under_way top.frame) d d' f f' l l' (row_of d top m.done) passage

-- it couldn't pay
pub record Stopped (m : Machine) (d d' : Data) (f f' : ℕ) (l l' : Written) : Type 0 where
  pub below : List Waiting
  pub top : Waiting
  pub was : m.stack.items ≡ below ++ (top ∷ [])
  pub step : Unpaid (under_way top.frame) d d' f f' l l' (row_of d top m.done)

-- what every step call answers
abbrev pub Steps : Result (Unit {0}) Halt → Machine → Machine → Data → Data → ℕ → ℕ → Written → Written → Type 0
Steps (Ok u) m m' d d' f f' l l' = Stepped m m' d d' f f' l l'
Steps (Err SpentHalt) m m' d d' f f' l l' = Stopped m d d' f f' l l'
Steps (Err NoMemory) m m' d d' f f' l l' = Unit {0}

-- ---- the measure, which falls by each step

-- what stands on top may still take steps that charge nothing
abbrev pub start_weight : Frame → ℕ
start_weight (x.Begin t) = 3
start_weight (x.Anew t) = 8
start_weight y = 0

abbrev pub top_weight : List Waiting → ℕ
top_weight [] = 0
top_weight (y ∷ []) = start_weight y.frame
top_weight (y ∷ z ∷ above) = top_weight (z ∷ above)

abbrev pub done_weight : {A : Type 0} → Option A → ℕ
done_weight None = 0
done_weight (Some y) = 9

abbrev pub stack_weight : {A : Type 0} → List Waiting → Option A → ℕ
stack_weight stack done = 2 * length stack + top_weight stack + done_weight done

abbrev pub weight : Machine → ℕ → ℕ
weight m f = 16 * f + stack_weight m.stack.items m.done

-- ---- where an outcome is there

-- the outcome is missing exactly where something starts on top, and nothing starts below
abbrev pub HasItsOutcome : {A : Type 0} → List Waiting → Option A → Type 0
HasItsOutcome [] done = is_some done ≡ true
HasItsOutcome (y ∷ []) None = IsStart y.frame
HasItsOutcome (y ∷ []) (Some done) = IsWait y.frame
HasItsOutcome (y ∷ z ∷ above) done = IsWait y.frame × HasItsOutcome (z ∷ above) done
