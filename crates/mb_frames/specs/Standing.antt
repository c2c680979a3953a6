-- What frames, moves and machines stand for, whatever tasks do. A machine still gives what its outcome gives, handed
-- down its stack: each frame goes on with the rest of its row.
use Rattle.mb_world.specs.Value.{number_of}
use Rattle.std.specs.Prelude.{option_map, Bool, List, None, Option, Some, [], false, true, ℕ, ◌∷◌, ◌≡◌}
use Rattle.mb_base.specs.declared.value.Side.{Side}
use Rattle.mb_frames.specs.Resolved.{done_in, given_in, outcome_in, task_in}
use Rattle.mb_frames.specs.Rest.Arraying.{array_rest}
use Rattle.mb_frames.specs.Rest.Calls.{call_rest}
use Rattle.mb_frames.specs.Rest.Collecting.{collect_rest}
use Rattle.mb_frames.specs.Rest.Crossings.{membrane_rest}
use Rattle.mb_frames.specs.Rest.Expressions.{expr_rest}
use Rattle.mb_frames.specs.Rest.Parts.{with_answer}
use Rattle.mb_frames.specs.Rest.Proxying.{proxy_rest}
use Rattle.mb_frames.specs.Rest.Reflecting.{reflect_rest}
use Rattle.mb_frames.specs.Rest.Statements.{stmt_rest}
use Rattle.mb_model.specs.Engine.{Doing, Gives, Ret, and_then, charged_row, exec, meaning, under}
use Rattle.mb_model.specs.Meaning.{Ends, finished}
use Rattle.mb_model.specs.Task.{Outcome, Task}
use Rattle.mb_model.specs.Trace.Entries.{with_entry, said_outcome, entries}
use Rattle.mb_model.specs.Writing.{Row}
use Rattle.mb_world.specs.Data.{Data, program_of}
use Rattle.mb_world.specs.Form.{Form}
use Rattle.mb_world.specs.Graph.{Graph, Entry, Item}
use Rattle.mb_world.specs.Image.{Image, Names, entries_in, key_in, names_of, object_in, program_in}
use Rattle.mb_frames.specs.declared.task.Outcome.{Outcome as FrameOutcome}
use Rattle.mb_frames.specs.declared.frame.Entering.{Entering}
use Rattle.mb_frames.specs.declared.frame.Frame.{Frame}
use Rattle.mb_frames.specs.declared.frame.Frame.TheVariants as x
use Rattle.mb_frames.specs.declared.frame.Move.{Move}
use Rattle.mb_frames.specs.declared.frame.Move.TheVariants as move
use Rattle.mb_frames.specs.declared.machine.Waiting.{Waiting}
use Rattle.mb_frames.specs.declared.machine.Machine.{Machine}
use Rattle.mb_model.specs.Meaning.{row}

-- what tasks do, over the graph
abbrev pub Tasks : Type 0
Tasks = Doing Task Outcome Graph

-- the nodes of a side's script
abbrev pub forms_at : Data → Side → List Form
forms_at d side = (program_in d.texts (program_of d side)).forms

-- ---- frames

-- the entry that is made where a method or an access ends
abbrev pub entry_by : Names → ℕ → Entering → Outcome → Entry
entry_by n s y o = record {
  began = y.began;
  side = s;
  object = number_of (object_in n y.object);
  op = y.op;
  key = option_map (key_in n) y.key;
  given = given_in n y.given;
  answer = said_outcome o;
}

-- the row that stands on top, from the outcome that is handed to it
abbrev pub frame_row : Names → List Form → ℕ → Frame → Outcome → Graph → Row
frame_row n fs s (x.Begin y) o g = charged_row row (task_in n s y) g
frame_row n fs s (x.Begun y) o g = charged_row row (task_in n s y) g
frame_row n fs s (x.Anew y) o g = row (task_in n s y) g
frame_row n fs s (x.Expr y) o g = with_answer o (expr_rest n fs s y) finished g
frame_row n fs s (x.Stmt y) o g = stmt_rest n fs s y o finished g
frame_row n fs s (x.Call y) o g = call_rest n fs s y o finished g
frame_row n fs s (x.Reflect y) o g = with_answer o (reflect_rest n s y) finished g
frame_row n fs s (x.Array y) o g = with_answer o (array_rest n s y) finished g
frame_row n fs s (x.Proxy y) o g = with_answer o (proxy_rest n s y) finished g
frame_row n fs s (x.Collect y) o g = with_answer o (collect_rest n s y) finished g
frame_row n fs s (x.Membrane y) o g = membrane_rest n s y o finished g
frame_row n fs s (x.Entry y) o g = Ret o (with_entry (entry_by n s y o) g)

-- it had a task done already, so a row may start anew in its place
abbrev pub under_way : Frame → Bool
under_way (x.Begin y) = false
under_way (x.Begun y) = false
under_way (x.Anew y) = false
under_way (x.Expr y) = true
under_way (x.Stmt y) = true
under_way (x.Call y) = true
under_way (x.Reflect y) = true
under_way (x.Array y) = true
under_way (x.Proxy y) = true
under_way (x.Collect y) = true
under_way (x.Membrane y) = true
under_way (x.Entry y) = true

-- what a frame gives: a task that begins and a row that starts anew leave aside what is handed to them
abbrev pub frame_gives : Tasks → Names → List Form → ℕ → Frame → Outcome → Graph → ℕ → Ends
frame_gives w n fs s (x.Begin y) o g f = w.task (task_in n s y) g f
frame_gives w n fs s (x.Anew y) o g f = w.anew (task_in n s y) g f
frame_gives w n fs s y o g f = exec w (under_way y) (frame_row n fs s y o g) f

abbrev pub hands : Tasks → Data → Waiting → Outcome → Graph → ℕ → Ends
hands w d y o g f = frame_gives w (names_of d) (forms_at d y.home) y.home.0 y.frame o g f

-- the row on top of a stack
abbrev pub row_of : Data → Waiting → Option FrameOutcome → Graph → Row
row_of d y done g = frame_row (names_of d) (forms_at d y.home) y.home.0 y.frame (done_in (names_of d) done) g

-- ---- moves

abbrev pub at_home : Side → Frame → Waiting
at_home home y = record { home = home; frame = y }

-- what a step of the home `home` still gives
abbrev pub moves : Tasks → Data → Side → Move → Graph → ℕ → Ends
moves w d home (move.Done o) g f = Gives (outcome_in (names_of d) o) g f
moves w d home (move.Wait y t) g f =
    and_then (w.task (task_in (names_of d) home.0 t) g f) (hands w d (at_home home y))
moves w d home (move.Next t) g f = w.task (task_in (names_of d) home.0 t) g f
moves w d home (move.Anew t) g f = w.anew (task_in (names_of d) home.0 t) g f
moves w d home (move.Entered y t) g f =
    and_then (exec w false (charged_row row (task_in (names_of d) home.0 t) g) f) (hands w d (at_home home y))

-- what it leaves on the stack, and the outcome that is there then
abbrev pub above : Side → Move → List Waiting
above home (move.Done o) = []
above home (move.Wait y t) = at_home home y ∷ at_home home (x.Begin t) ∷ []
above home (move.Next t) = at_home home (x.Begin t) ∷ []
above home (move.Anew t) = at_home home (x.Anew t) ∷ []
above home (move.Entered y t) = at_home home y ∷ at_home home (x.Begun t) ∷ []

abbrev pub done_by : Move → Option FrameOutcome
done_by (move.Done o) = Some o
done_by (move.Wait y t) = None
done_by (move.Next t) = None
done_by (move.Anew t) = None
done_by (move.Entered y t) = None

-- a move of that home, or one of another home, above a frame that waits for it
pub data Passage : Type 0 where
  Here : (home : Side) → Move → Passage
  Across : (frame : Waiting) → (home : Side) → Move → Passage

abbrev pub goes_on : Tasks → Data → Passage → Graph → ℕ → Ends
goes_on w d (Here home m) g f = moves w d home m g f
goes_on w d (Across y home m) g f = and_then (moves w d home m g f) (hands w d y)

abbrev pub left_by : Passage → List Waiting
left_by (Here home m) = above home m
left_by (Across y home m) = y ∷ above home m

abbrev pub home_of : Passage → Side
home_of (Here home m) = home
home_of (Across y home m) = home

abbrev pub move_of : Passage → Move
move_of (Here home m) = m
move_of (Across y home m) = m

-- ---- machines

-- what a stack of frames gives, where the outcome on top is this one
abbrev pub stack_gives : Tasks → Data → List Waiting → Option FrameOutcome → Graph → ℕ → Ends
stack_gives w d stack done g f = under (hands w d) stack (Gives (done_in (names_of d) done) g f)

-- what a machine still gives, where this was logged
abbrev pub RestBy : Tasks → Machine → Data → ℕ → List Item → Ends
RestBy w m d f log = stack_gives w d m.stack.items m.done (Image d log) f

-- what it still gives by the meaning
abbrev pub Rest : Machine → Data → ℕ → List Item → Ends
Rest m d f log = RestBy (meaning row) m d f log

-- the log of a story that has these entries of a world
abbrev pub Logged : Data → List Item → Type 0
Logged d log = entries log ≡ entries_in d

-- tasks do their rows, and so does what starts anew
pub record ByRows (w : Tasks) : Type 0 where
  pub task : (t : Task) (g : Graph) (f : ℕ) → w.task t g f ≡ exec w false (charged_row row t g) f
  pub anew : (t : Task) (g : Graph) (f : ℕ) → w.anew t g f ≡ exec w false (row t g) f
