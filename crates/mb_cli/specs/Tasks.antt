-- What a call of `serve` is asked to do, how that ends by the scripts alone, and the text that it writes.
use Rattle.std.specs.Prelude.{◌≡◌, ℕ, ◌<◌, ◌≤◌, ◌⊎◌, ◌++◌, List, [], ◌∷◌, length, map, drop, codes, string_bytes}
use Rattle.std.specs.Prelude.{Bool, false, nat_lt, if◌then◌else◌, ⊤}
use Rattle.std.specs.Prelude.{Option, Some, None, IsSome, Ok, String, option_map}
use Rattle.std.specs.declared.alloc.Global.{Global}
use Rattle.mb_outer.specs.Shelf.{Shelf, held}
use Rattle.mb_cli.specs.Settings.{Settings, run, share, check, settings_of}
use Rattle.mb_cli.specs.Sharing.{HasStory}
use Rattle.mb_cli.specs.Sides.{left_side, right_side}
use Rattle.mb_load_tree.specs.Trees.{HasTree}
use Rattle.mb_model.specs.Story as story
use Rattle.mb_model.specs.Story.{Stage}
use Rattle.mb_model.specs.Text.{Text_of}
use Rattle.mb_cli.specs.Trees.{longest_script, ScriptFault}
use Rattle.mb_cli.specs.first_form.Prints.{EndsRun, Printed}
use Rattle.mb_cli.specs.declared.status.ScriptKind.{ScriptKind}
use Rattle.mb_cli.specs.declared.status.Which.TheVariants.{Script}
use Rattle.mb_cli.specs.declared.status.Status.{Status}
use Rattle.mb_cli.specs.declared.status.Status.TheVariants.{Done, Uncaught, BadScript, Spent, TooLong}

-- a command, with the texts that the library has under its names
pub data Task : Type 0 where
  running : (left right : Option (List ℕ)) → Task
  sharing : (left right : Option (List ℕ)) (schedule : List ℕ) (budget : ℕ) (traced : Bool) → Task
  checking : (script : Option (List ℕ)) → Task

abbrev pub task_of : Shelf → Settings → Task
task_of texts (run left right) = running (held left texts) (held right texts)
task_of texts (share left right schedule budget traced) =
    sharing (held left texts) (held right texts) schedule budget traced
task_of texts (check file) = checking (held file texts)

-- where the library tells its texts and the words ask for a command, the fact holds of what it is to do
abbrev pub OnTask : Option Shelf → List (String Global) → (Task → Type 0) → Type 0
OnTask shelf words fact =
    (texts : Shelf) (settings : Settings) → shelf ≡ Some texts
    → settings_of (map string_bytes words) ≡ Ok settings → fact (task_of texts settings)

-- each text is there
abbrev pub IsThere : Task → Type 0
IsThere (running left right) = IsSome left × IsSome right
IsThere (sharing left right schedule budget traced) = IsSome left × IsSome right
IsThere (checking script) = IsSome script

-- ---- one script

-- the text is there and isn't too long, or is
abbrev pub IsWithin : Option (List ℕ) → Type 0
IsWithin None = ⊥
IsWithin (Some bytes) = length bytes ≤ longest_script

abbrev pub IsTooLong : Option (List ℕ) → Type 0
IsTooLong None = ⊥
IsTooLong (Some bytes) = longest_script < length bytes

-- the script isn't too long and has a tree, or has this fault
abbrev pub PassesCheck : Option (List ℕ) → Type 0
PassesCheck None = ⊥
PassesCheck (Some bytes) = (length bytes ≤ longest_script) × HasTree bytes

abbrev pub IsFaulty : Option (List ℕ) → ScriptKind → Type 0
IsFaulty None kind = ⊥
IsFaulty (Some bytes) kind = (length bytes ≤ longest_script) × ScriptFault bytes kind

-- how `check` ends by its script, which is there and is judged as a left one
abbrev pub EndsCheck : Option (List ℕ) → Status → Type 0
EndsCheck (Some bytes) Done = PassesCheck (Some bytes)
EndsCheck (Some bytes) (BadScript side kind) =
    (side ≡ left_side) × (length bytes ≤ longest_script) × ScriptFault bytes kind
EndsCheck (Some bytes) (TooLong which) = (which ≡ Script left_side) × (longest_script < length bytes)
EndsCheck script status = ⊥

-- ---- two scripts on one graph

-- both are accepted, and their story ends so
abbrev pub EndsStory : (left right : Option (List ℕ)) → List ℕ → ℕ → story.Ending → Type 0
EndsStory left right schedule budget ending =
    (stage : Stage) × HasStory left right schedule budget stage × (stage.ending ≡ ending)

-- A text that is too long is told before the next is read, and a fault of a script after both were.
abbrev pub EndsShared : (left right : Option (List ℕ)) → List ℕ → ℕ → Status → Type 0
EndsShared left right schedule budget Done = EndsStory left right schedule budget story.Done
EndsShared left right schedule budget Uncaught = EndsStory left right schedule budget story.WithThrow
EndsShared left right schedule budget Spent = EndsStory left right schedule budget story.OutOfFuel
EndsShared left right schedule budget (BadScript side kind) =
    ((side ≡ left_side) × IsWithin right × IsFaulty left kind)
    ⊎ ((side ≡ right_side) × PassesCheck left × IsFaulty right kind)
EndsShared left right schedule budget (TooLong which) =
    ((which ≡ Script left_side) × IsTooLong left)
    ⊎ ((which ≡ Script right_side) × IsWithin left × IsTooLong right)
EndsShared left right schedule budget status = ⊥

-- ---- all commands

-- how a task ends by its scripts alone, where each is there
abbrev pub Ends : Task → Status → Type 0
Ends (running left right) = EndsRun left right
Ends (sharing left right schedule budget traced) = EndsShared left right schedule budget
Ends (checking script) = EndsCheck script

-- how it ends where its whole text is written
abbrev pub IsEnd : Status → Type 0
IsEnd Done = ⊤
IsEnd Uncaught = ⊤
IsEnd Spent = ⊤
IsEnd status = ⊥

-- the line of a script that is right
abbrev pub right_line : List ℕ
right_line = codes "= ok" ++ 10 ∷ []

-- each script is accepted, and this is the text that is written
abbrev pub Writes : Task → List ℕ → Type 0
Writes (running left right) text = Printed left right text
Writes (sharing left right schedule budget traced) text =
    (stage : Stage) × HasStory left right schedule budget stage × (text ≡ Text_of traced false stage)
Writes (checking script) text = PassesCheck script × (text ≡ right_line)

-- all behind the first so many bytes
unfoldable pub behind : ℕ → List ℕ → List ℕ
behind count bytes = drop count bytes

-- the text that is read last: a left one that is too long, or the right one
abbrev pub last_of : (left right : Option (List ℕ)) → Option (List ℕ)
last_of None right = right
last_of (Some bytes) right = if nat_lt longest_script (length bytes) then Some bytes else right

-- what is left of the text that is read last: all behind one byte more than a script may have
abbrev pub left_of : Task → Option (List ℕ)
left_of (running left right) = option_map (behind 65537) right
left_of (sharing left right schedule budget traced) = option_map (behind 1048577) (last_of left right)
left_of (checking script) = option_map (behind 1048577) script
