-- What a command of the code asks for.
use Rattle.std.specs.Prelude.{◌≡◌, ℕ, List, Option, Result, Ok, Err, ⊤, string_bytes}
use Rattle.mb_words.specs.declared.fault.WordsFault.{WordsFault}
use Rattle.mb_words.specs.declared.fault.WordsFault.TheVariants.{Refused, NoMemory}
use Rattle.mb_words.specs.declared.fault.WordsKind.{WordsKind}
use Rattle.mb_outer.specs.Shelf.{Shelf}
use Rattle.mb_cli.specs.Settings.{Settings, run, share, check}
use Rattle.mb_cli.specs.Tasks as tasks
use Rattle.mb_cli.specs.Tasks.{Task, task_of}
use Rattle.mb_cli.specs.declared.words.Command.{Command}
use Rattle.mb_cli.specs.declared.words.Command.TheVariants as command
use Rattle.mb_cli.specs.declared.words.Listing.{Listing}
use Rattle.mb_cli.specs.declared.words.Listing.TheVariants as listing
use Rattle.mb_cli.specs.declared.words.Sharing.{Sharing}

abbrev pub listed_by : Listing → Settings
listed_by (listing.Run left right) = run (string_bytes left) (string_bytes right)
listed_by (listing.Check file) = check (string_bytes file)

abbrev pub shared_by : Sharing → Settings
shared_by sharing = share (string_bytes sharing.left) (string_bytes sharing.right) (string_bytes sharing.schedule)
    sharing.budget sharing.traced

abbrev pub meant_by : Command → Settings
meant_by (command.List listing) = listed_by listing
meant_by (command.Share sharing) = shared_by sharing

-- the task of two scripts on one graph, by their texts and by a shelf
abbrev pub task_of_pair : (left right : Option (List ℕ)) → Sharing → Task
task_of_pair left right sharing = tasks.sharing left right (string_bytes sharing.schedule) sharing.budget sharing.traced

abbrev pub task_of_sharing : Shelf → Sharing → Task
task_of_sharing texts sharing = task_of texts (shared_by sharing)

-- the command or the refusal is that of the words; want of memory may be answered for any
abbrev pub Commands : Result Command WordsFault → Result Settings WordsKind → Type 0
Commands (Ok found) asked = asked ≡ Ok (meant_by found)
Commands (Err (Refused kind)) asked = asked ≡ Err kind
Commands (Err NoMemory) asked = ⊤
