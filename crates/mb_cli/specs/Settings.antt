-- What the words of a command line ask for, of what the program can do today.
use Rattle.std.specs.Prelude.{ℕ, List, [], nat_eq, Bool, false, None, Result, Ok, Err, if◌then◌else◌}
use Rattle.mb_words.specs.declared.fault.WordsKind.{WordsKind}
use Rattle.mb_words.specs.declared.fault.WordsKind.TheVariants.{Usage}
use Rattle.mb_words.specs.Settings.{Asked, Reading, SettingsOf, to_run, to_share, to_check}

-- the commands, with the names of their files
pub data Settings : Type 0 where
  run : (left right : List ℕ) → Settings
  share : (left right schedule : List ℕ) (budget : ℕ) (traced : Bool) → Settings
  check : (file : List ℕ) → Settings

-- what the program can do today: a check, two scripts on one graph, and a run without a policy, a schedule or a trace
-- and with the budget that stands where none is given
abbrev pub today : Asked → Result Settings WordsKind
today (to_check file) = Ok (check file)
today (to_share left right schedule budget traced) = Ok (share left right schedule budget traced)
today (to_run left right None [] budget false) = if nat_eq budget 1000000 then Ok (run left right) else Err Usage
today _ = Err Usage

abbrev pub by_reading : Reading → Result Settings WordsKind
by_reading (Ok asked) = today asked
by_reading (Err kind) = Err kind

-- the settings of the words after the program's name, or why they are refused
abbrev pub settings_of : List (List ℕ) → Result Settings WordsKind
settings_of words = by_reading (SettingsOf words)
