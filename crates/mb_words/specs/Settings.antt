-- The settings that the words of a command line give.
use Rattle.std.specs.Prelude.{◌≡◌, ℕ, List, [], ◌∷◌, length, Bool, ◌&&◌, nat_le, Option, Some, None, option_map, Result, Ok, Err, ⊤, map, string_bytes, if◌then◌else◌}
use Rattle.mb_words.specs.declared.command.Command.{Command}
use Rattle.mb_words.specs.declared.command.Command.TheVariants.{Run, Shared, Check, Load, Sides}
use Rattle.mb_words.specs.declared.fault.WordsKind.{WordsKind}
use Rattle.mb_words.specs.declared.fault.WordsKind.TheVariants.{Usage, Schedule, Budget}
use Rattle.mb_words.specs.declared.fault.WordsFault.{WordsFault}
use Rattle.mb_words.specs.declared.fault.WordsFault.TheVariants.{Refused, NoMemory}
use Rattle.mb_words.specs.declared.values.Settings as code
use Rattle.mb_words.specs.declared.values.Settings.TheVariants as settings
use Rattle.mb_words.specs.Words.{Word, command_of, options_of}
use Rattle.mb_words.specs.Parts.{Chosen, cut, chosen}
use Rattle.mb_words.specs.Values.{number_of, schedule_fault, schedule_of, budget_of}

-- what a command is to do
pub data Asked : Type 0 where
  to_run : (left right : Word) (policy : Option Word) (schedule : Word) (budget : ℕ) (traced : Bool) → Asked
  to_share : (left right schedule : Word) (budget : ℕ) (traced : Bool) → Asked
  to_check : (file : Word) → Asked
  to_load : (start size : ℕ) → Asked
  to_run_sides : (scripts : List Word) (policy : Option Word) (schedule : Word) (budget : ℕ) (traced : Bool) → Asked

abbrev pub Reading : Type 0
Reading = Result Asked WordsKind

abbrev pub by_budget : Option ℕ → (ℕ → Asked) → Reading
by_budget None ask = Err Budget
by_budget (Some budget) ask = Ok (ask budget)

abbrev pub by_schedule : Option ℕ → Reading → Reading
by_schedule (Some at) reading = Err (Schedule at)
by_schedule None reading = reading

-- settings of a schedule and a budget; a fault of the schedule goes before one of the budget
abbrev pub timed : Command → ℕ → Chosen → (Word → ℕ → Asked) → Reading
timed command sides c ask = by_schedule (schedule_fault command sides (schedule_of c.schedule))
    (by_budget (budget_of c.budget) (ask (schedule_of c.schedule)))

abbrev pub two : List Word → (Word → Word → Reading) → Reading
two (one ∷ other ∷ []) ask = ask one other
two _ ask = Err Usage

abbrev pub run_asked : Chosen → Reading
run_asked c = two c.operands (λ left right. timed Run 2 c (λ schedule budget.
    to_run left right c.policy schedule budget c.traced))

abbrev pub shared_asked : Chosen → Reading
shared_asked c = two c.operands (λ left right. timed Shared 2 c (λ schedule budget.
    to_share left right schedule budget c.traced))

abbrev pub check_asked : List Word → Reading
check_asked (file ∷ []) = Ok (to_check file)
check_asked _ = Err Usage

abbrev pub by_numbers : Option ℕ → Option ℕ → Reading
by_numbers (Some start) (Some size) = Ok (to_load start size)
by_numbers _ _ = Err Usage

abbrev pub load_asked : List Word → Reading
load_asked operands = two operands (λ start size. by_numbers (number_of 0 4294967295 start) (number_of 1 5000 size))

-- two to eight scripts
abbrev pub sides_asked : Chosen → Reading
sides_asked c =
    if nat_le 2 (length c.operands) && nat_le (length c.operands) 8
    then timed Sides (length c.operands) c (λ schedule budget.
    to_run_sides c.operands c.policy schedule budget c.traced)
    else Err Usage

abbrev pub asked : Command → Chosen → Reading
asked Run c = run_asked c
asked Shared c = shared_asked c
asked Check c = check_asked c.operands
asked Load c = load_asked c.operands
asked Sides c = sides_asked c

abbrev pub by_choice : Command → Option Chosen → Reading
by_choice command None = Err Usage
by_choice command (Some c) = asked command c

abbrev pub by_command : Option Command → List Word → Reading
by_command None words = Err Usage
by_command (Some command) words = by_choice command (chosen (cut (options_of command) words))

-- the settings of the words after the program's name, or what is wrong with them
abbrev pub SettingsOf : List Word → Reading
SettingsOf [] = Err Usage
SettingsOf (word ∷ words) = by_command (command_of word) words

-- ---- the same of the code's values

abbrev pub asked_by : code.Settings → Asked
asked_by (settings.Run left right policy schedule budget traced) = to_run (string_bytes left) (string_bytes right)
    (option_map string_bytes policy) (string_bytes schedule) budget traced
asked_by (settings.Shared left right schedule budget traced) =
    to_share (string_bytes left) (string_bytes right) (string_bytes schedule) budget traced
asked_by (settings.Check file) = to_check (string_bytes file)
asked_by (settings.Load start size) = to_load start size
asked_by (settings.Sides scripts policy schedule budget traced) =
    to_run_sides (map string_bytes scripts.items) (option_map string_bytes policy) (string_bytes schedule) budget traced

-- the settings or the refusal are those of the reading; want of memory may be answered for any
abbrev pub Answers : Result code.Settings WordsFault → Reading → Type 0
Answers (Ok s) reading = reading ≡ Ok (asked_by s)
Answers (Err (Refused kind)) reading = reading ≡ Err kind
Answers (Err NoMemory) reading = ⊤
