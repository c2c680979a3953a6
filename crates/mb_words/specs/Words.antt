-- The commands, their options, and what one word of a command line is.
use Rattle.std.specs.Prelude.{ℕ, List, [], ◌∷◌, ◌++◌, length, drop, Bool, true, false, not, ◌&&◌, nat_eq, nat_lt, Option, Some, None, option_map, unwrap_or, if◌then◌else◌, codes}
use Rattle.std.specs.List.{starts_with}
use Rattle.std.specs.Str.{bytes_eq}
use Rattle.mb_words.specs.declared.command.Command.{Command}
use Rattle.mb_words.specs.declared.command.Command.TheVariants.{Run, Shared, Check, Load, Sides}
use Rattle.mb_words.specs.declared.command.OptionName.{OptionName}
use Rattle.mb_words.specs.declared.command.OptionName.TheVariants.{Policy, Schedule, Budget, Trace}

-- a word is its bytes
abbrev pub Word : Type 0
Word = List ℕ

-- the command of the first word
abbrev pub command_of : Word → Option Command
command_of word =
    if bytes_eq word (codes "run") then Some Run
    else (if bytes_eq word (codes "shared") then Some Shared
    else (if bytes_eq word (codes "check") then Some Check
    else (if bytes_eq word (codes "load") then Some Load
    else (if bytes_eq word (codes "sides") then Some Sides
    else None))))

-- the options of a command
abbrev pub options_of : Command → List OptionName
options_of Run = Policy ∷ Schedule ∷ Budget ∷ Trace ∷ []
options_of Sides = Policy ∷ Schedule ∷ Budget ∷ Trace ∷ []
options_of Shared = Schedule ∷ Budget ∷ Trace ∷ []
options_of Check = []
options_of Load = []

abbrev pub option_word : OptionName → Word
option_word Policy = codes "--policy"
option_word Schedule = codes "--schedule"
option_word Budget = codes "--budget"
option_word Trace = codes "--trace"

-- the option with its `=`, before its value
abbrev pub opening : OptionName → Word
opening name = option_word name ++ codes "="

-- `--trace` takes no value, the others one
abbrev pub takes_value : OptionName → Bool
takes_value Trace = false
takes_value _ = true

-- it begins with `-` and has more bytes
abbrev pub is_option : Word → Bool
is_option word = starts_with nat_eq word (codes "-") && nat_lt 1 (length word)

-- what a word is where no option waits for its value
pub data Role : Type 0 where
  marker : Role  -- `--`
  flag : OptionName → Role  -- an option that takes no value
  opener : OptionName → Role  -- an option whose value is the next word
  given : OptionName → Word → Role  -- an option with its value
  operand : Word → Role
  wrong : Role

abbrev pub alone : OptionName → Role
alone name = if takes_value name then opener name else flag name

abbrev pub attached : OptionName → Word → Role
attached name [] = wrong
attached name (b ∷ bs) = if takes_value name then given name (b ∷ bs) else wrong

-- what follows the option and its `=`
abbrev pub value_behind : OptionName → Word → Option Word
value_behind name word =
    if starts_with nat_eq word (opening name) then Some (drop (length (opening name)) word) else None

-- an option is spelled whole, alone or before `=` and a value that isn't empty
abbrev pub role_by : OptionName → Word → Option Role
role_by name word =
    if bytes_eq word (option_word name) then Some (alone name)
    else option_map (attached name) (value_behind name word)

abbrev pub option_role : List OptionName → Word → Role
option_role [] word = wrong
option_role (name ∷ names) word = unwrap_or (role_by name word) (option_role names word)

abbrev pub operand_role : Word → Role
operand_role [] = wrong
operand_role (b ∷ bs) = operand (b ∷ bs)

abbrev pub role_of : List OptionName → Word → Role
role_of names word =
    if bytes_eq word (codes "--") then marker
    else (if is_option word then option_role names word else operand_role word)

-- the word may be an option's value by itself
abbrev pub is_value : Word → Bool
is_value [] = false
is_value (b ∷ bs) = not (is_option (b ∷ bs))
