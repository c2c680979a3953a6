-- The commands as `clap` has them, and their words in one order.
use Rattle.std.specs.Prelude.{◌≡◌, ℕ, List, [], ◌∷◌, ◌++◌, length, Bool, true, false, ◌&&◌, nat_le, fold, Option, Some, None, if◌then◌else◌, codes}
use Rattle.clap.specs.Words.{App, Rule, Row, Text, all_of, first_of, one_of, new_app, new_rule, with_rule}
use Rattle.clap.specs.declared.builder.action.ArgAction.TheVariants.{Set, SetTrue}
use Rattle.mb_words.specs.declared.command.Command.{Command}
use Rattle.mb_words.specs.declared.command.Command.TheVariants.{Run, Shared, Check, Load, Sides}
use Rattle.mb_words.specs.declared.command.OptionName.{OptionName}
use Rattle.mb_words.specs.declared.command.OptionName.TheVariants.{Policy, Schedule, Budget, Trace}
use Rattle.mb_words.specs.Words.{Word, options_of, opening, option_word}
use Rattle.mb_words.specs.Parts.{Chosen}
use Rattle.mb_words.specs.machine.Scanning.{Slots}

abbrev pub name_of : Command → Text
name_of Run = codes "run"
name_of Shared = codes "shared"
name_of Check = codes "check"
name_of Load = codes "load"
name_of Sides = codes "sides"

-- how many operands a command has
abbrev pub fewest : Command → ℕ
fewest Check = 1
fewest _ = 2

abbrev pub most : Command → ℕ
most Check = 1
most Sides = 8
most _ = 2

abbrev pub takes_operands : Command → List Word → Bool
takes_operands command operands = nat_le (fewest command) (length operands) && nat_le (length operands) (most command)

-- the option's name without its hyphens
abbrev pub label : OptionName → Text
label Policy = codes "policy"
label Schedule = codes "schedule"
label Budget = codes "budget"
label Trace = codes "trace"

abbrev pub option_rule : OptionName → Rule
option_rule Trace = record (new_rule (codes "trace")) { long = Some (codes "trace"); action = Some SetTrue }
option_rule name = record (new_rule (label name)) { long = Some (label name); action = Some Set }

abbrev pub operand_rule : Command → Rule
operand_rule command = record (new_rule (codes "operand")) {
  required = true;
  action = Some Set;
  range = Some (record { start_inclusive = fewest command; end_inclusive = most command });
}

abbrev pub with_option : App → OptionName → App
with_option app name = with_rule app (option_rule name)

abbrev pub with_options : Command → App
with_options command = fold with_option (new_app (name_of command)) (options_of command)

abbrev pub app_for : Command → App
app_for command = with_rule (with_options command) (operand_rule command)

-- ---- the words in one order

abbrev pub value_word : OptionName → Option Word → List Word
value_word name None = []
value_word name (Some value) = (opening name ++ value) ∷ []

abbrev pub flag_word : Bool → List Word
flag_word true = option_word Trace ∷ []
flag_word false = []

abbrev pub option_words : OptionName → Chosen → List Word
option_words Policy c = value_word Policy c.policy
option_words Schedule c = value_word Schedule c.schedule
option_words Budget c = value_word Budget c.budget
option_words Trace c = flag_word c.traced

abbrev pub front : List OptionName → Chosen → List Word
front [] c = []
front (name ∷ names) c = option_words name c ++ front names c

abbrev pub in_order : Command → Chosen → List Word
in_order command c = name_of command ∷ (front (options_of command) c ++ (codes "--" ∷ c.operands))

-- ---- what is chosen of the command's own options

abbrev pub has_option : Command → OptionName → Bool
has_option Run name = true
has_option Sides name = true
has_option Shared Policy = false
has_option Shared name = true
has_option Check name = false
has_option Load name = false

abbrev pub own : Command → Chosen → Chosen
own Run c = c
own Sides c = c
own Shared c = record c { policy = None }
own Check c = record c { policy = None; schedule = None; budget = None; traced = false }
own Load c = record c { policy = None; schedule = None; budget = None; traced = false }

abbrev pub truth : Bool → Text
truth true = codes "true"
truth false = codes "false"

-- the value of an option in the rows of `clap`
abbrev pub value_in : Command → OptionName → List Row → Option Text
value_in command name rows = if has_option command name then first_of (label name) rows else None

abbrev pub flag_in : Command → OptionName → List Row → Option Text
flag_in command name rows = if has_option command name then one_of (label name) rows else Some (truth false)

-- the rows give what was chosen
abbrev pub Finds : Command → Chosen → List Row → Type 0
Finds command c rows = (all_of (codes "operand") rows ≡ Some c.operands)
    × (value_in command Policy rows ≡ (own command c).policy)
    × (value_in command Schedule rows ≡ (own command c).schedule)
    × (value_in command Budget rows ≡ (own command c).budget)
    × (flag_in command Trace rows ≡ Some (truth (own command c).traced))

abbrev pub IsFlag : Command → OptionName → List Row → Bool → Type 0
IsFlag command name rows flag = (given : Bool) → flag_in command name rows ≡ Some (truth given) → flag ≡ given

-- the values are those of the command's own options in the rows
pub record IsOwn (command : Command) (rows : List Row) (s : Slots) : Type 0 where
  pub policy : s.policy ≡ value_in command Policy rows
  pub schedule : s.schedule ≡ value_in command Schedule rows
  pub budget : s.budget ≡ value_in command Budget rows
  pub traced : IsFlag command Trace rows s.traced
