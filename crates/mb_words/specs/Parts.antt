-- The words after a command, cut into options with their values and operands.
use Rattle.std.specs.Prelude.{ℕ, List, [], ◌∷◌, Bool, true, false, ◌&&◌, nat_le, count_by, find, is_some, Option, Some, None, option_map, if◌then◌else◌}
use Rattle.mb_words.specs.declared.command.OptionName.{OptionName}
use Rattle.mb_words.specs.declared.command.OptionName.TheVariants.{Policy, Schedule, Budget, Trace}
use Rattle.mb_words.specs.Words.{Word, Role, marker, flag, opener, given, operand, wrong, role_of, operand_role, is_value}

-- an option with its value; that of a flag is empty
abbrev pub Given : Type 0
Given = OptionName × Word

-- the options and the operands, each in the order in which they stand
pub record Parts : Type 0 where
  pub options : List Given
  pub operands : List Word

abbrev pub with_option : Given → Option Parts → Option Parts
with_option o None = None
with_option o (Some parts) = Some (record parts { options = o ∷ parts.options })

abbrev pub with_operand : Word → Option Parts → Option Parts
with_operand word None = None
with_operand word (Some parts) = Some (record parts { operands = word ∷ parts.operands })

-- the parts that begin with a word of this role; `rest` gives those behind it,
-- by the option that waits for its value and whether `--` stood
abbrev pub cut_at : Role → (Option OptionName → Bool → Option Parts) → Option Parts
cut_at marker rest = rest None true
cut_at (flag name) rest = with_option (name, []) (rest None false)
cut_at (opener name) rest = rest (Some name) false
cut_at (given name value) rest = with_option (name, value) (rest None false)
cut_at (operand word) rest = with_operand word (rest None false)
cut_at wrong rest = None

-- after `--` each word that isn't empty is an operand
abbrev pub cut_behind : Role → Option Parts → Option Parts
cut_behind (operand word) rest = with_operand word rest
cut_behind _ rest = None

-- the parts of the words, by the option that waits for its value and whether `--` stood before them
abbrev pub cut_from : List OptionName → Option OptionName → Bool → List Word → Option Parts
cut_from names None behind [] = Some (record { options = []; operands = [] })
cut_from names (Some name) behind [] = None
cut_from names (Some name) behind (word ∷ words) =
    if is_value word then with_option (name, word) (cut_from names None behind words) else None
cut_from names None true (word ∷ words) = cut_behind (operand_role word) (cut_from names None true words)
cut_from names None false (word ∷ words) =
    cut_at (role_of names word) (λ waits behind. cut_from names waits behind words)

-- the parts of the words after a command with these options, unless a word breaks a rule
abbrev pub cut : List OptionName → List Word → Option Parts
cut names words = cut_from names None false words

-- ---- what the options ask for

abbrev pub same : OptionName → OptionName → Bool
same Policy Policy = true
same Schedule Schedule = true
same Budget Budget = true
same Trace Trace = true
same _ _ = false

abbrev pub is_of : OptionName → Given → Bool
is_of name o = same name o.0

-- how often the option is given
abbrev pub times : OptionName → List Given → ℕ
times name options = count_by (is_of name) options

abbrev pub value_of : OptionName → List Given → Option Word
value_of name options = option_map (λ o. o.1) (find (is_of name) options)

abbrev pub each_once : List Given → Bool
each_once options = nat_le (times Policy options) 1 && (nat_le (times Schedule options) 1
    && (nat_le (times Budget options) 1 && nat_le (times Trace options) 1))

-- the operands, and the value of each option
pub record Chosen : Type 0 where
  pub operands : List Word
  pub policy : Option Word
  pub schedule : Option Word
  pub budget : Option Word
  pub traced : Bool

abbrev pub choice_of : Parts → Chosen
choice_of parts = record {
  operands = parts.operands;
  policy = value_of Policy parts.options;
  schedule = value_of Schedule parts.options;
  budget = value_of Budget parts.options;
  traced = is_some (value_of Trace parts.options);
}

-- what the parts ask for, where each option is given at most once
abbrev pub chosen : Option Parts → Option Chosen
chosen None = None
chosen (Some parts) = if each_once parts.options then Some (choice_of parts) else None
