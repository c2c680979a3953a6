-- What the code keeps of the words, read from left to right.
use Rattle.std.specs.Prelude.{◌≡◌, ℕ, List, [], ◌∷◌, ◌++◌, Bool, true, false, is_some, Option, Some, None, option_map, Result, Ok, Err, ⊤, map, if◌then◌else◌}
use Rattle.std.specs.Borrow.{Bor}
use Rattle.mb_words.specs.declared.command.OptionName.{OptionName}
use Rattle.mb_words.specs.declared.command.OptionName.TheVariants.{Policy, Schedule, Budget, Trace}
use Rattle.mb_words.specs.declared.fault.WordsKind.TheVariants.{Usage}
use Rattle.mb_words.specs.declared.fault.WordsFault.{WordsFault}
use Rattle.mb_words.specs.declared.fault.WordsFault.TheVariants.{Refused, NoMemory}
use Rattle.mb_words.specs.declared.role.Role as code_role
use Rattle.mb_words.specs.declared.role.Role.TheVariants as role
use Rattle.mb_words.specs.declared.scan.Chosen as code_chosen
use Rattle.mb_words.specs.declared.scan.Slots as code_slots
use Rattle.mb_words.specs.declared.scan.State as code_state
use Rattle.mb_words.specs.Words.{Word, Role, marker, flag, opener, given, operand, wrong, role_of, operand_role, is_value}
use Rattle.mb_words.specs.Parts.{Chosen}

-- the values of the options so far
pub record Slots : Type 0 where
  pub policy : Option Word
  pub schedule : Option Word
  pub budget : Option Word
  pub traced : Bool

-- with the operands so far, the option that waits for its value, and whether `--` stood
pub record State : Type 0 where
  pub operands : List Word
  pub slots : Slots
  pub waits : Option OptionName
  pub behind : Bool

abbrev pub empty : Slots
empty = record { policy = None; schedule = None; budget = None; traced = false }

abbrev pub start : State
start = record { operands = []; slots = empty; waits = None; behind = false }

-- the option with its value, unless it was given before
abbrev pub put : OptionName → Word → Slots → Option Slots
put Policy v s = if is_some s.policy then None else Some (record s { policy = Some v })
put Schedule v s = if is_some s.schedule then None else Some (record s { schedule = Some v })
put Budget v s = if is_some s.budget then None else Some (record s { budget = Some v })
put Trace v s = if s.traced then None else Some (record s { traced = true })

abbrev pub held : List Word → Bool → Option Slots → Option State
held operands behind =
    option_map (λ s. record { operands = operands; slots = s; waits = None; behind = behind })

abbrev pub with_operand : Word → List Word → Slots → Bool → Option State
with_operand word operands s behind =
    Some (record { operands = operands ++ word ∷ []; slots = s; waits = None; behind = behind })

abbrev pub at_role : Role → List Word → Slots → Option State
at_role marker operands s = Some (record { operands = operands; slots = s; waits = None; behind = true })
at_role (flag name) operands s = held operands false (put name [] s)
at_role (opener name) operands s =
    Some (record { operands = operands; slots = s; waits = Some name; behind = false })
at_role (given name value) operands s = held operands false (put name value s)
at_role (operand word) operands s = with_operand word operands s false
at_role wrong operands s = None

abbrev pub behind_role : Role → List Word → Slots → Option State
behind_role (operand word) operands s = with_operand word operands s true
behind_role _ operands s = None

abbrev pub step : List OptionName → Option OptionName → Bool → Word → List Word → Slots → Option State
step names (Some name) behind word operands s =
    if is_value word then held operands behind (put name word s) else None
step names None true word operands s = behind_role (operand_role word) operands s
step names None false word operands s = at_role (role_of names word) operands s

-- one more word, unless it breaks a rule
abbrev pub next : List OptionName → State → Word → Option State
next names s word = step names s.waits s.behind word s.operands s.slots

abbrev pub after : List OptionName → List Word → Option State → Option State
after names words None = None
after names [] (Some s) = Some s
after names (word ∷ words) (Some s) = after names words (next names s word)

abbrev pub whole : List Word → Slots → Chosen
whole operands s = record {
  operands = operands;
  policy = s.policy;
  schedule = s.schedule;
  budget = s.budget;
  traced = s.traced;
}

abbrev pub done_at : Option OptionName → List Word → Slots → Option Chosen
done_at None operands s = Some (whole operands s)
done_at (Some name) operands s = None

abbrev pub done : Option State → Option Chosen
done None = None
done (Some s) = done_at s.waits s.operands s.slots

-- ---- the same of the code's values

abbrev pub text : Bor (List ℕ) → Word
text s = s.now

abbrev pub role_meant : code_role.Role → Role
role_meant role.Marker = marker
role_meant (role.Flag name) = flag name
role_meant (role.Opener name) = opener name
role_meant (role.Given name value) = given name value.now
role_meant (role.Operand word) = operand word.now
role_meant role.Wrong = wrong

abbrev pub slots_of : code_slots.Slots → Slots
slots_of s = record {
  policy = option_map text s.policy;
  schedule = option_map text s.schedule;
  budget = option_map text s.budget;
  traced = s.traced;
}

abbrev pub state_of : code_state.State → State
state_of s = record {
  operands = map text s.operands.items;
  slots = slots_of s.slots;
  waits = s.waits;
  behind = s.behind;
}

abbrev pub chosen_by : code_chosen.Chosen → Chosen
chosen_by c = whole (map text c.operands.items) (slots_of c.slots)

-- the state, a refusal exactly where there is none, or want of memory
abbrev pub Steps : Result code_state.State WordsFault → Option State → Type 0
Steps (Ok s) expected = expected ≡ Some (state_of s)
Steps (Err (Refused kind)) expected = (kind ≡ Usage) × (expected ≡ None)
Steps (Err NoMemory) expected = ⊤

abbrev pub Chooses : Result code_chosen.Chosen WordsFault → Option Chosen → Type 0
Chooses (Ok c) expected = expected ≡ Some (chosen_by c)
Chooses (Err (Refused kind)) expected = (kind ≡ Usage) × (expected ≡ None)
Chooses (Err NoMemory) expected = ⊤
