-- The schedule and the budget of a command.
use Rattle.std.specs.Prelude.{◌≡◌, ℕ, List, Result, Ok, Err, ⊤, map, string_bytes, String, Vec}
use Rattle.std.specs.declared.alloc.Global.{Global}
use Rattle.mb_words.specs.declared.asked.Timing as code
use Rattle.mb_words.specs.declared.command.Command.{Command}
use Rattle.mb_words.specs.declared.fault.WordsFault.{WordsFault}
use Rattle.mb_words.specs.declared.fault.WordsFault.TheVariants.{Refused, NoMemory}
use Rattle.mb_words.specs.declared.fault.WordsKind.TheVariants.{Usage}
use Rattle.mb_words.specs.Words.{Word}
use Rattle.mb_words.specs.Settings.{Asked, Reading, timed, two}
use Rattle.mb_words.specs.machine.Scanning.{Slots, whole}

-- whatever is asked for with a schedule and a budget, it is this
abbrev pub Times : Result code.Timing WordsFault → Command → ℕ → Slots → Type 0
Times (Ok t) command sides s = (operands : List Word) (ask : Word → ℕ → Asked)
    → timed command sides (whole operands s) ask ≡ Ok (ask (string_bytes t.schedule) t.budget)
Times (Err (Refused kind)) command sides s = (operands : List Word) (ask : Word → ℕ → Asked)
    → timed command sides (whole operands s) ask ≡ Err kind
Times (Err NoMemory) command sides s = ⊤

-- texts of one's own that are these words
abbrev pub HasTexts : Result (Vec (String Global) Global) WordsFault → List Word → Type 0
HasTexts (Ok own) words = map string_bytes own.items ≡ words
HasTexts (Err (Refused kind)) words = ⊥
HasTexts (Err NoMemory) words = ⊤

abbrev pub IsNoPair : List Word → Type 0
IsNoPair words = (ask : Word → Word → Reading) → two words ask ≡ Err Usage
