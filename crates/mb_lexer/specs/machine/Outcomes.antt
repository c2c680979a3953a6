-- What the steps of the machine answer.
use Rattle.std.specs.Prelude.{◌≡◌, ℕ, ◌+◌, ◌<◌, ◌≤◌, Bool, true, false, List, [], ◌++◌, Option, Some, None, Result, Ok, Err, length}
use Rattle.mb_token.specs.declared.token.Spanned.{Spanned}
use Rattle.mb_lexer.specs.declared.fault.LexFault.{LexFault}
use Rattle.mb_lexer.specs.declared.fault.LexFault.TheVariants.{Utf8, Token as TokenFault, Number, NoMemory}
use Rattle.mb_lexer.specs.declared.state.State.{State}
use Rattle.mb_lexer.specs.declared.state.State.TheVariants.{InWhole, InText, DoubleEqual, NotEqual}
use Rattle.mb_lexer.specs.declared.state.Inside.TheVariants.{Plain, Nul, Code}
use Rattle.mb_lexer.specs.declared.state.Move.{Move}
use Rattle.mb_lexer.specs.declared.state.Move.TheVariants.{Adds}
use Rattle.mb_lexer.specs.Reading.{Lexeme, Kind, other, number, Stop, fault}
use Rattle.mb_lexer.specs.Shown.{AreSeen}
use Rattle.mb_lexer.specs.Feeding.{GoesOn}
use Rattle.mb_lexer.specs.machine.Machine.{Machine, lasting, run}

-- the tokens get these, and stay seen
abbrev pub Gains : List (List ℕ) → List Spanned → List (List ℕ) → List Spanned → List Lexeme → Type 0
Gains texts old newer new ts = (before : List Lexeme) → AreSeen texts old before → AreSeen newer new (before ++ ts)

-- a refusal is that of the machine, or memory ran out
abbrev pub IsStop : LexFault → Stop → Type 0
IsStop (Utf8 at) stop = ⊥
IsStop (TokenFault at) stop = stop ≡ fault other at
IsStop (Number at) stop = stop ≡ fault number at
IsStop NoMemory stop = Unit {0}

-- the machine went on to this one, or stopped so
abbrev pub Matches : {A : Type 0} → Result A LexFault → Result Machine Stop → Machine → Type 0
Matches (Ok x) next m = next ≡ Ok m
Matches (Err e) (Ok n) m = e ≡ NoMemory
Matches (Err e) (Err stop) m = IsStop e stop

-- the open token ended as these, or is faulty
abbrev pub Closes : {A : Type 0} → Result A LexFault → Result (List Lexeme) Kind → Machine → Machine → Type 0
Closes (Ok x) (Ok ts) m n = (n.to ≡ m.to) × (n.line ≡ lasting ts m.line)
Closes (Ok x) (Err kind) m n = ⊥
Closes (Err e) (Ok ts) m n = e ≡ NoMemory
Closes (Err e) (Err kind) m n = IsStop e (fault kind m.from)

-- the tokens of a success
abbrev pub given : {E : Type 0} → Result (List Lexeme) E → List Lexeme
given (Ok ts) = ts
given (Err e) = []

-- so many more bytes than units the open token has at least
abbrev pub slack : State → ℕ
slack (InText q Plain) = 1
slack (InText q Nul) = 1
slack (InText q _) = 2
slack DoubleEqual = 1
slack NotEqual = 1
slack _ = 0

-- the numbers of a state are within their ranges
abbrev pub InRange : State → Type 0
InRange (InWhole n) = n ≤ 9007199254740991
InRange (InText q (Code value)) = value ≤ 0x10ffff
InRange _ = Unit {0}

-- the open token has at least as many bytes as units
pub record IsFit (m : Machine) : Type 0 where
  pub range : InRange m.state
  pub room : m.from + slack m.state + length m.units ≤ m.to

-- the code that a move adds is one of Unicode
abbrev pub AddsCode : Move → Type 0
AddsCode (Adds s code) = code ≤ 0x10ffff
AddsCode _ = Unit {0}

-- a text was read: the tokens got more, and the open one went on
abbrev pub Passes : List (List ℕ) → List Spanned → Machine → List ℕ → List (List ℕ) → List Spanned → Machine → Type 0
Passes texts tokens m cs newer new n = (ts : List Lexeme) × Gains texts tokens newer new ts × GoesOn m cs ts n

-- whatever characters follow these, the machine stops so
abbrev pub StopsAt : LexFault → Machine → List ℕ → Type 0
StopsAt e m cs = (more : List ℕ) → IsStop e (run m (cs ++ more)).stop

-- what a lexer's fields keep: where no fault came, the open token is within the bytes; fewer than four are pending
pub record IsSound (fault : Option LexFault) (m : Machine) (pending : List ℕ) (fed : ℕ) : Type 0 where
  pub fit : fault ≡ None → IsFit m
  pub place : fault ≡ None → m.to + length pending ≤ fed
  pub short : length pending < 4
  pub held : length pending ≤ fed
  pub most : fed ≤ 1048576

-- whether bytes were seen that are no UTF-8 whatever follows
abbrev pub is_broken : Option LexFault → Bool
is_broken (Some (Utf8 at)) = true
is_broken _ = false
