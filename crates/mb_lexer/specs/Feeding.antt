-- For which bytes a lexer stands while they come in pieces.
use Rattle.std.specs.Prelude.{◌≡◌, ℕ, ◌+◌, ◌≤◌, false, List, [], ◌++◌, Option, Some, None, length}
use Rattle.std.specs.Str.{IsUtf8, IsValidUpTo, StartsWithNoChar, chars}
use Rattle.mb_token.specs.declared.token.Spanned.{Spanned}
use Rattle.mb_lexer.specs.declared.fault.LexFault.{LexFault}
use Rattle.mb_lexer.specs.declared.fault.LexFault.TheVariants.{Utf8, Token, Number, NoMemory}
use Rattle.mb_lexer.specs.Reading.{Lexeme, Kind, other, number, fault, Reads}
use Rattle.mb_lexer.specs.Shown.{AreSeen}
use Rattle.mb_lexer.specs.machine.Machine.{Machine, idle, after_tokens, run}

-- What a lexer keeps: the tokens that ended, the one that hasn't, the first fault so far, the bytes of a character of
-- which more are to come, and how many bytes came.
pub record Lexing : Type 0 where
  pub tokens : List Spanned
  pub current : Machine
  pub fault : Option LexFault
  pub pending : List ℕ
  pub fed : ℕ

-- the bytes are whole characters, and pending ones that begin none
pub record IsCut (bytes front pending : List ℕ) : Type 0 where
  pub whole : bytes ≡ front ++ pending
  pub text : IsUtf8 front
  pub none : StartsWithNoChar pending

-- Whatever characters follow these, the machine gives these tokens and what the open one makes of those that follow.
abbrev pub GoesOn : Machine → List ℕ → List Lexeme → Machine → Type 0
GoesOn m cs ts n = (more : List ℕ) → run m (cs ++ more) ≡ after_tokens ts (run n more)

-- Whatever characters follow these, the first fault is this one.
abbrev pub Faults : Kind → ℕ → List ℕ → Type 0
Faults kind at cs = (more : List ℕ) → (ts : List Lexeme) × Reads 0 false (cs ++ more) ts (fault kind at)

-- What is kept of these bytes, by the first fault. Where they aren't UTF-8 whatever follows, four bytes show it.
abbrev pub Keeps : Option LexFault → Lexing → List (List ℕ) → List ℕ → Type 0
Keeps None l texts bytes =
    (front : List ℕ) × IsCut bytes front l.pending
    × ((ts : List Lexeme) × AreSeen texts l.tokens ts × GoesOn (idle 0 false) (chars front) ts l.current)
Keeps (Some (Token at)) l texts bytes =
    (front : List ℕ) × IsCut bytes front l.pending × Faults other at (chars front)
Keeps (Some (Number at)) l texts bytes =
    (front : List ℕ) × IsCut bytes front l.pending × Faults number at (chars front)
Keeps (Some (Utf8 at)) l texts bytes = IsValidUpTo bytes at × (at + 4 ≤ length bytes) × (l.pending ≡ [])
Keeps (Some NoMemory) l texts bytes = ⊥

-- The lexer stands for these bytes. Nobody has to believe what this says: `begin` gives it of no bytes, `feed` leads on
-- to the bytes with the piece behind them, and `finish` asks for it.
pub record Fed (l : Lexing) (texts : List (List ℕ)) (bytes : List ℕ) : Type 0 where
  pub count : l.fed ≡ length bytes
  pub kept : Keeps l.fault l texts bytes
