-- What a script is once it was read in pieces.
use Rattle.std.specs.Prelude.{◌<◌, ◌≤◌, ℕ, List, length, Option, Some, None}
use Rattle.mb_lexer.specs.Feeding.{Lexing, Fed}

-- the lexer stands for bytes that aren't too long
pub record IsFed (texts : List (List ℕ)) (lexer : Lexing) : Type 0 where
  pub bytes : List ℕ
  pub fed : Fed lexer texts bytes
  pub within : length bytes ≤ 1048576

-- the text of a name stands in the lexer, or has more bytes than a script may have
abbrev pub IsScanned : List (List ℕ) → Option (List ℕ) → Option Lexing → Type 0
IsScanned texts None lexer = ⊥
IsScanned texts (Some bytes) (Some lexer) = (length bytes ≤ 1048576) × Fed lexer texts bytes
IsScanned texts (Some bytes) None = 1048576 < length bytes
