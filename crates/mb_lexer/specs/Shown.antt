-- Tokens with their texts in a table of texts, and what a lexer answers.
use Rattle.std.specs.Prelude.{◌≡◌, ℕ, pos, List, [], ◌∷◌, ◌⊎◌, Some, Result, Err, IfOk, IfErr, MatchResult, Vec, slice_get}
use Rattle.std.specs.Str.{IsValidUpTo}
use Rattle.mb_token.specs.declared.token.Token.{Token}
use Rattle.mb_token.specs.declared.token.Token.TheVariants.{Name, Soft, Reserved, Whole, Text, Mark}
use Rattle.mb_token.specs.declared.token.Spanned.{Spanned}
use Rattle.mb_lexer.specs.declared.fault.LexFault.{LexFault}
use Rattle.mb_lexer.specs.declared.fault.LexFault.TheVariants.{Utf8, NoMemory}
use Rattle.mb_lexer.specs.Tokens.{Content, name, soft, reserved, whole, text, mark}
use Rattle.mb_lexer.specs.Reading.{Lexeme, HasTokens, HasFault}

-- a token, with its text in the table
abbrev pub Shows : List (List ℕ) → Token → Content → Type 0
Shows texts (Name id) (name us) = slice_get texts id.0 ≡ Some us
Shows texts (Soft s id) (soft t us) = (s ≡ t) × (slice_get texts id.0 ≡ Some us)
Shows texts (Reserved w id) (reserved v us) = (w ≡ v) × (slice_get texts id.0 ≡ Some us)
Shows texts (Whole z) (whole n) = z ≡ pos n
Shows texts (Text id) (text us) = slice_get texts id.0 ≡ Some us
Shows texts (Mark m) (mark k) = m ≡ k
Shows texts _ _ = ⊥

-- a token and its place
pub record IsSeen (texts : List (List ℕ)) (spanned : Spanned) (t : Lexeme) : Type 0 where
  pub token : Shows texts spanned.token t.content
  pub from : spanned.from ≡ t.from
  pub to : spanned.to ≡ t.to
  pub after_line : spanned.after_line ≡ t.after_line

-- token by token
abbrev pub AreSeen : List (List ℕ) → List Spanned → List Lexeme → Type 0
AreSeen texts [] [] = Unit {0}
AreSeen texts (s ∷ ss) (t ∷ ts) = IsSeen texts s t × AreSeen texts ss ts
AreSeen texts _ _ = ⊥

-- What a lexer answers for these bytes: their tokens with texts of the table, or their first fault, and nothing else
-- unless memory runs out. Bytes that aren't UTF-8 are refused as such even then.
pub record IsLexed {A : Type 0} (texts : List (List ℕ)) (bytes : List ℕ)
    (r : Result (Vec Spanned A) LexFault) : Type 0 where
  pub tokens : IfOk r (λ found. (ts : List Lexeme) × HasTokens bytes ts × AreSeen texts found.items ts)
  pub fault : IfErr r (λ fault. (fault ≡ NoMemory) ⊎ HasFault bytes fault)
  pub all : (ts : List Lexeme) → HasTokens bytes ts
      → MatchResult r (λ found. AreSeen texts found.items ts) (λ fault. fault ≡ NoMemory)
  pub first : (fault : LexFault) → HasFault bytes fault → (r ≡ Err fault) ⊎ (r ≡ Err NoMemory)
  pub utf8 : (at : ℕ) → IsValidUpTo bytes at → r ≡ Err (Utf8 at)
