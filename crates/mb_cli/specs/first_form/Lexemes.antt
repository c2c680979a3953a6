-- The tokens of the first form of a script: `print`, marks, whole numbers and plain texts.
use Rattle.std.specs.Prelude.{◌≡◌, ℕ, ◌+◌, ◌≤◌, ◌==◌, ◌||◌, Bool, true, false, List, [], ◌∷◌, ◌++◌, length, codes}
use Rattle.std.specs.List.{list_any, list_all}
use Rattle.std.specs.Char.{is_ascii_digit}
use Rattle.std.specs.Fmt.{decimal}
use Rattle.mb_text.specs.Spelling.{is_plain}

-- what a token is, a text by its units
pub data Meaning : Type 0 where
  print : Meaning
  open_paren : Meaning
  close_paren : Meaning
  semicolon : Meaning
  whole : ℕ → Meaning
  text : List ℕ → Meaning

-- the greatest whole number, 2^53 - 1
abbrev pub largest : ℕ
largest = 9007199254740991

-- a blank or a line feed
abbrev pub is_gap : ℕ → Bool
is_gap b = b == 32 || b == 10

abbrev pub begins_with_digit : List ℕ → Bool
begins_with_digit [] = false
begins_with_digit (b ∷ bs) = is_ascii_digit b

-- the token stands at the front of the bytes, as far as it can go, and these are the bytes behind it
abbrev pub IsAtFront : Meaning → List ℕ → List ℕ → Type 0
IsAtFront print bytes rest = bytes ≡ codes "print" ++ rest
IsAtFront open_paren bytes rest = bytes ≡ codes "(" ++ rest
IsAtFront close_paren bytes rest = bytes ≡ codes ")" ++ rest
IsAtFront semicolon bytes rest = bytes ≡ codes ";" ++ rest
IsAtFront (whole n) bytes rest = (bytes ≡ decimal n ++ rest) × (n ≤ largest) × (begins_with_digit rest ≡ false)
IsAtFront (text units) bytes rest = (bytes ≡ 34 ∷ (units ++ (34 ∷ rest))) × (list_all is_plain units ≡ true)

-- a token at its place: where it begins and ends, and whether a line feed stands between it and the token before
pub record FirstLexeme : Type 0 where
  pub token : Meaning
  pub from : ℕ
  pub to : ℕ
  pub after_line : Bool

-- the bytes, which begin at this place of the text, begin with a gap and then that token
pub record Begins (at : ℕ) (line : Bool) (bytes : List ℕ) (first : FirstLexeme) (rest : List ℕ) : Type 0 where
  pub gap : List ℕ
  pub here : List ℕ
  pub split : bytes ≡ gap ++ here
  pub is_gap : list_all is_gap gap ≡ true
  pub stands : IsAtFront first.token here rest
  pub from : first.from ≡ at + length gap
  pub to : first.to + length rest ≡ at + length bytes
  pub after_line : first.after_line ≡ (line || list_any (λ b. b == 10) gap)

-- the bytes from this place on are these tokens, with gaps between them;
-- `line` tells whether a line feed stands right before
abbrev pub Lexes : ℕ → Bool → List ℕ → List FirstLexeme → Type 0
Lexes at line bytes [] = list_all is_gap bytes ≡ true
Lexes at line bytes (first ∷ more) = (rest : List ℕ) × Begins at line bytes first rest × Lexes first.to false rest more

-- the whole text has these tokens
abbrev pub HasFirstTokens : List ℕ → List FirstLexeme → Type 0
HasFirstTokens bytes tokens = Lexes 0 false bytes tokens
