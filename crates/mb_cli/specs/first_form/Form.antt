-- The scripts of the first form: statements `print(LITERAL);`.
use Rattle.std.specs.Prelude.{◌≡◌, ℕ, List, [], ◌∷◌, map}
use Rattle.mb_cli.specs.first_form.Lexemes.{Meaning, print, open_paren, close_paren, semicolon, whole, text, FirstLexeme, HasFirstTokens}

-- a whole number, or a text by its units
pub data Literal : Type 0 where
  number : ℕ → Literal
  quoted : List ℕ → Literal

-- the token that is the literal
abbrev pub token_of : Literal → Meaning
token_of (number n) = whole n
token_of (quoted units) = text units

-- the tokens of a statement for each literal, in order
abbrev pub statements_of : List Literal → List Meaning
statements_of [] = []
statements_of (literal ∷ literals) =
    print ∷ open_paren ∷ token_of literal ∷ close_paren ∷ semicolon ∷ statements_of literals

-- the bytes are a script that prints these literals
abbrev pub HasLiterals : List ℕ → List Literal → Type 0
HasLiterals bytes literals =
    (lexemes : List FirstLexeme) × HasFirstTokens bytes lexemes
    × (map (λ lexeme. lexeme.token) lexemes ≡ statements_of literals)

-- the most bytes of a script of this form
abbrev pub longest : ℕ
longest = 65536
