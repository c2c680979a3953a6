-- The literals of a script, as the code has them, and what they mean.
use Rattle.std.specs.Prelude.{◌≡◌, List, [], ◌∷◌, ◌++◌, map, Some, slice_get, pos, ⊤, ℕ}
use Rattle.mb_cli.specs.declared.first_form.token.Token.{Token}
use Rattle.mb_cli.specs.declared.first_form.token.Token.TheVariants as t
use Rattle.mb_cli.specs.declared.first_form.token.Spanned.{Spanned}
use Rattle.mb_cli.specs.first_form.Form.{number, quoted}
use Rattle.mb_cli.specs.first_form.Form.{Literal as Meant}
use Rattle.mb_cli.specs.declared.first_form.script.Literal.{Literal}
use Rattle.mb_cli.specs.declared.first_form.script.Literal.TheVariants.{Whole, Text}

-- the literal has that meaning, a text being the one at its id in these texts
abbrev pub IsLiteral : List (List ℕ) → Literal → Meant → Type 0
IsLiteral texts (Whole z) (number n) = z ≡ pos n
IsLiteral texts (Text id) (quoted units) = slice_get texts id.0 ≡ Some units
IsLiteral texts _ _ = ⊥

-- the same, one after the other
abbrev pub AreLiterals : List (List ℕ) → List Literal → List Meant → Type 0
AreLiterals texts [] [] = ⊤
AreLiterals texts (literal ∷ literals) (meant ∷ more) = IsLiteral texts literal meant × AreLiterals texts literals more
AreLiterals texts _ _ = ⊥

abbrev pub tokens_of : List Spanned → List Token
tokens_of = map (λ s. s.token)

-- the token that is the literal
abbrev pub token_of : Literal → Token
token_of (Whole z) = t.Whole z
token_of (Text id) = t.Text id

-- the tokens of a statement
abbrev pub statement_of : Literal → List Token
statement_of literal = t.Print ∷ t.OpenParen ∷ token_of literal ∷ t.CloseParen ∷ t.Semicolon ∷ []

-- the tokens of a statement for each literal, in order
abbrev pub statements_of : List Literal → List Token
statements_of [] = []
statements_of (literal ∷ literals) = statement_of literal ++ statements_of literals
