-- What the tokens that `lex` gives stand for.
use Rattle.std.specs.Prelude.{◌≡◌, ℕ, List, [], ◌∷◌, Some, slice_get, pos, ⊤}
use Rattle.mb_cli.specs.first_form.Lexemes.{Meaning, print, open_paren, close_paren, semicolon, whole, text, FirstLexeme}
use Rattle.mb_cli.specs.declared.first_form.token.Token.{Token}
use Rattle.mb_cli.specs.declared.first_form.token.Token.TheVariants as t
use Rattle.mb_cli.specs.declared.first_form.token.Spanned.{Spanned}

-- the token has that meaning, its text being the one at its id in these texts
abbrev pub Means : List (List ℕ) → Token → Meaning → Type 0
Means texts t.Print print = ⊤
Means texts t.OpenParen open_paren = ⊤
Means texts t.CloseParen close_paren = ⊤
Means texts t.Semicolon semicolon = ⊤
Means texts (t.Whole z) (whole n) = z ≡ pos n
Means texts (t.Text id) (text units) = slice_get texts id.0 ≡ Some units
Means texts _ _ = ⊥

pub record IsRead (texts : List (List ℕ)) (read : Spanned) (lexeme : FirstLexeme) : Type 0 where
  pub token : Means texts read.token lexeme.token
  pub from : read.from ≡ lexeme.from
  pub to : read.to ≡ lexeme.to
  pub after_line : read.after_line ≡ lexeme.after_line

-- the same, one after the other
abbrev pub AreRead : List (List ℕ) → List Spanned → List FirstLexeme → Type 0
AreRead texts [] [] = ⊤
AreRead texts (read ∷ reads) (lexeme ∷ lexemes) = IsRead texts read lexeme × AreRead texts reads lexemes
AreRead texts _ _ = ⊥
