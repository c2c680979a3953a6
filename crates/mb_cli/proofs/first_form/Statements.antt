-- Statements one after the other, and what their tokens mean.
use Rattle.std.proofs.Common.{◌≡◌, ◌<◌, ◌+◌, ℕ, ◌++◌, List, [], ◌∷◌, length, map, append_assoc, sym, ap, ap₂, ◌∙◌, refl, arith, subst, false}
use Rattle.std.specs.Prelude.{⊤}
use Rattle.std.proofs.lemmas.List.{append-nil, length-map}
use Rattle.mb_cli.specs.declared.first_form.token.Token.{Token}
use Rattle.mb_cli.specs.declared.first_form.token.Token.TheVariants as t
use Rattle.mb_cli.specs.declared.first_form.token.Spanned.{Spanned}
use Rattle.mb_cli.specs.first_form.Lexemes.{Meaning, print, open_paren, close_paren, semicolon, whole, text, FirstLexeme, HasFirstTokens}
use Rattle.mb_cli.specs.first_form.machine.Meanings.{Means, AreRead}
use Rattle.mb_cli.proofs.first_form.Steps.{at_most_one}
use Rattle.mb_cli.specs.first_form.Form.{number, quoted, HasLiterals}
use Rattle.mb_cli.specs.first_form.Form.{Literal as Meant}
use Rattle.mb_cli.specs.first_form.Form.{token_of as meaning_of, statements_of as meanings_of}
use Rattle.mb_cli.specs.first_form.machine.Literals.{IsLiteral, AreLiterals, tokens_of, token_of, statement_of, statements_of}
use Rattle.mb_cli.specs.declared.first_form.script.Literal.{Literal}
use Rattle.mb_cli.specs.declared.first_form.script.Literal.TheVariants.{Whole, Text}

pub statements_of-push : (xs : List Literal) (x : Literal) → statements_of (xs ++ (x ∷ [])) ≡ statements_of xs ++ statement_of x
statements_of-push [] x = append-nil (statement_of x)
statements_of-push (y ∷ ys) x = ap (λ ts. statement_of y ++ ts) (statements_of-push ys x)

-- one statement more
pub on_statement : (all rest after : List Spanned) (done : List Literal) (x : Literal) → tokens_of all ≡ statements_of done ++ tokens_of rest
    → tokens_of rest ≡ statement_of x ++ tokens_of after → tokens_of all ≡ statements_of (done ++ (x ∷ [])) ++ tokens_of after
on_statement all rest after done x e f =
    e ∙ ap (λ ts. statements_of done ++ ts) f ∙ sym (append_assoc (statements_of done) (statement_of x) (tokens_of after))
    ∙ ap (λ ts. ts ++ tokens_of after) (sym (statements_of-push done x))

pub shorter : (rest after : List Spanned) (x : Literal) → tokens_of rest ≡ statement_of x ++ tokens_of after → length after < length rest
shorter rest after x e =
    let lens : length (tokens_of rest) ≡ 5 + length (tokens_of after) = ap length e ∙ omega arith in
    omega (arith, lens, length-map rest (λ s. s.token), length-map after (λ s. s.token))

same_literal : (x y : Literal) (xs ys : List Token) → statement_of x ++ xs ≡ statement_of y ++ ys → (x ≡ y) × (xs ≡ ys)
same_literal (Whole a) (Whole b) xs ys e = (cc, cc)
same_literal (Text a) (Text b) xs ys e = (let same : t.Text a ≡ t.Text b = cc in ap Text cc, cc)
same_literal (Whole a) (Text b) xs ys e = cc
same_literal (Text a) (Whole b) xs ys e = cc

-- statements with a front of statements go on with statements
pub statements_rest : (done all : List Literal) (rest : List Token) → statements_of done ++ rest ≡ statements_of all → (more : List Literal) × (rest ≡ statements_of more)
statements_rest [] all rest e = (all, e)
statements_rest (x ∷ done) [] rest e = cc
statements_rest (x ∷ done) (y ∷ all) rest e =
    let same = same_literal x y (statements_of done ++ rest) (statements_of all) e in
    statements_rest done all rest same.1

-- where no statement stands, there are no statements
pub no_statements : (all rest : List Spanned) (done : List Literal) → 0 < length rest → tokens_of all ≡ statements_of done ++ tokens_of rest
    → ((x : Literal) (more : List Token) → tokens_of rest ≡ statement_of x ++ more → ⊥) → (literals : List Literal) → tokens_of all ≡ statements_of literals → ⊥
no_statements all rest done some e none literals f = of (statements_rest done literals (tokens_of rest) (sym e ∙ f))
  where
    of : (more : List Literal) × (tokens_of rest ≡ statements_of more) → ⊥
    of ([], is) = omega (arith, some, ap length is, length-map rest (λ s. s.token))
    of (x ∷ more, is) = none x (statements_of more) is

-- what the tokens of a script mean

means_print : (texts : List (List ℕ)) (m : Meaning) → Means texts t.Print m → m ≡ print
means_print texts print h = refl
means_print texts m h = absurd h

means_open : (texts : List (List ℕ)) (m : Meaning) → Means texts t.OpenParen m → m ≡ open_paren
means_open texts open_paren h = refl
means_open texts m h = absurd h

means_close : (texts : List (List ℕ)) (m : Meaning) → Means texts t.CloseParen m → m ≡ close_paren
means_close texts close_paren h = refl
means_close texts m h = absurd h

means_end : (texts : List (List ℕ)) (m : Meaning) → Means texts t.Semicolon m → m ≡ semicolon
means_end texts semicolon h = refl
means_end texts m h = absurd h

means_literal : (texts : List (List ℕ)) (x : Literal) (m : Meaning) → Means texts (token_of x) m → (l : Meant) × (m ≡ meaning_of l) × IsLiteral texts x l
means_literal texts (Whole z) (whole n) h = (number n, refl, h)
means_literal texts (Text id) (text units) h = (quoted units, refl, h)
means_literal texts (Whole z) m h = absurd h
means_literal texts (Text id) m h = absurd h

print_means : (texts : List (List ℕ)) (token : Token) → Means texts token print → token ≡ t.Print
print_means texts t.Print h = refl
print_means texts token h = absurd h

open_means : (texts : List (List ℕ)) (token : Token) → Means texts token open_paren → token ≡ t.OpenParen
open_means texts t.OpenParen h = refl
open_means texts token h = absurd h

close_means : (texts : List (List ℕ)) (token : Token) → Means texts token close_paren → token ≡ t.CloseParen
close_means texts t.CloseParen h = refl
close_means texts token h = absurd h

end_means : (texts : List (List ℕ)) (token : Token) → Means texts token semicolon → token ≡ t.Semicolon
end_means texts t.Semicolon h = refl
end_means texts token h = absurd h

literal_means : (texts : List (List ℕ)) (token : Token) (l : Meant) → Means texts token (meaning_of l) → (x : Literal) × (token ≡ token_of x)
literal_means texts (t.Whole z) (number n) h = (Whole z, refl)
literal_means texts (t.Text id) (quoted units) h = (Text id, refl)
literal_means texts token (number n) h = absurd h
literal_means texts token (quoted units) h = absurd h

-- token by token
abbrev AreMeant : List (List ℕ) → List Token → List Meaning → Type 0
AreMeant texts [] [] = ⊤
AreMeant texts (t ∷ ts) (m ∷ ms) = Means texts t m × AreMeant texts ts ms
AreMeant texts _ _ = ⊥

are_meant : (texts : List (List ℕ)) (read : List Spanned) (lexemes : List FirstLexeme) → AreRead texts read lexemes
    → AreMeant texts (tokens_of read) (map (λ lexeme. lexeme.token) lexemes)
are_meant texts [] [] h = tt
are_meant texts (r ∷ read) (l ∷ lexemes) h = (h.0.token, are_meant texts read lexemes h.1)
are_meant texts read lexemes h = absurd h

-- the first of them
abbrev First : List (List ℕ) → Token → List Token → List Meaning → Type 0
First texts token tokens ms = (m : Meaning) × (more : List Meaning) × (ms ≡ m ∷ more) × Means texts token m × AreMeant texts tokens more

first_meaning : (texts : List (List ℕ)) (token : Token) (tokens : List Token) (ms : List Meaning) → AreMeant texts (token ∷ tokens) ms → First texts token tokens ms
first_meaning texts token tokens [] h = absurd h
first_meaning texts token tokens (m ∷ ms) h = (m, ms, refl, h.0, h.1)

abbrev FirstToken : List (List ℕ) → Meaning → List Meaning → List Token → Type 0
FirstToken texts m ms tokens = (token : Token) × (more : List Token) × (tokens ≡ token ∷ more) × Means texts token m × AreMeant texts more ms

first_token : (texts : List (List ℕ)) (m : Meaning) (ms : List Meaning) (tokens : List Token) → AreMeant texts tokens (m ∷ ms) → FirstToken texts m ms tokens
first_token texts m ms [] h = absurd h
first_token texts m ms (token ∷ tokens) h = (token, tokens, refl, h.0, h.1)

-- the literals of statements have meanings
literals_of : (texts : List (List ℕ)) (xs : List Literal) (ms : List Meaning) → AreMeant texts (statements_of xs) ms
    → (ls : List Meant) × (ms ≡ meanings_of ls) × AreLiterals texts xs ls
literals_of texts [] [] h = ([], refl, tt)
literals_of texts [] (m ∷ ms) h = absurd h
literals_of texts (x ∷ xs) ms h =
    let a = first_meaning texts t.Print (t.OpenParen ∷ token_of x ∷ t.CloseParen ∷ t.Semicolon ∷ statements_of xs) ms h in
    let b = first_meaning texts t.OpenParen (token_of x ∷ t.CloseParen ∷ t.Semicolon ∷ statements_of xs) a.1 a.4 in
    let l = first_meaning texts (token_of x) (t.CloseParen ∷ t.Semicolon ∷ statements_of xs) b.1 b.4 in
    let d = first_meaning texts t.CloseParen (t.Semicolon ∷ statements_of xs) l.1 l.4 in
    let e = first_meaning texts t.Semicolon (statements_of xs) d.1 d.4 in
    let one = means_literal texts x l.0 l.3 in
    let rest = literals_of texts xs e.1 e.4 in (
      one.0 ∷ rest.0,
      a.2 ∙ ap₂ (λ y ys. y ∷ ys) (means_print texts a.0 a.3) (b.2 ∙ ap₂ (λ y ys. y ∷ ys) (means_open texts b.0 b.3) (l.2 ∙ ap₂ (λ y ys. y ∷ ys) one.1
          (d.2 ∙ ap₂ (λ y ys. y ∷ ys) (means_close texts d.0 d.3) (e.2 ∙ ap₂ (λ y ys. y ∷ ys) (means_end texts e.0 e.3) rest.1)))),
      (one.2, rest.2),
    )

-- tokens that mean statements are statements
statements_meant : (texts : List (List ℕ)) (ts : List Token) (ls : List Meant) → AreMeant texts ts (meanings_of ls) → (xs : List Literal) × (ts ≡ statements_of xs)
statements_meant texts [] [] h = ([], refl)
statements_meant texts (a ∷ ts) [] h = absurd h
statements_meant texts ts (l ∷ ls) h =
    let a = first_token texts print (open_paren ∷ meaning_of l ∷ close_paren ∷ semicolon ∷ meanings_of ls) ts h in
    let b = first_token texts open_paren (meaning_of l ∷ close_paren ∷ semicolon ∷ meanings_of ls) a.1 a.4 in
    let c = first_token texts (meaning_of l) (close_paren ∷ semicolon ∷ meanings_of ls) b.1 b.4 in
    let d = first_token texts close_paren (semicolon ∷ meanings_of ls) c.1 c.4 in
    let e = first_token texts semicolon (meanings_of ls) d.1 d.4 in
    let one = literal_means texts c.0 l c.3 in
    let rest = statements_meant texts e.1 ls e.4 in (
      one.0 ∷ rest.0,
      a.2 ∙ ap₂ (λ y ys. y ∷ ys) (print_means texts a.0 a.3) (b.2 ∙ ap₂ (λ y ys. y ∷ ys) (open_means texts b.0 b.3) (c.2 ∙ ap₂ (λ y ys. y ∷ ys) one.1
          (d.2 ∙ ap₂ (λ y ys. y ∷ ys) (close_means texts d.0 d.3) (e.2 ∙ ap₂ (λ y ys. y ∷ ys) (end_means texts e.0 e.3) rest.1)))),
    )

-- what the statements of a script mean are its literals
pub has_literals : (texts : List (List ℕ)) (bytes : List ℕ) (read : List Spanned) (lexemes : List FirstLexeme) (xs : List Literal) → HasFirstTokens bytes lexemes → AreRead texts read lexemes
    → tokens_of read ≡ statements_of xs → (ls : List Meant) × HasLiterals bytes ls × AreLiterals texts xs ls
has_literals texts bytes read lexemes xs has are e =
    let ms = map (λ (lexeme : FirstLexeme). lexeme.token) lexemes in
    let found = literals_of texts xs ms (subst (λ ts. AreMeant texts ts ms) e (are_meant texts read lexemes are)) in
    (found.0, (lexemes, has, found.1), found.2)

-- and a script's tokens are statements
pub is_statements : (texts : List (List ℕ)) (bytes : List ℕ) (read : List Spanned) (lexemes : List FirstLexeme) (ls : List Meant) → HasFirstTokens bytes lexemes → AreRead texts read lexemes
    → HasLiterals bytes ls → (xs : List Literal) × (tokens_of read ≡ statements_of xs)
is_statements texts bytes read lexemes ls has are (others, has_others, e) =
    let same = at_most_one 0 false bytes others lexemes has_others has in
    let ms : map (λ (lexeme : FirstLexeme). lexeme.token) lexemes ≡ meanings_of ls = ap (map (λ (lexeme : FirstLexeme). lexeme.token)) (sym same) ∙ e in
    statements_meant texts (tokens_of read) ls (subst (λ m. AreMeant texts (tokens_of read) m) ms (are_meant texts read lexemes are))

one_token : (a b : Meant) → meaning_of a ≡ meaning_of b → a ≡ b
one_token (number n) (number m) e = ap number cc
one_token (quoted us) (quoted vs) e = ap quoted cc
one_token (number n) (quoted us) e = cc
one_token (quoted us) (number n) e = cc

one_list : (a b : List Meant) → meanings_of a ≡ meanings_of b → a ≡ b
one_list [] [] e = refl
one_list [] (y ∷ b) e = cc
one_list (x ∷ a) [] e = cc
one_list (x ∷ a) (y ∷ b) e =
    let first : meaning_of x ≡ meaning_of y = cc in
    let rest : meanings_of a ≡ meanings_of b = cc in
    ap₂ (λ z zs. z ∷ zs) (one_token x y first) (one_list a b rest)

-- a script has one list of literals
pub literals_once : (bytes : List ℕ) (a b : List Meant) → HasLiterals bytes a → HasLiterals bytes b → a ≡ b
literals_once bytes a b (as_lexemes, has_a, ea) (bs_lexemes, has_b, eb) =
    let same = at_most_one 0 false bytes as_lexemes bs_lexemes has_a has_b in
    one_list a b (sym ea ∙ ap (map (λ (lexeme : FirstLexeme). lexeme.token)) same ∙ eb)
