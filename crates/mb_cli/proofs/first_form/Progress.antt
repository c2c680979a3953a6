-- What stands while a text is read: the tokens so far, and that the others are those of the rest.
use Rattle.std.proofs.Common.{◌≡◌, ℕ, ◌+◌, ◌-◌, ◌≤◌, ◌<◌, Bool, true, false, ◌||◌, ◌==◌, List, [], ◌∷◌, ◌++◌, suc, length, take, drop, get_or, arith, refl, sym, ap, subst, ◌∙◌, drop-cons, append_assoc}
use Rattle.std.proofs.lemmas.Grind.{common_steps}
use Rattle.std.proofs.lemmas.List.{append-nil, drop-drop, drop_all}
use Rattle.mb_text.proofs.WithText.{slice_get-added}
use Rattle.mb_cli.specs.first_form.Lexemes.{Meaning, print, open_paren, close_paren, semicolon, whole, text, is_gap, IsAtFront, FirstLexeme, Lexes, HasFirstTokens}
use Rattle.mb_text.specs.Texts.{KeepsIds}
use Rattle.mb_cli.specs.first_form.machine.Meanings.{Means, IsRead, AreRead}
use Rattle.mb_cli.specs.declared.first_form.token.Token.{Token}
use Rattle.mb_cli.specs.declared.first_form.token.Token.TheVariants as t
use Rattle.mb_cli.specs.declared.first_form.token.Spanned.{Spanned}
use Rattle.mb_cli.proofs.first_form.Steps.{gap_on, gap_back, token_on, token_back, placed, no_token}

pub record Progress (bytes : List ℕ) (texts : List (List ℕ)) (tokens : List Spanned) (at : ℕ) (line : Bool) : Type 0 where
  pub done : List FirstLexeme
  pub read : AreRead texts tokens done
  pub on : (ts : List FirstLexeme) → Lexes at line (drop at bytes) ts → HasFirstTokens bytes (done ++ ts)
  pub back : (all : List FirstLexeme) → HasFirstTokens bytes all → (ts : List FirstLexeme) × (all ≡ done ++ ts) × Lexes at line (drop at bytes) ts

-- meanings stay when texts are added
Means-added : (texts more : List (List ℕ)) (token : Token) (meaning : Meaning) → Means texts token meaning → Means (texts ++ more) token meaning
Means-added texts more t.Print print m = m
Means-added texts more t.OpenParen open_paren m = m
Means-added texts more t.CloseParen close_paren m = m
Means-added texts more t.Semicolon semicolon m = m
Means-added texts more (t.Whole z) (whole n) m = m
Means-added texts more (t.Text id) (text units) m = slice_get-added texts more id.0 units m
Means-added texts more token meaning m = absurd m

IsRead-added : (texts more : List (List ℕ)) (read : Spanned) (lexeme : FirstLexeme) → IsRead texts read lexeme → IsRead (texts ++ more) read lexeme
IsRead-added texts more read lexeme r =
    record { token = Means-added texts more read.token lexeme.token r.token; from = r.from; to = r.to; after_line = r.after_line }

AreRead-added : (texts more : List (List ℕ)) (reads : List Spanned) (lexemes : List FirstLexeme) → AreRead texts reads lexemes → AreRead (texts ++ more) reads lexemes
AreRead-added texts more [] [] r = tt
AreRead-added texts more (read ∷ reads) (lexeme ∷ lexemes) r = (IsRead-added texts more read lexeme r.0, AreRead-added texts more reads lexemes r.1)
AreRead-added texts more reads lexemes r = absurd r

AreRead-push : (texts : List (List ℕ)) (reads : List Spanned) (lexemes : List FirstLexeme) (read : Spanned) (lexeme : FirstLexeme)
    → AreRead texts reads lexemes → IsRead texts read lexeme → AreRead texts (reads ++ (read ∷ [])) (lexemes ++ (lexeme ∷ []))
AreRead-push texts [] [] read lexeme all one = (one, tt)
AreRead-push texts (r ∷ reads) (l ∷ lexemes) read lexeme all one = (all.0, AreRead-push texts reads lexemes read lexeme all.1 one)
AreRead-push texts reads lexemes read lexeme all one = absurd all

pub progress_start : (bytes : List ℕ) (texts : List (List ℕ)) → Progress bytes texts [] 0 false
progress_start bytes texts = record { done = []; read = tt; on = λ ts l. l; back = λ all l. (all, refl, l) }

next_byte : (bytes : List ℕ) (at : ℕ) → at < length bytes → drop at bytes ≡ get_or bytes at 0 ∷ drop (at + 1) bytes
next_byte bytes at lt = let one : at + 1 ≡ suc at = omega arith in drop-cons bytes at 0 lt ∙ ap (λ n. get_or bytes at 0 ∷ drop n bytes) (sym one)

-- over a byte of a gap
pub progress_gap : (bytes : List ℕ) (texts : List (List ℕ)) (tokens : List Spanned) (at : ℕ) (line : Bool) → at < length bytes → is_gap (get_or bytes at 0) ≡ true
    → Progress bytes texts tokens at line → Progress bytes texts tokens (at + 1) (line || get_or bytes at 0 == 10)
progress_gap bytes texts tokens at line lt is p =
    let b = get_or bytes at 0 in
    let here = next_byte bytes at lt in
    record {
      done = p.done;
      read = p.read;
      on = λ ts l. p.on ts (subst (λ x. Lexes at line x ts) (sym here) (gap_on at b line (drop (at + 1) bytes) ts is l));
      back = λ all l. let q = p.back all l in (q.0, q.1, gap_back at b line (drop (at + 1) bytes) q.0 is (subst (λ x. Lexes at line x q.0) here q.2));
    }

ends_at : (bytes : List ℕ) (at count : ℕ) → count ≤ length (drop at bytes) → (at + count) + length (drop count (drop at bytes)) ≡ at + length (drop at bytes)
ends_at bytes at count le = grind (arith, common_steps)

-- over a token
pub progress_token : (bytes : List ℕ) (before texts : List (List ℕ)) (tokens : List Spanned) (at count : ℕ) (line : Bool) (token : Meaning) (read : Spanned)
    → KeepsIds before texts → count ≤ length (drop at bytes) → IsAtFront token (drop at bytes) (drop count (drop at bytes)) → IsRead texts read (placed token at (at + count) line)
    → Progress bytes before tokens at line → Progress bytes texts (tokens ++ (read ∷ [])) (at + count) false
progress_token bytes before texts tokens at count line token read (more, keeps) le stands is p =
    let first = placed token at (at + count) line in
    let ends = ends_at bytes at count le in
    let rest : drop count (drop at bytes) ≡ drop (at + count) bytes = drop-drop count at bytes in
    record {
      done = p.done ++ (first ∷ []);
      read = AreRead-push texts tokens p.done read first (subst (λ t. AreRead t tokens p.done) (sym keeps) (AreRead-added before more tokens p.done p.read)) is;
      on = λ ts l. subst (HasFirstTokens bytes) (sym (append_assoc p.done (first ∷ []) ts))
          (p.on (first ∷ ts) (token_on token at (at + count) line (drop at bytes) (drop count (drop at bytes)) ts stands ends (subst (λ x. Lexes (at + count) false x ts) (sym rest) l)));
      back = λ all l. let q = p.back all l in
          let g = token_back token at (at + count) line (drop at bytes) (drop count (drop at bytes)) q.0 stands ends q.2 in
          (g.more, q.1 ∙ ap (λ x. p.done ++ x) g.first ∙ sym (append_assoc p.done (first ∷ []) g.more), subst (λ x. Lexes (at + count) false x g.more) rest g.lexes);
    }

-- at the end
pub progress_end : (bytes : List ℕ) (texts : List (List ℕ)) (tokens : List Spanned) (at : ℕ) (line : Bool) → length bytes ≤ at
    → Progress bytes texts tokens at line → (lexemes : List FirstLexeme) × HasFirstTokens bytes lexemes × AreRead texts tokens lexemes
progress_end bytes texts tokens at line le p =
    (p.done, subst (HasFirstTokens bytes) (append-nil p.done) (p.on [] (subst (λ x. Lexes at line x []) (sym (drop_all at bytes le)) refl)), p.read)

-- where no token stands
pub progress_stops : (bytes : List ℕ) (texts : List (List ℕ)) (tokens : List Spanned) (at : ℕ) (line : Bool) → at < length bytes → is_gap (get_or bytes at 0) ≡ false
    → ((token : Meaning) (rest : List ℕ) → IsAtFront token (drop at bytes) rest → ⊥) → Progress bytes texts tokens at line
    → (lexemes : List FirstLexeme) → HasFirstTokens bytes lexemes → ⊥
progress_stops bytes texts tokens at line lt is none p lexemes has =
    let q = p.back lexemes has in
    let here = next_byte bytes at lt in
    no_token at (get_or bytes at 0) line (drop (at + 1) bytes) q.0 is
    (λ token rest s. none token rest (subst (λ x. IsAtFront token x rest) (sym here) s)) (subst (λ x. Lexes at line x q.0) here q.2)

-- `&bytes[at..]`
pub here_is : (bytes : List ℕ) (at : ℕ) → take (length bytes - at) (drop at bytes) ≡ drop at bytes
here_is bytes at = grind (arith, common_steps)
