-- The machine over the characters of a text.
use Rattle.std.proofs.Common.{◌≡◌, ℕ, ◌+◌, ◌≤◌, ◌<◌, true, ◌&&◌, List, [], ◌∷◌, ◌++◌, length, Result, Ok, Err, sym, ap, subst, ◌∙◌, append_assoc, arith}
use Rattle.std.specs.Char.{len_utf8}
use Rattle.std.specs.Str.{IsUtf8, chars}
use Rattle.std.proofs.lemmas.Str.{chars-nil, chars_past_char, cons_from_encodes}
use lib.Utf8.{encode, scalar, scalars}
use borrow.Table.Char.{scalar_below}
use Rattle.std.proofs.lemmas.Bool.{and_parts}
use Rattle.mb_token.specs.declared.token.Spanned.{Spanned}
use Rattle.mb_lexer.specs.declared.fault.LexFault.{LexFault}
use Rattle.mb_lexer.specs.declared.fault.LexFault.TheVariants.{NoMemory}
use Rattle.mb_lexer.specs.declared.state.Move.{Move}
use Rattle.mb_lexer.specs.declared.state.Move.TheVariants.{Goes, Adds, Splits, Ends, Fails}
use Rattle.mb_lexer.specs.Reading.{Lexeme, Kind, Stop, end}
use Rattle.mb_lexer.specs.machine.Machine.{Machine, Answer, idle, lasting, ended, moved, begun, begun_after, step, step_by, move_of, stopped, after_tokens, continued, run}
use Rattle.mb_lexer.specs.Shown.{AreSeen}
use Rattle.mb_lexer.specs.machine.Outcomes.{given, IsStop, Matches, Closes}
use Rattle.mb_lexer.proofs.Words.{empty_list}

pub after_append : (ts us : List Lexeme) (a : Answer) → after_tokens ts (after_tokens us a) ≡ after_tokens (ts ++ us) a
after_append ts us a = λ i. record { tokens = sym (append_assoc ts us a.tokens) i; stop = a.stop }

pub run_step : (m n : Machine) (c : ℕ) (cs : List ℕ) → (step m c).next ≡ Ok n → run m (c ∷ cs) ≡ after_tokens (step m c).tokens (run n cs)
run_step m n c cs h = ap (λ r. continued (step m c).tokens r (λ k. run k cs)) h

-- one more character
pub told_more : (a : Answer) (ts : List Lexeme) (m n : Machine) (c : ℕ) (bytes rest more : List ℕ) → a ≡ after_tokens ts (run m (chars bytes ++ more)) → IsUtf8 bytes → bytes ≡ encode c ++ rest → (step m c).next ≡ Ok n
    → a ≡ after_tokens (ts ++ (step m c).tokens) (run n (chars rest ++ more))
told_more a ts m n c bytes rest more e u h s =
    e ∙ ap (λ xs. after_tokens ts (run m (xs ++ more))) (chars_past_char bytes rest c u h) ∙ ap (λ b. after_tokens ts b) (run_step m n c (chars rest ++ more) s) ∙ after_append ts (step m c).tokens (run n (chars rest ++ more))

moved_to : (m n : Machine) (c : ℕ) (mv : Move) → (moved m c mv).next ≡ Ok n → n.to ≡ m.to + len_utf8 c
moved_to m n c (Goes s) h = let e : m.to + len_utf8 c ≡ n.to = ok_to h in sym e
  where
    ok_to : {x : Machine} → ◌≡◌ {A = Result Machine Stop} (Ok x) (Ok n) → x.to ≡ n.to
    ok_to h = cc
moved_to m n c (Adds s code) h = let e : m.to + len_utf8 c ≡ n.to = ok_to h in sym e
  where
    ok_to : {x : Machine} → ◌≡◌ {A = Result Machine Stop} (Ok x) (Ok n) → x.to ≡ n.to
    ok_to h = cc
moved_to m n c (Splits first) h = let e : m.to + len_utf8 c ≡ n.to = ok_to h in sym e
  where
    ok_to : {x : Machine} → ◌≡◌ {A = Result Machine Stop} (Ok x) (Ok n) → x.to ≡ n.to
    ok_to h = cc
moved_to m n c Ends h = absurd cc
moved_to m n c Fails h = absurd cc

begun_to : (m n : Machine) (c : ℕ) (r : Result (List Lexeme) Kind) → (begun_after m c r).next ≡ Ok n → n.to ≡ m.to + len_utf8 c
begun_to m n c (Ok ts) h = moved_to (idle m.to (lasting ts m.line)) n c (begun c) h
begun_to m n c (Err kind) h = absurd cc

step_by_to : (m n : Machine) (c : ℕ) (mv : Move) → (step_by m c mv).next ≡ Ok n → n.to ≡ m.to + len_utf8 c
step_by_to m n c (Goes s) h = moved_to m n c (Goes s) h
step_by_to m n c (Adds s code) h = moved_to m n c (Adds s code) h
step_by_to m n c (Splits first) h = moved_to m n c (Splits first) h
step_by_to m n c Ends h = begun_to m n c (ended m.state m) h
step_by_to m n c Fails h = absurd cc

-- a step goes on by the character's bytes
pub step_to : (m n : Machine) (c : ℕ) → (step m c).next ≡ Ok n → n.to ≡ m.to + len_utf8 c
step_to m n c h = step_by_to m n c (move_of m.state c) h

no_memory : (e : LexFault) (s : Stop) → e ≡ NoMemory → IsStop e s
no_memory e s h = subst (λ f. IsStop f s) (sym h) tt

-- a refused step stops the text so
pub step_stops : (A : Type 0) (e : LexFault) (r : Result Machine Stop) (n : Machine) (ts : List Lexeme) (more : Machine → Answer) → Matches {A = A} (Err e) r n → IsStop e (continued ts r more).stop
step_stops A e (Ok m) n ts more h = no_memory e _ h
step_stops A e (Err stop) n ts more h = h

-- so it does with the characters before it
pub told_stop : (A : Type 0) (a : Answer) (ts : List Lexeme) (m n : Machine) (c : ℕ) (bytes rest more : List ℕ) (e : LexFault) → a ≡ after_tokens ts (run m (chars bytes ++ more)) → IsUtf8 bytes → bytes ≡ encode c ++ rest
    → Matches {A = A} (Err e) (step m c).next n → IsStop e a.stop
told_stop A a ts m n c bytes rest more e h u s r =
    subst (λ b. IsStop e b.stop) (sym (h ∙ ap (λ xs. after_tokens ts (run m (xs ++ more))) (chars_past_char bytes rest c u s)))
    (step_stops A e (step m c).next n (step m c).tokens (λ k. run k (chars rest ++ more)) r)

-- and so does a refused end
pub end_stops : (A : Type 0) (e : LexFault) (m n : Machine) (r : Result (List Lexeme) Kind) → Closes {A = A} (Err e) r m n → IsStop e (stopped m r).stop
end_stops A e m n (Ok ts) h = no_memory e _ h
end_stops A e m n (Err kind) h = h

-- no bytes have no characters
pub no_chars : (rest : List ℕ) → length rest ≡ 0 → chars rest ≡ []
no_chars rest h = ap chars (empty_list rest h) ∙ chars-nil

-- an end that is taken
pub end_told : {A : Type 0} (x : A) (a : Answer) (ts : List Lexeme) (m n : Machine) (r : Result (List Lexeme) Kind) (texts : List (List ℕ)) (tokens : List Spanned) → a ≡ after_tokens ts (stopped m r) → Closes (Ok x) r m n → AreSeen texts tokens (ts ++ given r) → AreSeen texts tokens a.tokens × (a.stop ≡ end)
end_told x a ts m n (Ok us) texts tokens e h s = (subst (λ b. AreSeen texts tokens b.tokens) (sym e) s, ap (λ b. b.stop) e)
end_told x a ts m n (Err kind) texts tokens e h s = absurd h

-- a character of a text is one of Unicode
pub scalar_left : (bytes rest : List ℕ) (c : ℕ) → IsUtf8 bytes → bytes ≡ encode c ++ rest → c ≤ 0x10ffff
scalar_left bytes rest c u e =
    let r = cons_from_encodes u.0 rest c (u.1.1 ∙ e) in
    let s : (scalar c && scalars r.0) ≡ true = ap scalars (sym r.1) ∙ u.1.0 in
    let l : c < 1114112 = scalar_below c (and_parts _ _ s).0 in
    omega arith
