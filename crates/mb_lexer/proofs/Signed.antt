-- The machine is right about marks.
use Rattle.std.proofs.Common.{◌≡◌, ℕ, Bool, true, false, cond, List, [], ◌∷◌, ◌++◌, Some, refl, sym, ap, ◌∙◌, inl, inr, ⊎_elim, ◌⊎◌}
use Rattle.std.specs.Prelude.{◌==◌}
use Rattle.std.proofs.lemmas.Bool.{cases_Bool, eqb-true, eqb-false, ne_eqb}
use Rattle.mb_token.specs.declared.mark.Mark.{Mark}
use Rattle.mb_token.specs.declared.mark.Mark.TheVariants.{TripleEqual, NotDoubleEqual, Arrow, LessEqual, GreaterEqual, AndAnd, OrOr, PlusPlus, MinusMinus, PlusEqual, MinusEqual, TimesEqual, OpenBrace, CloseBrace, OpenParen, CloseParen, OpenBracket, CloseBracket, Dot, Semicolon, Comma, Less, Greater, Plus, Minus, Times, Slash, Percent, Not, Question, Colon, Equal}
use Rattle.mb_token.specs.Marks.{mark_text, mark_at}
use Rattle.mb_lexer.specs.declared.state.State.{State}
use Rattle.mb_lexer.specs.declared.state.State.TheVariants.{InMark, InLineComment, InBlockComment, DoubleEqual, NotEqual}
use Rattle.mb_lexer.specs.declared.state.Move.TheVariants.{Goes, Ends, Fails}
use Rattle.mb_lexer.specs.Characters.{is_line_end}
use Rattle.mb_lexer.specs.Tokens.{mark, begins_comment, IsToken}
use Rattle.mb_lexer.specs.Reading.{other, fault, kind_of}
use Rattle.mb_lexer.specs.machine.Machine.{idle, run, move_of, mark_move, fault_kind}
use Rattle.mb_lexer.proofs.Steps.{machine, Stops}
use Rattle.mb_lexer.proofs.Worded.{run_fails}
use Rattle.mb_lexer.proofs.Parting.{or_false}
use Rattle.mb_lexer.proofs.Open.{Told, IsOpen, IsRight, goes_on}
use Rattle.mb_lexer.proofs.Telling.{token_ends, fault_here}

-- no longer mark stands here, and no comment
abbrev pub Longest : Mark → List ℕ → Type 0
Longest k rest = (mark_at (mark_text k ++ rest) ≡ Some k) × (begins_comment (mark_text k ++ rest) ≡ false)

-- a character that isn't n, compared either way
pub other_way : (c n : ℕ) → (c == n) ≡ false → (n == c) ≡ false
other_way c n h = ne_eqb n c (λ e. eqb-false c n h (sym e))

-- a mark that ends before a character is the longest
ends_longest : (k : Mark) (c : ℕ) (cs : List ℕ) → mark_move k c ≡ Ends → Longest k (c ∷ cs)
unfolding mark_move
ends_longest OpenBrace c cs h = (refl, refl)
ends_longest CloseBrace c cs h = (refl, refl)
ends_longest OpenParen c cs h = (refl, refl)
ends_longest CloseParen c cs h = (refl, refl)
ends_longest OpenBracket c cs h = (refl, refl)
ends_longest CloseBracket c cs h = (refl, refl)
ends_longest Dot c cs h = (refl, refl)
ends_longest Semicolon c cs h = (refl, refl)
ends_longest Comma c cs h = (refl, refl)
ends_longest Percent c cs h = (refl, refl)
ends_longest Question c cs h = (refl, refl)
ends_longest Colon c cs h = (refl, refl)
ends_longest Arrow c cs h = (refl, refl)
ends_longest LessEqual c cs h = (refl, refl)
ends_longest GreaterEqual c cs h = (refl, refl)
ends_longest AndAnd c cs h = (refl, refl)
ends_longest OrOr c cs h = (refl, refl)
ends_longest PlusPlus c cs h = (refl, refl)
ends_longest MinusMinus c cs h = (refl, refl)
ends_longest PlusEqual c cs h = (refl, refl)
ends_longest MinusEqual c cs h = (refl, refl)
ends_longest TimesEqual c cs h = (refl, refl)
ends_longest TripleEqual c cs h = (refl, refl)
ends_longest NotDoubleEqual c cs h = (refl, refl)
ends_longest Less c cs h = elim (c == 61) as (λ b. (c == 61) ≡ b → cond b (Goes (InMark LessEqual)) Ends ≡ Ends → Longest Less (c ∷ cs)) [ true ↦ λ e f. absurd cc | false ↦ λ e f. let r : (61 == c) ≡ false = other_way c 61 e in (simp r, refl) ] refl h
ends_longest Greater c cs h = elim (c == 61) as (λ b. (c == 61) ≡ b → cond b (Goes (InMark GreaterEqual)) Ends ≡ Ends → Longest Greater (c ∷ cs)) [ true ↦ λ e f. absurd cc | false ↦ λ e f. let r : (61 == c) ≡ false = other_way c 61 e in (simp r, refl) ] refl h
ends_longest Times c cs h = elim (c == 61) as (λ b. (c == 61) ≡ b → cond b (Goes (InMark TimesEqual)) Ends ≡ Ends → Longest Times (c ∷ cs)) [ true ↦ λ e f. absurd cc | false ↦ λ e f. let r : (61 == c) ≡ false = other_way c 61 e in (simp r, refl) ] refl h
ends_longest Plus c cs h = elim (c == 43) as (λ b. (c == 43) ≡ b → cond b (Goes (InMark PlusPlus)) (cond (c == 61) (Goes (InMark PlusEqual)) Ends) ≡ Ends → Longest Plus (c ∷ cs)) [ true ↦ λ e f. absurd cc | false ↦ λ e f. elim (c == 61) as (λ b. (c == 61) ≡ b → cond b (Goes (InMark PlusEqual)) Ends ≡ Ends → Longest Plus (c ∷ cs)) [ true ↦ λ e' f'. absurd cc | false ↦ λ e' f'. let r : (43 == c) ≡ false = other_way c 43 e in let s : (61 == c) ≡ false = other_way c 61 e' in (simp (r, s), refl) ] refl f ] refl h
ends_longest Minus c cs h = elim (c == 45) as (λ b. (c == 45) ≡ b → cond b (Goes (InMark MinusMinus)) (cond (c == 61) (Goes (InMark MinusEqual)) Ends) ≡ Ends → Longest Minus (c ∷ cs)) [ true ↦ λ e f. absurd cc | false ↦ λ e f. elim (c == 61) as (λ b. (c == 61) ≡ b → cond b (Goes (InMark MinusEqual)) Ends ≡ Ends → Longest Minus (c ∷ cs)) [ true ↦ λ e' f'. absurd cc | false ↦ λ e' f'. let r : (45 == c) ≡ false = other_way c 45 e in let s : (61 == c) ≡ false = other_way c 61 e' in (simp (r, s), refl) ] refl f ] refl h
ends_longest Equal c cs h = elim (c == 61) as (λ b. (c == 61) ≡ b → cond b (Goes DoubleEqual) (cond (c == 62) (Goes (InMark Arrow)) Ends) ≡ Ends → Longest Equal (c ∷ cs)) [ true ↦ λ e f. absurd cc | false ↦ λ e f. elim (c == 62) as (λ b. (c == 62) ≡ b → cond b (Goes (InMark Arrow)) Ends ≡ Ends → Longest Equal (c ∷ cs)) [ true ↦ λ e' f'. absurd cc | false ↦ λ e' f'. let r : (61 == c) ≡ false = other_way c 61 e in let s : (62 == c) ≡ false = other_way c 62 e' in (simp (r, s), refl) ] refl f ] refl h
ends_longest Not c cs h = elim (c == 61) as (λ b. (c == 61) ≡ b → cond b (Goes NotEqual) Ends ≡ Ends → Longest Not (c ∷ cs)) [ true ↦ λ e f. absurd cc | false ↦ λ e f. let r : (61 == c) ≡ false = other_way c 61 e in (simp r, refl) ] refl h
ends_longest Slash c cs h = elim (c == 47) as (λ b. (c == 47) ≡ b → cond b (Goes InLineComment) (cond (c == 42) (Goes (InBlockComment false)) Ends) ≡ Ends → Longest Slash (c ∷ cs)) [ true ↦ λ e f. absurd cc | false ↦ λ e f. elim (c == 42) as (λ b. (c == 42) ≡ b → cond b (Goes (InBlockComment false)) Ends ≡ Ends → Longest Slash (c ∷ cs)) [ true ↦ λ e' f'. absurd cc | false ↦ λ e' f'. let r : (47 == c) ≡ false = other_way c 47 e in let s : (42 == c) ≡ false = other_way c 42 e' in (refl, simp (r, s)) ] refl f ] refl h

end_longest : (k : Mark) → Longest k []
end_longest OpenBrace = (refl, refl)
end_longest CloseBrace = (refl, refl)
end_longest OpenParen = (refl, refl)
end_longest CloseParen = (refl, refl)
end_longest OpenBracket = (refl, refl)
end_longest CloseBracket = (refl, refl)
end_longest Dot = (refl, refl)
end_longest Semicolon = (refl, refl)
end_longest Comma = (refl, refl)
end_longest Percent = (refl, refl)
end_longest Question = (refl, refl)
end_longest Colon = (refl, refl)
end_longest Arrow = (refl, refl)
end_longest LessEqual = (refl, refl)
end_longest GreaterEqual = (refl, refl)
end_longest AndAnd = (refl, refl)
end_longest OrOr = (refl, refl)
end_longest PlusPlus = (refl, refl)
end_longest MinusMinus = (refl, refl)
end_longest PlusEqual = (refl, refl)
end_longest MinusEqual = (refl, refl)
end_longest TimesEqual = (refl, refl)
end_longest TripleEqual = (refl, refl)
end_longest NotDoubleEqual = (refl, refl)
end_longest Less = (refl, refl)
end_longest Greater = (refl, refl)
end_longest Times = (refl, refl)
end_longest Plus = (refl, refl)
end_longest Minus = (refl, refl)
end_longest Equal = (refl, refl)
end_longest Not = (refl, refl)
end_longest Slash = (refl, refl)

longest : (k : Mark) (rest : List ℕ) (at to : ℕ) (line : Bool) (us : List ℕ) → Stops (machine (InMark k) at to line us) rest → Longest k rest
longest k [] at to line us s = end_longest k
longest k (c ∷ cs) at to line us s = ends_longest k c cs s

pub mark_token : (k : Mark) (cs rest : List ℕ) → cs ≡ mark_text k → Longest k rest → IsToken (mark k) cs rest
mark_token k cs rest e l = (e, ap (λ xs. mark_at (xs ++ rest)) e ∙ l.0, ap (λ xs. begins_comment (xs ++ rest)) e ∙ l.1)

pub mark_ends : (k : Mark) (from to : ℕ) (line : Bool) (us : List ℕ) (before : Bool) (seen rest : List ℕ) → IsOpen (machine (InMark k) from to line us) before seen → Stops (machine (InMark k) from to line us) rest
    → Told to false rest (run (idle to false) rest) → Told from before (seen ++ rest) (run (machine (InMark k) from to line us) rest)
mark_ends k from to line us before seen rest o s g =
    token_ends (machine (InMark k) from to line us) before seen rest (mark k) o (mark_token k seen rest o.means.0 (longest k rest from to line us s)) o.means.1 refl s g

module _ (c : ℕ) (cs : List ℕ) (from to : ℕ) (line : Bool) (us : List ℕ) (before : Bool) (seen : List ℕ) (right : IsRight cs) (again : (at : ℕ) (line : Bool) → Told at line (c ∷ cs) (run (idle at line) (c ∷ cs))) where
  -- the mark is right up to this character
  abbrev pub Right : State → Type 0
  Right s = Told from before (seen ++ c ∷ cs) (run (machine s from to line us) (c ∷ cs))

  abbrev pub Opened : State → Type 0
  Opened s = IsOpen (machine s from to line us) before seen

  ends : (k : Mark) → Opened (InMark k) → mark_move k c ≡ Ends → Right (InMark k)
  ends k o h = mark_ends k from to line us before seen (c ∷ cs) o h (again to false)

  grows : (k j : Mark) (n : ℕ) → Opened (InMark k) → (c == n) ≡ true → mark_move k c ≡ Goes (InMark j) → mark_text k ++ n ∷ [] ≡ mark_text j → Right (InMark k)
  grows k j n o y h e = goes_on (machine (InMark k) from to line us) before seen c (InMark j) cs right o h (ap (λ xs. xs ++ c ∷ []) o.means.0 ∙ ap (λ d. mark_text k ++ d ∷ []) (eqb-true c n y) ∙ e, o.means.1, o.means.2)

  line_opens : Opened (InMark Slash) → (c == 47) ≡ true → mark_move Slash c ≡ Goes InLineComment → Right (InMark Slash)
  line_opens o y h = goes_on (machine (InMark Slash) from to line us) before seen c InLineComment cs right o h ([], ap (λ xs. xs ++ c ∷ []) o.means.0 ∙ ap (λ d. 47 ∷ d ∷ []) (eqb-true c 47 y), refl, o.means.1)

  block_opens : Opened (InMark Slash) → (c == 42) ≡ true → mark_move Slash c ≡ Goes (InBlockComment false) → Right (InMark Slash)
  block_opens o y h = goes_on (machine (InMark Slash) from to line us) before seen c (InBlockComment false) cs right o h (record {
    body = [];
    seen_is = ap (λ xs. xs ++ c ∷ []) o.means.0 ∙ ap (λ d. 47 ∷ d ∷ []) (eqb-true c 42 y);
    unclosed = refl;
    star_is = refl;
    line_is = ap (λ d. cond (is_line_end d) true line) (eqb-true c 42 y) ∙ o.means.1 ∙ sym (or_false before);
  })

  pair_opens : (k : Mark) (s : State) (a : ℕ) → ((k ≡ Equal) × (s ≡ DoubleEqual) × (a ≡ 61)) ⊎ ((k ≡ Not) × (s ≡ NotEqual) × (a ≡ 33)) → Opened (InMark k) → (c == 61) ≡ true → mark_move k c ≡ Goes s → Right (InMark k)
  pair_opens k s a w o y h = goes_on (machine (InMark k) from to line us) before seen c s cs right o h (⊎_elim (λ (e : (k ≡ Equal) × (s ≡ DoubleEqual) × (a ≡ 61)). rw e.1 (ap (λ xs. xs ++ c ∷ []) (o.means.0 ∙ ap mark_text e.0) ∙ ap (λ d. 61 ∷ d ∷ []) (eqb-true c 61 y), line_of DoubleEqual, o.means.2)) (λ (e : (k ≡ Not) × (s ≡ NotEqual) × (a ≡ 33)). rw e.1 (ap (λ xs. xs ++ c ∷ []) (o.means.0 ∙ ap mark_text e.0) ∙ ap (λ d. 33 ∷ d ∷ []) (eqb-true c 61 y), line_of NotEqual, o.means.2)) w)
    where
      line_of : (s : State) → line ≡ before
      line_of s = o.means.1

  pub mark_step : (k : Mark) → Opened (InMark k) → Right (InMark k)
  unfolding mark_move
  mark_step OpenBrace o = ends OpenBrace o refl
  mark_step CloseBrace o = ends CloseBrace o refl
  mark_step OpenParen o = ends OpenParen o refl
  mark_step CloseParen o = ends CloseParen o refl
  mark_step OpenBracket o = ends OpenBracket o refl
  mark_step CloseBracket o = ends CloseBracket o refl
  mark_step Dot o = ends Dot o refl
  mark_step Semicolon o = ends Semicolon o refl
  mark_step Comma o = ends Comma o refl
  mark_step Percent o = ends Percent o refl
  mark_step Question o = ends Question o refl
  mark_step Colon o = ends Colon o refl
  mark_step Arrow o = ends Arrow o refl
  mark_step LessEqual o = ends LessEqual o refl
  mark_step GreaterEqual o = ends GreaterEqual o refl
  mark_step AndAnd o = ends AndAnd o refl
  mark_step OrOr o = ends OrOr o refl
  mark_step PlusPlus o = ends PlusPlus o refl
  mark_step MinusMinus o = ends MinusMinus o refl
  mark_step PlusEqual o = ends PlusEqual o refl
  mark_step MinusEqual o = ends MinusEqual o refl
  mark_step TimesEqual o = ends TimesEqual o refl
  mark_step TripleEqual o = ends TripleEqual o refl
  mark_step NotDoubleEqual o = ends NotDoubleEqual o refl
  mark_step Less o = ⊎_elim (λ (e : (c == 61) ≡ true). grows Less LessEqual 61 o e (simp e) refl) (λ (n : (c == 61) ≡ false). ends Less o (simp n)) (cases_Bool (c == 61))
  mark_step Greater o = ⊎_elim (λ (e : (c == 61) ≡ true). grows Greater GreaterEqual 61 o e (simp e) refl) (λ (n : (c == 61) ≡ false). ends Greater o (simp n)) (cases_Bool (c == 61))
  mark_step Times o = ⊎_elim (λ (e : (c == 61) ≡ true). grows Times TimesEqual 61 o e (simp e) refl) (λ (n : (c == 61) ≡ false). ends Times o (simp n)) (cases_Bool (c == 61))
  mark_step Plus o = ⊎_elim (λ (e : (c == 43) ≡ true). grows Plus PlusPlus 43 o e (simp e) refl) (λ (n : (c == 43) ≡ false). ⊎_elim (λ (e : (c == 61) ≡ true). grows Plus PlusEqual 61 o e (simp (n, e)) refl) (λ (m : (c == 61) ≡ false). ends Plus o (simp (n, m))) (cases_Bool (c == 61))) (cases_Bool (c == 43))
  mark_step Minus o = ⊎_elim (λ (e : (c == 45) ≡ true). grows Minus MinusMinus 45 o e (simp e) refl) (λ (n : (c == 45) ≡ false). ⊎_elim (λ (e : (c == 61) ≡ true). grows Minus MinusEqual 61 o e (simp (n, e)) refl) (λ (m : (c == 61) ≡ false). ends Minus o (simp (n, m))) (cases_Bool (c == 61))) (cases_Bool (c == 45))
  mark_step Equal o = ⊎_elim (λ (e : (c == 61) ≡ true). pair_opens Equal DoubleEqual 61 (inl (refl, refl, refl)) o e (simp e)) (λ (n : (c == 61) ≡ false). ⊎_elim (λ (e : (c == 62) ≡ true). grows Equal Arrow 62 o e (simp (n, e)) refl) (λ (m : (c == 62) ≡ false). ends Equal o (simp (n, m))) (cases_Bool (c == 62))) (cases_Bool (c == 61))
  mark_step Not o = ⊎_elim (λ (e : (c == 61) ≡ true). pair_opens Not NotEqual 33 (inr (refl, refl, refl)) o e (simp e)) (λ (n : (c == 61) ≡ false). ends Not o (simp n)) (cases_Bool (c == 61))
  mark_step Slash o = ⊎_elim (λ (e : (c == 47) ≡ true). line_opens o e (simp e)) (λ (n : (c == 47) ≡ false). ⊎_elim (λ (e : (c == 42) ≡ true). block_opens o e (simp (n, e))) (λ (m : (c == 42) ≡ false). ends Slash o (simp (n, m))) (cases_Bool (c == 42))) (cases_Bool (c == 47))

  -- `&` and `|`
  pub half_step : (s : State) (a : ℕ) (k : Mark) → move_of s c ≡ cond (c == a) (Goes (InMark k)) Fails → Opened s → seen ≡ a ∷ [] → line ≡ before → us ≡ [] → mark_text k ≡ a ∷ a ∷ [] → other ≡ kind_of a → fault_kind s ≡ other → Right s
  half_step s a k h o e l u w z f =
      ⊎_elim (λ (y : (c == a) ≡ true). goes_on (machine s from to line us) before seen c (InMark k) cs right o (h ∙ simp y) (ap (λ xs. xs ++ c ∷ []) e ∙ ap (λ d. a ∷ d ∷ []) (eqb-true c a y) ∙ sym w, l, u))
      (λ (n : (c == a) ≡ false). fault_here (machine s from to line us) before seen (c ∷ cs) other a [] o e (run_fails (machine s from to line us) c cs (h ∙ simp n) ∙ (λ i. record { tokens = []; stop = fault (f i) from })) z)
      (cases_Bool (c == a))
