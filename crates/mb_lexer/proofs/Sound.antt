-- The machine is right about every text.
use Rattle.std.proofs.Common.{◌≡◌, ℕ, ◌+◌, ◌<◌, ◌≤◌, Bool, true, false, cond, ◌&&◌, ◌||◌, List, [], ◌∷◌, ◌++◌, None, refl, sym, ◌∙◌, zero-add, add-zero, arith, ⊎_elim}
use Rattle.std.specs.Prelude.{◌==◌}
use Rattle.std.specs.Char.{len_utf8, is_digit, digit_value}
use Rattle.std.specs.Char.Escape.{encode_utf16}
use Rattle.std.proofs.lemmas.Bool.{cases_Bool, and_from, or_right, or_cases, ltb-true, le-leb}
use Rattle.std.proofs.lemmas.List.{append-nil}
use Rattle.mb_token.specs.declared.mark.Mark.TheVariants.{AndAnd, OrOr, OpenBrace, CloseBrace, OpenParen, CloseParen, OpenBracket, CloseBracket, Dot, Semicolon, Comma, Less, Greater, Plus, Minus, Times, Slash, Percent, Not, Question, Colon, Equal}
use Rattle.mb_lexer.specs.declared.state.State.{State}
use Rattle.mb_lexer.specs.declared.state.State.TheVariants.{Between, InName, InWhole, InText, AfterText, InLineComment, InBlockComment, InMark, Ampersand, Bar, DoubleEqual, NotEqual}
use Rattle.mb_lexer.specs.declared.state.Inside.TheVariants.{Plain}
use Rattle.mb_lexer.specs.declared.state.Move.TheVariants.{Goes, Fails}
use Rattle.mb_lexer.specs.Characters.{is_blank, is_line_end, starts_name, is_quote}
use Rattle.std.specs.List.{flat_map}
use Rattle.mb_lexer.specs.Strings.{number_of, piece_text}
use Rattle.mb_lexer.specs.Parts.{space}
use Rattle.mb_lexer.specs.Tokens.{text, is_whole}
use Rattle.mb_lexer.specs.Reading.{other, fault, kind_of}
use Rattle.mb_lexer.specs.machine.Machine.{idle, is_parting, run, begun, opening_of}
use Rattle.mb_lexer.proofs.Classes.{begun-space, begun-name, begun-digit, begun-quote, at_numeral}
use Rattle.mb_lexer.proofs.Steps.{machine, begin_goes, between_same}
use Rattle.mb_lexer.proofs.Parting.{or_if}
use Rattle.mb_lexer.proofs.Complete.{faulty}
use Rattle.mb_lexer.proofs.Open.{Told, IsOpen, IsRight, Means, Quoting, Commented, told_same, begins_with, begins_adding}
use Rattle.mb_lexer.proofs.Telling.{part_done, token_ends, fault_here}
use Rattle.mb_lexer.proofs.Comments.{line_ends, line_step, block_step}
use Rattle.mb_lexer.proofs.Worded.{name_ends, name_step, whole_done, whole_step}
use Rattle.mb_lexer.proofs.Quoting.{text_step}
use Rattle.mb_lexer.proofs.Signed.{mark_ends, mark_step, half_step}
use Rattle.mb_lexer.proofs.Paired.{pair_ends, pair_step, equal_equal, not_equal}
use Rattle.unicode_ident.proofs.Computing.{unicode_ident}

-- by what a character opens
opening_cases : (P : ℕ → Type 0) → P 123 → P 125 → P 40 → P 41 → P 91 → P 93 → P 46 → P 59 → P 44 → P 60 → P 62 → P 43 → P 45 → P 42 → P 47 → P 37 → P 33 → P 63 → P 58 → P 61 → P 38 → P 124
    → ((c : ℕ) → opening_of c ≡ None → P c) → (c : ℕ) → P c
unfolding opening_of
opening_cases P p1 p2 p3 p4 p5 p6 p7 p8 p9 p10 p11 p12 p13 p14 p15 p16 p17 p18 p19 p20 p21 p22 f c =
    by 123 p1 (λ e1. by 125 p2 (λ e2. by 40 p3 (λ e3. by 41 p4 (λ e4. by 91 p5 (λ e5. by 93 p6 (λ e6. by 46 p7 (λ e7. by 59 p8 (λ e8. by 44 p9 (λ e9. by 60 p10 (λ e10. by 62 p11 (λ e11.
    by 43 p12 (λ e12. by 45 p13 (λ e13. by 42 p14 (λ e14. by 47 p15 (λ e15. by 37 p16 (λ e16. by 33 p17 (λ e17. by 63 p18 (λ e18. by 58 p19 (λ e19. by 61 p20 (λ e20. by 38 p21 (λ e21. by 124 p22 (λ e22.
    f c (simp (e1, e2, e3, e4, e5, e6, e7, e8, e9, e10, e11, e12, e13, e14, e15, e16, e17, e18, e19, e20, e21, e22))))))))))))))))))))))))
  where
    by : (n : ℕ) → P n → ((c == n) ≡ false → P c) → P c
    by n p g = ⊎_elim (λ (y : (c == n) ≡ true). at_numeral P c n p y) g (cases_Bool (c == n))

begun_fails : (c : ℕ) → (is_blank c || is_line_end c) ≡ false → starts_name c ≡ false → is_digit c 10 ≡ false → is_quote c ≡ false → opening_of c ≡ None → begun c ≡ Fails
unfolding begun
begun_fails c s n d q o = simp (s, n, d, q, o)

one_digit : (c : ℕ) → is_digit c 10 ≡ true → is_whole (c ∷ []) ≡ true
one_digit c h =
    let v : digit_value c < 10 = ltb-true _ _ h in
    let l : number_of 10 (c ∷ []) ≤ 9007199254740991 = omega arith in
    and_from _ _ (and_from _ _ (and_from _ _ h refl) (or_right _ _ refl)) (le-leb _ _ l)

module _ (c : ℕ) (cs : List ℕ) (right : IsRight cs) where
  -- what begins with this character is told
  abbrev Begins : Type 0
  Begins = (at : ℕ) (line : Bool) → Told at line (c ∷ cs) (run (idle at line) (c ∷ cs))

  space_begins : (is_blank c || is_line_end c) ≡ true → Begins
  space_begins h at line =
      told_same at line (c ∷ cs) (c ∷ cs) (run (idle (at + len_utf8 c) (cond (is_line_end c) true line)) cs) _ refl (sym (begin_goes at line c Between cs (begun-space c h) ∙ between_same at (at + len_utf8 c) (cond (is_line_end c) true line) [] cs))
      (part_done at (at + len_utf8 c) line (cond (is_line_end c) true line) (c ∷ []) cs (space c) (run (idle (at + len_utf8 c) (cond (is_line_end c) true line)) cs) (let e : at + len_utf8 c ≡ at + (len_utf8 c + 0) = omega arith in e) refl h (or_if line (is_line_end c)) (right.between (at + len_utf8 c) (cond (is_line_end c) true line)))

  name_begins : starts_name c ≡ true → Begins
  name_begins h at line = begins_adding at line c c InName cs right (begun-name c h) (sym (append-nil (encode_utf16 c)), and_from _ _ h refl, refl)

  digit_begins : is_digit c 10 ≡ true → Begins
  digit_begins h at line = begins_with at line c (InWhole (digit_value c)) cs right (begun-digit c h) refl (one_digit c h, sym (zero-add (digit_value c)), refl)

  quote_begins : is_quote c ≡ true → Begins
  quote_begins h at line = begins_with at line c (InText c Plain) cs right (begun-quote c h) refl (
    record {
      quoted = h;
      pieces = [];
      front = [];
      seen_is = refl;
      units_are = refl;
      fits = λ rest g. refl;
      front_is = refl;
    },
    refl,
  )

  -- what a character of no other class begins
  abbrev Other : ℕ → Type 0
  Other x = (is_blank x || is_line_end x) ≡ false → starts_name x ≡ false → is_digit x 10 ≡ false → is_quote x ≡ false → (at : ℕ) (line : Bool) → Told at line (x ∷ cs) (run (idle at line) (x ∷ cs))

  mark_begins : (x : ℕ) (s : State) → begun x ≡ Goes s → is_parting s ≡ false → ((line : Bool) → Means s line (cond (is_parting s && is_line_end x) true line) [] (x ∷ [])) → Other x
  mark_begins x s h p m a b d e at line = begins_with at line x s cs right h p (m line)

  nothing_begins : (x : ℕ) → opening_of x ≡ None → Other x
  nothing_begins x o s n d q at line =
      let h : run (idle at line) (x ∷ cs) ≡ record { tokens = []; stop = fault other at } = rw (begun_fails x s n d q o) refl in
      told_same at line (x ∷ cs) (x ∷ cs) (record { tokens = []; stop = fault other at }) (run (idle at line) (x ∷ cs)) refl (sym h)
      ([], x ∷ cs, record { whole = refl; each = refl }, sym (add-zero at), faulty other x cs at line h (simp d))

  others_begin : Other c
  unfolding begun opening_of unicode_ident
  others_begin = opening_cases Other
      (mark_begins 123 (InMark OpenBrace) refl refl (λ line. (refl, refl, refl)))
      (mark_begins 125 (InMark CloseBrace) refl refl (λ line. (refl, refl, refl)))
      (mark_begins 40 (InMark OpenParen) refl refl (λ line. (refl, refl, refl)))
      (mark_begins 41 (InMark CloseParen) refl refl (λ line. (refl, refl, refl)))
      (mark_begins 91 (InMark OpenBracket) refl refl (λ line. (refl, refl, refl)))
      (mark_begins 93 (InMark CloseBracket) refl refl (λ line. (refl, refl, refl)))
      (mark_begins 46 (InMark Dot) refl refl (λ line. (refl, refl, refl)))
      (mark_begins 59 (InMark Semicolon) refl refl (λ line. (refl, refl, refl)))
      (mark_begins 44 (InMark Comma) refl refl (λ line. (refl, refl, refl)))
      (mark_begins 60 (InMark Less) refl refl (λ line. (refl, refl, refl)))
      (mark_begins 62 (InMark Greater) refl refl (λ line. (refl, refl, refl)))
      (mark_begins 43 (InMark Plus) refl refl (λ line. (refl, refl, refl)))
      (mark_begins 45 (InMark Minus) refl refl (λ line. (refl, refl, refl)))
      (mark_begins 42 (InMark Times) refl refl (λ line. (refl, refl, refl)))
      (mark_begins 47 (InMark Slash) refl refl (λ line. (refl, refl, refl)))
      (mark_begins 37 (InMark Percent) refl refl (λ line. (refl, refl, refl)))
      (mark_begins 33 (InMark Not) refl refl (λ line. (refl, refl, refl)))
      (mark_begins 63 (InMark Question) refl refl (λ line. (refl, refl, refl)))
      (mark_begins 58 (InMark Colon) refl refl (λ line. (refl, refl, refl)))
      (mark_begins 61 (InMark Equal) refl refl (λ line. (refl, refl, refl)))
      (mark_begins 38 Ampersand refl refl (λ line. (refl, refl, refl)))
      (mark_begins 124 Bar refl refl (λ line. (refl, refl, refl)))
      nothing_begins c

  pub begins_told : Begins
  begins_told =
      ⊎_elim space_begins (λ (s : (is_blank c || is_line_end c) ≡ false). ⊎_elim name_begins (λ (n : starts_name c ≡ false). ⊎_elim digit_begins (λ (d : is_digit c 10 ≡ false). ⊎_elim quote_begins (λ (q : is_quote c ≡ false). others_begin s n d q) (cases_Bool (is_quote c))) (cases_Bool (is_digit c 10))) (cases_Bool (starts_name c))) (cases_Bool (is_blank c || is_line_end c))

  -- an open token before this character
  pub step_told : (s : State) (from to : ℕ) (line : Bool) (us : List ℕ) (before : Bool) (seen : List ℕ) → IsOpen (machine s from to line us) before seen → Told from before (seen ++ c ∷ cs) (run (machine s from to line us) (c ∷ cs))
  step_told Between from to line us before seen o = absurd o.means
  step_told InName from to line us before seen o = name_step c cs from to line us before seen right begins_told o
  step_told (InWhole n) from to line us before seen o = whole_step c cs n from to line us before seen right begins_told o
  step_told (InText q i) from to line us before seen o = text_step q c cs from to line us before seen right i o
  step_told AfterText from to line us before seen o = token_ends (machine AfterText from to line us) before seen (c ∷ cs) (text us) o o.means.0 o.means.1 refl refl (begins_told to false)
  step_told InLineComment from to line us before seen o = line_step c cs from to line us before seen right begins_told o
  step_told (InBlockComment star) from to line us before seen o = block_step c cs star from to line us before seen right o
  step_told (InMark k) from to line us before seen o = mark_step c cs from to line us before seen right begins_told k o
  step_told Ampersand from to line us before seen o = half_step c cs from to line us before seen right begins_told Ampersand 38 AndAnd refl o o.means.0 o.means.1 o.means.2 refl refl refl
  step_told Bar from to line us before seen o = half_step c cs from to line us before seen right begins_told Bar 124 OrOr refl o o.means.0 o.means.1 o.means.2 refl refl refl
  step_told DoubleEqual from to line us before seen o = pair_step Equal DoubleEqual 61 equal_equal from to line us before seen o.place o.means.0 o.means.1 o.means.2 c cs right o begins_told
  step_told NotEqual from to line us before seen o = pair_step Not NotEqual 33 not_equal from to line us before seen o.place o.means.0 o.means.1 o.means.2 c cs right o begins_told

nothing_left : (at : ℕ) (line : Bool) → Told at line [] (run (idle at line) [])
nothing_left at line = ([], record { whole = refl; each = refl })

quote_first : (q : ℕ) → is_quote q ≡ true → other ≡ kind_of q
quote_first q h = ⊎_elim (at_numeral (λ n. other ≡ kind_of n) q 34 refl) (at_numeral (λ n. other ≡ kind_of n) q 39 refl) (or_cases _ _ h)

-- an open token at the end of the text
end_told : (s : State) (from to : ℕ) (line : Bool) (us : List ℕ) (before : Bool) (seen : List ℕ) → IsOpen (machine s from to line us) before seen → Told from before (seen ++ []) (run (machine s from to line us) [])
end_told Between from to line us before seen o = absurd o.means
end_told InName from to line us before seen o = name_ends from to line us before seen [] o refl (nothing_left to false)
end_told (InWhole n) from to line us before seen o = whole_done n from to line us before seen [] o refl (nothing_left to false)
end_told (InText q i) from to line us before seen o = let t : Quoting q i us seen = o.means.0 in fault_here (machine (InText q i) from to line us) before seen [] other q (flat_map piece_text t.pieces ++ t.front) o t.seen_is refl (quote_first q t.quoted)
end_told AfterText from to line us before seen o = token_ends (machine AfterText from to line us) before seen [] (text us) o o.means.0 o.means.1 refl tt (nothing_left to false)
end_told InLineComment from to line us before seen o = line_ends from to line us before seen [] o tt (nothing_left to line)
end_told (InBlockComment star) from to line us before seen o = let t : Commented star before line seen = o.means in fault_here (machine (InBlockComment star) from to line us) before seen [] other 47 (42 ∷ t.body) o t.seen_is refl refl
end_told (InMark k) from to line us before seen o = mark_ends k from to line us before seen [] o tt (nothing_left to false)
end_told Ampersand from to line us before seen o = fault_here (machine Ampersand from to line us) before seen [] other 38 [] o o.means.0 refl refl
end_told Bar from to line us before seen o = fault_here (machine Bar from to line us) before seen [] other 124 [] o o.means.0 refl refl
end_told DoubleEqual from to line us before seen o = pair_ends Equal DoubleEqual 61 equal_equal from to line us before seen o.place o.means.0 o.means.1 o.means.2 [] refl (nothing_left to false)
end_told NotEqual from to line us before seen o = pair_ends Not NotEqual 33 not_equal from to line us before seen o.place o.means.0 o.means.1 o.means.2 [] refl (nothing_left to false)

-- what the machine finds is what the definition says
pub sound : (cs : List ℕ) → IsRight cs
sound [] = record { between = nothing_left; opened = λ m before seen o. end_told m.state m.from m.to m.line m.units before seen o }
sound (c ∷ cs) = record { between = begins_told c cs (sound cs); opened = λ m before seen o. step_told c cs (sound cs) m.state m.from m.to m.line m.units before seen o }
