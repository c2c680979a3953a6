-- The machine reads marks.
use Rattle.std.proofs.Common.{◌≡◌, ℕ, ◌+◌, Bool, true, false, List, [], ◌∷◌, ◌++◌, Some, refl, sym, ap, subst, ◌∙◌, arith, inl, inr, ⊎_elim, ◌⊎◌}
use Rattle.std.specs.Prelude.{◌==◌}
use Rattle.std.proofs.lemmas.Bool.{true≢false, cases_Bool, eqb-true, false_from_ne_true}
use Rattle.mb_token.specs.declared.mark.Mark.{Mark}
use Rattle.mb_token.specs.declared.mark.Mark.TheVariants.{TripleEqual, NotDoubleEqual, Arrow, LessEqual, GreaterEqual, AndAnd, OrOr, PlusPlus, MinusMinus, PlusEqual, MinusEqual, TimesEqual, OpenBrace, CloseBrace, OpenParen, CloseParen, OpenBracket, CloseBracket, Dot, Semicolon, Comma, Less, Greater, Plus, Minus, Times, Slash, Percent, Not, Question, Colon, Equal}
use Rattle.mb_token.specs.Marks.{mark_text, mark_at}
use Rattle.mb_lexer.specs.declared.state.State.{State}
use Rattle.mb_lexer.specs.declared.state.State.TheVariants.{InMark, Ampersand, Bar, DoubleEqual, NotEqual}
use Rattle.mb_lexer.specs.declared.state.Move.TheVariants.{Goes, Ends}
use Rattle.std.specs.Char.{len_utf8}
use Rattle.mb_lexer.specs.Characters.{width, begins}
use Rattle.mb_lexer.specs.Tokens.{mark, begins_comment}
use Rattle.mb_lexer.specs.machine.Machine.{idle, lexeme, after_tokens, run, begun, opening_of, mark_move}
use Rattle.mb_lexer.proofs.Steps.{machine, to_same, run_goes, begin_goes, run_ends, Stops}
use Rattle.unicode_ident.proofs.Computing.{unicode_ident}

-- the mark, and what comes after it
abbrev pub Marked : Mark → List ℕ → ℕ → Bool → Type 0
Marked k rest at line = run (idle at line) (mark_text k ++ rest) ≡ after_tokens (lexeme (mark k) at (at + width (mark_text k)) line ∷ []) (run (idle (at + width (mark_text k)) false) rest)

-- a mark that ends here
done : (k : Mark) (rest : List ℕ) (at to : ℕ) (line : Bool) → Stops (machine (InMark k) at to line []) rest → run (machine (InMark k) at to line []) rest ≡ after_tokens (lexeme (mark k) at to line ∷ []) (run (idle to false) rest)
done k rest at to line s = run_ends (machine (InMark k) at to line []) (lexeme (mark k) at to line ∷ []) rest refl s

never : (k : Mark) (at to : ℕ) (line : Bool) (rest : List ℕ) → ((c : ℕ) → mark_move k c ≡ Ends) → Stops (machine (InMark k) at to line []) rest
never k at to line [] f = tt
never k at to line (c ∷ cs) f = f c

-- a mark of one character that no other begins with
lone : (k : Mark) (c : ℕ) (rest : List ℕ) (at : ℕ) (line : Bool) → len_utf8 c ≡ 1 → begun c ≡ Goes (InMark k) → Stops (machine (InMark k) at (at + 1) line []) rest
    → run (idle at line) (c ∷ rest) ≡ after_tokens (lexeme (mark k) at (at + 1) line ∷ []) (run (idle (at + 1) false) rest)
lone k c rest at line w b s =
    begin_goes at line c (InMark k) rest b
    ∙ to_same (InMark k) at _ _ line [] rest (ap (λ n. at + n) w)
    ∙ done k rest at (at + 1) line s

-- a mark of two characters, of which the first is a mark too
longer : (j k : Mark) (c d : ℕ) (rest : List ℕ) (at : ℕ) (line : Bool) → len_utf8 c ≡ 1 → len_utf8 d ≡ 1 → begun c ≡ Goes (InMark j) → mark_move j d ≡ Goes (InMark k) → ((e : ℕ) → mark_move k e ≡ Ends)
    → run (idle at line) (c ∷ d ∷ rest) ≡ after_tokens (lexeme (mark k) at (at + 2) line ∷ []) (run (idle (at + 2) false) rest)
longer j k c d rest at line w v b g f =
    begin_goes at line c (InMark j) (d ∷ rest) b
    ∙ run_goes (machine (InMark j) at (at + len_utf8 c) line []) d (InMark k) rest g
    ∙ to_same (InMark k) at _ _ line [] rest (rw (w, v) (omega arith))
    ∙ done k rest at (at + 2) line (never k at (at + 2) line rest f)

-- what would make the fact false doesn't come
excluded : (P : ℕ → Type 0) (c n : ℕ) → (P n → ⊥) → P c → (c == n) ≡ false
excluded P c n f p = false_from_ne_true _ (λ s. f (subst P (eqb-true c n s) p))

-- `=` or `!` and `=` with no third: two marks
pair_of : (first : Mark) (s : State) (cs : List ℕ) (at to : ℕ) (line : Bool) → ((first ≡ Equal) × (s ≡ DoubleEqual)) ⊎ ((first ≡ Not) × (s ≡ NotEqual)) → to ≡ at + 1 + 1 → begins (λ c. c == 61) cs ≡ false
    → run (machine s at to line []) cs ≡ after_tokens (lexeme (mark first) at (at + 1) line ∷ []) (run (machine (InMark Equal) (at + 1) to false []) cs)
unfolding mark_move
pair_of first s [] at to line h e n = ⊎_elim (λ (p : (first ≡ Equal) × (s ≡ DoubleEqual)). rw (p.0, p.1) refl) (λ (p : (first ≡ Not) × (s ≡ NotEqual)). rw (p.0, p.1) refl) h
pair_of first s (c ∷ cs) at to line h e n = ⊎_elim (λ (p : (first ≡ Equal) × (s ≡ DoubleEqual)). rw (p.0, p.1) (double (cases_Bool (c == 62)))) (λ (p : (first ≡ Not) × (s ≡ NotEqual)). rw (p.0, p.1) (unequal (cases_Bool (c == 62)))) h
  where
    double : ((c == 62) ≡ true) ⊎ ((c == 62) ≡ false) → run (machine DoubleEqual at to line []) (c ∷ cs) ≡ after_tokens (lexeme (mark Equal) at (at + 1) line ∷ []) (run (machine (InMark Equal) (at + 1) to false []) (c ∷ cs))
    double (inl y) = rw (eqb-true c 62 y) refl
    double (inr z) =
        run_ends (machine DoubleEqual at to line []) (lexeme (mark Equal) at (at + 1) line ∷ lexeme (mark Equal) (at + 1) to false ∷ []) (c ∷ cs) refl (simp (n, z))
        ∙ ap (λ a. after_tokens (lexeme (mark Equal) at (at + 1) line ∷ []) a) (sym (run_ends (machine (InMark Equal) (at + 1) to false []) (lexeme (mark Equal) (at + 1) to false ∷ []) (c ∷ cs) refl (simp (n, z))))

    unequal : ((c == 62) ≡ true) ⊎ ((c == 62) ≡ false) → run (machine NotEqual at to line []) (c ∷ cs) ≡ after_tokens (lexeme (mark Not) at (at + 1) line ∷ []) (run (machine (InMark Equal) (at + 1) to false []) (c ∷ cs))
    unequal (inl y) = rw (eqb-true c 62 y) refl
    unequal (inr z) =
        run_ends (machine NotEqual at to line []) (lexeme (mark Not) at (at + 1) line ∷ lexeme (mark Equal) (at + 1) to false ∷ []) (c ∷ cs) refl (simp (n, z))
        ∙ ap (λ a. after_tokens (lexeme (mark Not) at (at + 1) line ∷ []) a) (sym (run_ends (machine (InMark Equal) (at + 1) to false []) (lexeme (mark Equal) (at + 1) to false ∷ []) (c ∷ cs) refl (simp (n, z))))

pub begun-equal : begun 61 ≡ Goes (InMark Equal)
unfolding begun opening_of unicode_ident
begun-equal = refl

pub begun-not : begun 33 ≡ Goes (InMark Not)
unfolding begun opening_of unicode_ident
begun-not = refl

pub equal-equal : mark_move Equal 61 ≡ Goes DoubleEqual
unfolding mark_move
equal-equal = refl

pub not-equal : mark_move Not 61 ≡ Goes NotEqual
unfolding mark_move
not-equal = refl

no_third : (first last : Mark) (a : ℕ) (cs : List ℕ) → ((d : ℕ) (ds : List ℕ) → mark_at (a ∷ 61 ∷ 61 ∷ ds) ≡ Some first → ⊥) → mark_at (a ∷ 61 ∷ cs) ≡ Some first → begins (λ c. c == 61) cs ≡ false
no_third first last a [] f h = refl
no_third first last a (d ∷ ds) f h = excluded (λ x. mark_at (a ∷ 61 ∷ x ∷ ds) ≡ Some first) d 61 (f d ds) h

equal_pair : (c : ℕ) (cs : List ℕ) (at : ℕ) (line : Bool) → (c == 61) ≡ true → mark_at (61 ∷ c ∷ cs) ≡ Some Equal → Marked Equal (c ∷ cs) at line
equal_pair c cs at line y h = subst (λ d. mark_at (61 ∷ d ∷ cs) ≡ Some Equal → Marked Equal (d ∷ cs) at line) (sym (eqb-true c 61 y)) two_marks h
  where
    two_marks : mark_at (61 ∷ 61 ∷ cs) ≡ Some Equal → Marked Equal (61 ∷ cs) at line
    two_marks h =
        begin_goes at line 61 (InMark Equal) (61 ∷ cs) begun-equal
        ∙ run_goes (machine (InMark Equal) at (at + 1) line []) 61 DoubleEqual cs equal-equal
        ∙ pair_of Equal DoubleEqual cs at (at + 1 + 1) line (inl (refl, refl)) refl (no_third Equal TripleEqual 61 cs (λ d ds (e : Some TripleEqual ≡ Some Equal). cc) h)
        ∙ ap (λ a. after_tokens (lexeme (mark Equal) at (at + 1) line ∷ []) a) (sym (begin_goes (at + 1) false 61 (InMark Equal) cs begun-equal))

not_pair : (c : ℕ) (cs : List ℕ) (at : ℕ) (line : Bool) → (c == 61) ≡ true → mark_at (33 ∷ c ∷ cs) ≡ Some Not → Marked Not (c ∷ cs) at line
not_pair c cs at line y h = subst (λ d. mark_at (33 ∷ d ∷ cs) ≡ Some Not → Marked Not (d ∷ cs) at line) (sym (eqb-true c 61 y)) two_marks h
  where
    two_marks : mark_at (33 ∷ 61 ∷ cs) ≡ Some Not → Marked Not (61 ∷ cs) at line
    two_marks h =
        begin_goes at line 33 (InMark Not) (61 ∷ cs) begun-not
        ∙ run_goes (machine (InMark Not) at (at + 1) line []) 61 NotEqual cs not-equal
        ∙ pair_of Not NotEqual cs at (at + 1 + 1) line (inr (refl, refl)) refl (no_third Not NotDoubleEqual 33 cs (λ d ds (e : Some NotDoubleEqual ≡ Some Not). cc) h)
        ∙ ap (λ a. after_tokens (lexeme (mark Not) at (at + 1) line ∷ []) a) (sym (begin_goes (at + 1) false 61 (InMark Equal) cs begun-equal))

-- A mark with nothing longer, and what comes after it.
pub mark_run : (k : Mark) (rest : List ℕ) (at : ℕ) (line : Bool) → mark_at (mark_text k ++ rest) ≡ Some k → begins_comment (mark_text k ++ rest) ≡ false → Marked k rest at line
unfolding begun opening_of unicode_ident mark_move
mark_run OpenBrace rest at line h n = lone OpenBrace 123 rest at line refl refl (never OpenBrace at (at + 1) line rest (λ c. refl))
mark_run CloseBrace rest at line h n = lone CloseBrace 125 rest at line refl refl (never CloseBrace at (at + 1) line rest (λ c. refl))
mark_run OpenParen rest at line h n = lone OpenParen 40 rest at line refl refl (never OpenParen at (at + 1) line rest (λ c. refl))
mark_run CloseParen rest at line h n = lone CloseParen 41 rest at line refl refl (never CloseParen at (at + 1) line rest (λ c. refl))
mark_run OpenBracket rest at line h n = lone OpenBracket 91 rest at line refl refl (never OpenBracket at (at + 1) line rest (λ c. refl))
mark_run CloseBracket rest at line h n = lone CloseBracket 93 rest at line refl refl (never CloseBracket at (at + 1) line rest (λ c. refl))
mark_run Dot rest at line h n = lone Dot 46 rest at line refl refl (never Dot at (at + 1) line rest (λ c. refl))
mark_run Semicolon rest at line h n = lone Semicolon 59 rest at line refl refl (never Semicolon at (at + 1) line rest (λ c. refl))
mark_run Comma rest at line h n = lone Comma 44 rest at line refl refl (never Comma at (at + 1) line rest (λ c. refl))
mark_run Percent rest at line h n = lone Percent 37 rest at line refl refl (never Percent at (at + 1) line rest (λ c. refl))
mark_run Question rest at line h n = lone Question 63 rest at line refl refl (never Question at (at + 1) line rest (λ c. refl))
mark_run Colon rest at line h n = lone Colon 58 rest at line refl refl (never Colon at (at + 1) line rest (λ c. refl))
mark_run Arrow rest at line h n = longer Equal Arrow 61 62 rest at line refl refl refl refl (λ c. refl)
mark_run LessEqual rest at line h n = longer Less LessEqual 60 61 rest at line refl refl refl refl (λ c. refl)
mark_run GreaterEqual rest at line h n = longer Greater GreaterEqual 62 61 rest at line refl refl refl refl (λ c. refl)
mark_run PlusPlus rest at line h n = longer Plus PlusPlus 43 43 rest at line refl refl refl refl (λ c. refl)
mark_run MinusMinus rest at line h n = longer Minus MinusMinus 45 45 rest at line refl refl refl refl (λ c. refl)
mark_run PlusEqual rest at line h n = longer Plus PlusEqual 43 61 rest at line refl refl refl refl (λ c. refl)
mark_run MinusEqual rest at line h n = longer Minus MinusEqual 45 61 rest at line refl refl refl refl (λ c. refl)
mark_run TimesEqual rest at line h n = longer Times TimesEqual 42 61 rest at line refl refl refl refl (λ c. refl)
mark_run Less [] at line h n = lone Less 60 [] at line refl refl tt
mark_run Less (c ∷ cs) at line h n = let x0 : (c == 61) ≡ false = excluded (λ d. mark_at (60 ∷ d ∷ cs) ≡ Some Less) c 61 (λ (e : Some LessEqual ≡ Some Less). cc) h in lone Less 60 (c ∷ cs) at line refl refl (simp (x0))
mark_run Greater [] at line h n = lone Greater 62 [] at line refl refl tt
mark_run Greater (c ∷ cs) at line h n = let x0 : (c == 61) ≡ false = excluded (λ d. mark_at (62 ∷ d ∷ cs) ≡ Some Greater) c 61 (λ (e : Some GreaterEqual ≡ Some Greater). cc) h in lone Greater 62 (c ∷ cs) at line refl refl (simp (x0))
mark_run Times [] at line h n = lone Times 42 [] at line refl refl tt
mark_run Times (c ∷ cs) at line h n = let x0 : (c == 61) ≡ false = excluded (λ d. mark_at (42 ∷ d ∷ cs) ≡ Some Times) c 61 (λ (e : Some TimesEqual ≡ Some Times). cc) h in lone Times 42 (c ∷ cs) at line refl refl (simp (x0))
mark_run Plus [] at line h n = lone Plus 43 [] at line refl refl tt
mark_run Plus (c ∷ cs) at line h n = let x0 : (c == 43) ≡ false = excluded (λ d. mark_at (43 ∷ d ∷ cs) ≡ Some Plus) c 43 (λ (e : Some PlusPlus ≡ Some Plus). cc) h in let x1 : (c == 61) ≡ false = excluded (λ d. mark_at (43 ∷ d ∷ cs) ≡ Some Plus) c 61 (λ (e : Some PlusEqual ≡ Some Plus). cc) h in lone Plus 43 (c ∷ cs) at line refl refl (simp (x0, x1))
mark_run Minus [] at line h n = lone Minus 45 [] at line refl refl tt
mark_run Minus (c ∷ cs) at line h n = let x0 : (c == 45) ≡ false = excluded (λ d. mark_at (45 ∷ d ∷ cs) ≡ Some Minus) c 45 (λ (e : Some MinusMinus ≡ Some Minus). cc) h in let x1 : (c == 61) ≡ false = excluded (λ d. mark_at (45 ∷ d ∷ cs) ≡ Some Minus) c 61 (λ (e : Some MinusEqual ≡ Some Minus). cc) h in lone Minus 45 (c ∷ cs) at line refl refl (simp (x0, x1))
mark_run Slash [] at line h n = lone Slash 47 [] at line refl refl tt
mark_run Slash (c ∷ cs) at line h n = let x : (c == 47) ≡ false = excluded (λ d. begins_comment (47 ∷ d ∷ cs) ≡ false) c 47 (λ (e : true ≡ false). true≢false e) n in let y : (c == 42) ≡ false = excluded (λ d. begins_comment (47 ∷ d ∷ cs) ≡ false) c 42 (λ (e : true ≡ false). true≢false e) n in lone Slash 47 (c ∷ cs) at line refl refl (simp (x, y))
mark_run AndAnd rest at line h n = begin_goes at line 38 Ampersand (38 ∷ rest) refl ∙ run_goes (machine Ampersand at (at + 1) line []) 38 (InMark AndAnd) rest refl ∙ to_same (InMark AndAnd) at (at + 1 + 1) (at + 2) line [] rest (omega arith) ∙ done AndAnd rest at (at + 2) line (never AndAnd at (at + 2) line rest (λ c. refl))
mark_run OrOr rest at line h n = begin_goes at line 124 Bar (124 ∷ rest) refl ∙ run_goes (machine Bar at (at + 1) line []) 124 (InMark OrOr) rest refl ∙ to_same (InMark OrOr) at (at + 1 + 1) (at + 2) line [] rest (omega arith) ∙ done OrOr rest at (at + 2) line (never OrOr at (at + 2) line rest (λ c. refl))
mark_run TripleEqual rest at line h n = begin_goes at line 61 (InMark Equal) (61 ∷ 61 ∷ rest) refl ∙ run_goes (machine (InMark Equal) at (at + 1) line []) 61 DoubleEqual (61 ∷ rest) refl ∙ run_goes (machine DoubleEqual at (at + 1 + 1) line []) 61 (InMark TripleEqual) rest refl ∙ to_same (InMark TripleEqual) at (at + 1 + 1 + 1) (at + 3) line [] rest (omega arith) ∙ done TripleEqual rest at (at + 3) line (never TripleEqual at (at + 3) line rest (λ c. refl))
mark_run NotDoubleEqual rest at line h n = begin_goes at line 33 (InMark Not) (61 ∷ 61 ∷ rest) refl ∙ run_goes (machine (InMark Not) at (at + 1) line []) 61 NotEqual (61 ∷ rest) refl ∙ run_goes (machine NotEqual at (at + 1 + 1) line []) 61 (InMark NotDoubleEqual) rest refl ∙ to_same (InMark NotDoubleEqual) at (at + 1 + 1 + 1) (at + 3) line [] rest (omega arith) ∙ done NotDoubleEqual rest at (at + 3) line (never NotDoubleEqual at (at + 3) line rest (λ c. refl))
mark_run Equal [] at line h n = lone Equal 61 [] at line refl refl tt
mark_run Equal (c ∷ cs) at line h n = ⊎_elim (λ (y : (c == 61) ≡ true). equal_pair c cs at line y h) (λ (z : (c == 61) ≡ false). let x : (c == 62) ≡ false = excluded (λ d. mark_at (61 ∷ d ∷ cs) ≡ Some Equal) c 62 (λ (e : Some Arrow ≡ Some Equal). cc) h in lone Equal 61 (c ∷ cs) at line refl refl (simp (z, x))) (cases_Bool (c == 61))
mark_run Not [] at line h n = lone Not 33 [] at line refl refl tt
mark_run Not (c ∷ cs) at line h n = ⊎_elim (λ (y : (c == 61) ≡ true). not_pair c cs at line y h) (λ (z : (c == 61) ≡ false). lone Not 33 (c ∷ cs) at line refl refl (simp z)) (cases_Bool (c == 61))
