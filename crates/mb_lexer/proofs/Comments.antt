-- The machine is right about comments.
use Rattle.std.proofs.Common.{◌≡◌, ℕ, ◌+◌, Bool, true, false, not, cond, ◌&&◌, ◌||◌, List, [], ◌∷◌, ◌++◌, refl, sym, ap, subst, ◌∙◌, append_assoc, arith, ⊎_elim}
use Rattle.std.specs.Prelude.{◌==◌}
use Rattle.std.specs.List.{list_any}
use Rattle.std.proofs.lemmas.Bool.{true≢false, cases_Bool, and_from, and_parts, or_parts, or_from, eqb-true, not_from_false}
use Rattle.mb_lexer.specs.declared.state.State.TheVariants.{Between, InLineComment, InBlockComment}
use Rattle.mb_lexer.specs.declared.state.Move.TheVariants.{Goes, Ends}
use Rattle.mb_lexer.specs.Characters.{is_line_end, begins, width}
use Rattle.mb_lexer.specs.Parts.{line_comment, block_comment, has_close}
use Rattle.mb_lexer.specs.machine.Machine.{idle, run}
use Rattle.mb_lexer.proofs.Steps.{machine, Stops, run_ends, run_goes, between_same}
use Rattle.mb_lexer.proofs.Parting.{or_if, or_false, or_assoc, width-append}
use Rattle.mb_lexer.proofs.Open.{Told, IsOpen, IsRight, Commented, ends_in_star, goes_on, told_same}
use Rattle.mb_lexer.proofs.Telling.{part_ends, part_done}

pub list_any-append : (p : ℕ → Bool) (xs ys : List ℕ) → list_any p (xs ++ ys) ≡ (list_any p xs || list_any p ys)
list_any-append p [] ys = refl
list_any-append p (x ∷ xs) ys = ap (λ b. p x || b) (list_any-append p xs ys) ∙ sym (or_assoc (p x) (list_any p xs) (list_any p ys))

-- a line comment at its end
pub line_ends : (from to : ℕ) (line : Bool) (us : List ℕ) (before : Bool) (seen rest : List ℕ) → IsOpen (machine InLineComment from to line us) before seen → Stops (machine InLineComment from to line us) rest
    → Told to line rest (run (idle to line) rest) → Told from before (seen ++ rest) (run (machine InLineComment from to line us) rest)
line_ends from to line us before seen rest o s g =
    part_ends (machine InLineComment from to line us) before seen rest (line_comment o.means.0) o o.means.1
    (and_from _ _ (not_from_false _ o.means.2) (stop rest s)) (o.means.3 ∙ sym (or_false before)) (run_ends (machine InLineComment from to line us) [] rest refl s) g
  where
    stop : (rest : List ℕ) → Stops (machine InLineComment from to line us) rest → not (begins (λ c. not (is_line_end c)) rest) ≡ true
    stop [] s = refl
    stop (c ∷ cs) s = elim (is_line_end c) as (λ b. cond b Ends (Goes InLineComment) ≡ Ends → not (not b) ≡ true) [ true ↦ λ _. refl | false ↦ λ e. cc ] s

-- a line comment before a character
pub line_step : (c : ℕ) (cs : List ℕ) (from to : ℕ) (line : Bool) (us : List ℕ) (before : Bool) (seen : List ℕ) → IsRight cs → ((at : ℕ) (line : Bool) → Told at line (c ∷ cs) (run (idle at line) (c ∷ cs)))
    → IsOpen (machine InLineComment from to line us) before seen → Told from before (seen ++ c ∷ cs) (run (machine InLineComment from to line us) (c ∷ cs))
line_step c cs from to line us before seen right again o =
    ⊎_elim
    (λ (y : is_line_end c ≡ true). line_ends from to line us before seen (c ∷ cs) o (simp y) (again to line))
    (λ (n : is_line_end c ≡ false). goes_on (machine InLineComment from to line us) before seen c InLineComment cs right o (simp n)
    (o.means.0 ++ c ∷ [], ap (λ xs. xs ++ c ∷ []) o.means.1, list_any-append is_line_end o.means.0 (c ∷ []) ∙ or_from _ _ o.means.2 (or_from _ _ n refl), o.means.3))
    (cases_Bool (is_line_end c))

star_last : (xs : List ℕ) (c : ℕ) → ends_in_star (xs ++ c ∷ []) ≡ (c == 42)
star_last [] c = refl
star_last (x ∷ []) c = refl
star_last (x ∷ y ∷ ys) c = star_last (y ∷ ys) c

and_false : (b : Bool) → (b && false) ≡ false
and_false true = refl
and_false false = refl

close_last : (xs : List ℕ) (c : ℕ) → has_close (xs ++ c ∷ []) ≡ (has_close xs || (ends_in_star xs && c == 47))
close_last [] c = or_false _ ∙ and_false (c == 42)
close_last (x ∷ []) c = simp (and_false (c == 42), and_false (x == 42), or_false (x == 42 && c == 47))
close_last (x ∷ y ∷ ys) c = ap (λ b. (x == 42 && y == 47) || b) (close_last (y ∷ ys) c) ∙ sym (or_assoc (x == 42 && y == 47) (has_close (y ∷ ys)) (ends_in_star (y ∷ ys) && c == 47))

star_front : (xs : List ℕ) → ends_in_star xs ≡ true → (ys : List ℕ) × (xs ≡ ys ++ 42 ∷ [])
star_front [] h = absurd (true≢false (sym h))
star_front (x ∷ []) h = ([], ap (λ n. n ∷ []) (eqb-true x 42 h))
star_front (x ∷ y ∷ ys) h = let r : (zs : List ℕ) × (y ∷ ys ≡ zs ++ 42 ∷ []) = star_front (y ∷ ys) h in (x ∷ r.0, ap (λ zs. x ∷ zs) r.1)

-- a block comment before a character
pub block_step : (c : ℕ) (cs : List ℕ) (star : Bool) (from to : ℕ) (line : Bool) (us : List ℕ) (before : Bool) (seen : List ℕ) → IsRight cs
    → IsOpen (machine (InBlockComment star) from to line us) before seen → Told from before (seen ++ c ∷ cs) (run (machine (InBlockComment star) from to line us) (c ∷ cs))
block_step c cs star from to line us before seen right o =
    ⊎_elim (λ (y : (star && c == 47) ≡ true). closes (and_parts _ _ y)) (λ (n : (star && c == 47) ≡ false). stays n) (cases_Bool (star && c == 47))
  where
    t : Commented star before line seen
    t = o.means

    stays : (star && c == 47) ≡ false → Told from before (seen ++ c ∷ cs) (run (machine (InBlockComment star) from to line us) (c ∷ cs))
    stays n = goes_on (machine (InBlockComment star) from to line us) before seen c (InBlockComment (c == 42)) cs right o (simp n) (record {
      body = t.body ++ c ∷ [];
      seen_is = ap (λ xs. xs ++ c ∷ []) t.seen_is;
      unclosed = close_last t.body c ∙ or_from _ _ t.unclosed (ap (λ b. b && c == 47) (sym t.star_is) ∙ n);
      star_is = sym (star_last t.body c);
      line_is = or_if line (is_line_end c) ∙ ap (λ b. b || is_line_end c) t.line_is ∙ or_assoc before (list_any is_line_end t.body) (is_line_end c) ∙ ap (λ b. before || b) (ap (λ b. list_any is_line_end t.body || b) (sym (or_false (is_line_end c))) ∙ sym (list_any-append is_line_end t.body (c ∷ [])));
    })

    closes : (star ≡ true) × ((c == 47) ≡ true) → Told from before (seen ++ c ∷ cs) (run (machine (InBlockComment star) from to line us) (c ∷ cs))
    closes p = subst (λ d. Told from before (seen ++ d ∷ cs) (run (machine (InBlockComment star) from to line us) (d ∷ cs))) (sym (eqb-true c 47 p.1)) (closed p.0 (star_front t.body (sym t.star_is ∙ p.0)))
      where
        closed : star ≡ true → (ys : List ℕ) × (t.body ≡ ys ++ 42 ∷ []) → Told from before (seen ++ 47 ∷ cs) (run (machine (InBlockComment star) from to line us) (47 ∷ cs))
        closed e r =
            let whole : seen ++ 47 ∷ [] ≡ 47 ∷ 42 ∷ (r.0 ++ 42 ∷ 47 ∷ []) = ap (λ xs. xs ++ 47 ∷ []) (t.seen_is ∙ ap (λ xs. 47 ∷ 42 ∷ xs) r.1) ∙ ap (λ xs. 47 ∷ 42 ∷ xs) (append_assoc r.0 (42 ∷ []) (47 ∷ [])) in
            let u : (has_close r.0 ≡ false) × ((ends_in_star r.0 && false) ≡ false) = or_parts _ _ (sym (close_last r.0 42) ∙ ap has_close (sym r.1) ∙ t.unclosed) in
            let l : line ≡ (before || list_any is_line_end r.0) = t.line_is ∙ ap (λ xs. before || list_any is_line_end xs) r.1 ∙ ap (λ b. before || b) (list_any-append is_line_end r.0 (42 ∷ []) ∙ or_false _) in
            told_same from before _ _ _ _ (append_assoc seen (47 ∷ []) cs) (sym (run_goes (machine (InBlockComment star) from to line us) 47 Between cs (rw e refl) ∙ between_same from (to + 1) line us cs))
            (part_done from (to + 1) before line (seen ++ 47 ∷ []) cs (block_comment r.0) (run (idle (to + 1) line) cs) (let w : to ≡ from + width seen = o.place in rw (width-append seen (47 ∷ [])) (omega arith)) whole (not_from_false _ u.0) l (right.between (to + 1) line))
