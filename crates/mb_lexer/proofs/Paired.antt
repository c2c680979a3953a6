-- The machine is right about `==` and `!=`.
use Rattle.std.proofs.Common.{◌≡◌, ℕ, ◌+◌, Bool, true, false, cond, ◌||◌, List, [], ◌∷◌, ◌++◌, Some, Ok, refl, sym, ap, subst, ◌∙◌, arith, ⊎_elim}
use Rattle.std.specs.Prelude.{◌==◌}
use Rattle.std.specs.Char.{len_utf8}
use Rattle.std.proofs.lemmas.Bool.{cases_Bool, eqb-true, or_parts, or_from}
use Rattle.mb_token.specs.declared.mark.Mark.{Mark}
use Rattle.mb_token.specs.declared.mark.Mark.TheVariants.{TripleEqual, NotDoubleEqual, Arrow, Not, Equal}
use Rattle.mb_token.specs.Marks.{mark_text, mark_at}
use Rattle.mb_lexer.specs.declared.state.State.{State}
use Rattle.mb_lexer.specs.declared.state.State.TheVariants.{InMark, DoubleEqual, NotEqual}
use Rattle.mb_lexer.specs.declared.state.Move.TheVariants.{Goes, Splits, Ends}
use Rattle.mb_lexer.specs.Characters.{width, begins}
use Rattle.mb_lexer.specs.Tokens.{mark, begins_comment, IsToken}
use Rattle.mb_lexer.specs.Reading.{Lexeme, Stop, Reads}
use Rattle.mb_lexer.specs.machine.Machine.{Machine, idle, lexeme, ended, after_tokens, run, move_of, mark_move, first_of_two}
use Rattle.mb_lexer.proofs.Steps.{machine, Stops, run_ends, run_goes, begin_goes, to_same}
use Rattle.mb_lexer.proofs.Signs.{begun-equal}
use Rattle.mb_lexer.proofs.Signed.{other_way}
use Rattle.mb_lexer.proofs.Open.{Told, IsOpen, IsRight, goes_on, told_same}
use Rattle.mb_lexer.proofs.Telling.{token_reads}

-- a mark and `=` that are two marks: s is the state after both
pub record Pair (first : Mark) (s : State) (a : ℕ) : Type 0 where
  pub text_is : mark_text first ≡ a ∷ []
  pub one_byte : len_utf8 a ≡ 1
  pub third : Mark
  pub third_is : mark_text third ≡ a ∷ 61 ∷ 61 ∷ []
  pub moves : (c : ℕ) → move_of s c ≡ cond (c == 61) (Goes (InMark third)) (cond (c == 62) (Splits first) Ends)
  pub alone : (cs : List ℕ) → begins (λ c. c == 61) cs ≡ false → (mark_at (a ∷ 61 ∷ cs) ≡ Some first) × (begins_comment (a ∷ 61 ∷ cs) ≡ false)
  pub both : (m : Machine) → ended s m ≡ Ok (first_of_two m first ∷ lexeme (mark Equal) (m.from + 1) m.to false ∷ [])

first_equal : (cs : List ℕ) → begins (λ c. c == 61) cs ≡ false → mark_at (61 ∷ 61 ∷ cs) ≡ Some Equal
first_equal [] h = refl
first_equal (c ∷ cs) h = let e : (61 == c) ≡ false = other_way c 61 h in simp e

first_not : (cs : List ℕ) → begins (λ c. c == 61) cs ≡ false → mark_at (33 ∷ 61 ∷ cs) ≡ Some Not
first_not [] h = refl
first_not (c ∷ cs) h = let e : (61 == c) ≡ false = other_way c 61 h in simp e

pub equal_equal : Pair Equal DoubleEqual 61
equal_equal = record { text_is = refl; one_byte = refl; third = TripleEqual; third_is = refl; moves = λ c. refl; alone = λ cs h. (first_equal cs h, refl); both = λ m. refl }

pub not_equal : Pair Not NotEqual 33
not_equal = record { text_is = refl; one_byte = refl; third = NotDoubleEqual; third_is = refl; moves = λ c. refl; alone = λ cs h. (first_not cs h, refl); both = λ m. refl }

equal_arrow : mark_move Equal 62 ≡ Goes (InMark Arrow)
unfolding mark_move
equal_arrow = refl

-- `=` before neither `=` nor `>`
second_equal : (rest : List ℕ) → begins (λ c. c == 61 || c == 62) rest ≡ false → IsToken (mark Equal) (61 ∷ []) rest
second_equal [] h = (refl, refl, refl)
second_equal (c ∷ cs) h =
    let p : ((c == 61) ≡ false) × ((c == 62) ≡ false) = or_parts _ _ h in
    let e : (61 == c) ≡ false = other_way c 61 p.0 in
    let f : (62 == c) ≡ false = other_way c 62 p.1 in
    (refl, simp (e, f), refl)

no_equal : (rest : List ℕ) → begins (λ c. c == 61 || c == 62) rest ≡ false → begins (λ c. c == 61) rest ≡ false
no_equal [] h = refl
no_equal (c ∷ cs) h = let p : ((c == 61) ≡ false) × ((c == 62) ≡ false) = or_parts _ _ h in p.0

module _ (first : Mark) (s : State) (a : ℕ) (pair : Pair first s a) (from to : ℕ) (line : Bool) (us : List ℕ) (before : Bool) (seen : List ℕ) (place : to ≡ from + width seen) (seen_is : seen ≡ a ∷ 61 ∷ []) (line_is : line ≡ before) (us_is : us ≡ []) where
  place_is : to ≡ from + 2
  place_is = place ∙ ap (λ xs. from + width xs) seen_is ∙ ap (λ n. from + (n + (1 + 0))) pair.one_byte

  pair_stops : (rest : List ℕ) → begins (λ c. c == 61 || c == 62) rest ≡ false → Stops (machine s from to line us) rest
  pair_stops [] h = tt
  pair_stops (c ∷ cs) h =
      let p : ((c == 61) ≡ false) × ((c == 62) ≡ false) = or_parts _ _ h in
      pair.moves c ∙ simp p.0 (simp p.1)

  first_told : (rest : List ℕ) (ts : List Lexeme) (stop : Stop) → begins (λ c. c == 61) rest ≡ false → Reads (from + 1) false (61 ∷ rest) ts stop → Reads from before (a ∷ 61 ∷ rest) (lexeme (mark first) from (from + 1) line ∷ ts) stop
  first_told rest ts stop h g =
      token_reads (lexeme (mark first) from (from + 1) line) (a ∷ []) (61 ∷ rest) from before ts stop (sym pair.text_is, (pair.alone rest h).0, (pair.alone rest h).1) refl (ap (λ n. from + n) (sym (ap (λ n. n + 0) pair.one_byte))) line_is g

  -- two marks, and what comes after them
  pub pair_ends : (rest : List ℕ) → begins (λ c. c == 61 || c == 62) rest ≡ false → Told to false rest (run (idle to false) rest) → Told from before (seen ++ rest) (run (machine s from to line us) rest)
  pair_ends rest h g =
      told_same from before (a ∷ 61 ∷ rest) (seen ++ rest) _ _ (sym (ap (λ xs. xs ++ rest) seen_is)) (sym (run_ends (machine s from to line us) (lexeme (mark first) from (from + 1) line ∷ lexeme (mark Equal) (from + 1) to false ∷ []) rest (pair.both (machine s from to line us)) (pair_stops rest h)))
      (first_told rest (lexeme (mark Equal) (from + 1) to false ∷ (run (idle to false) rest).tokens) (run (idle to false) rest).stop (no_equal rest h)
      (token_reads (lexeme (mark Equal) (from + 1) to false) (61 ∷ []) rest (from + 1) false _ _ (second_equal rest h) refl (place_is ∙ (let e : from + 2 ≡ from + 1 + 1 = omega arith in e)) refl g))

  -- a pair before a character
  pub pair_step : (c : ℕ) (cs : List ℕ) → IsRight cs → IsOpen (machine s from to line us) before seen → ((at : ℕ) (line : Bool) → Told at line (c ∷ cs) (run (idle at line) (c ∷ cs)))
      → Told from before (seen ++ c ∷ cs) (run (machine s from to line us) (c ∷ cs))
  pair_step c cs right o again =
      ⊎_elim (λ (y : (c == 61) ≡ true). goes_on (machine s from to line us) before seen c (InMark pair.third) cs right o (pair.moves c ∙ simp y) (ap (λ xs. xs ++ c ∷ []) seen_is ∙ ap (λ d. a ∷ 61 ∷ d ∷ []) (eqb-true c 61 y) ∙ sym pair.third_is, line_is, us_is))
      (λ (n : (c == 61) ≡ false). ⊎_elim (λ (y : (c == 62) ≡ true). splits n y) (λ (m : (c == 62) ≡ false). pair_ends (c ∷ cs) (or_from _ _ n m) (again to false)) (cases_Bool (c == 62)))
      (cases_Bool (c == 61))
    where
      arrow : (rest : List ℕ) → run (idle (from + 1) false) (61 ∷ 62 ∷ rest) ≡ run (machine (InMark Arrow) (from + 1) (to + 1) false us) rest
      arrow rest =
          begin_goes (from + 1) false 61 (InMark Equal) (62 ∷ rest) begun-equal
          ∙ run_goes (machine (InMark Equal) (from + 1) (from + 1 + 1) false []) 62 (InMark Arrow) rest equal_arrow
          ∙ to_same (InMark Arrow) (from + 1) (from + 1 + 1 + 1) (to + 1) false [] rest (let e : to ≡ from + 2 = place_is in omega arith)
          ∙ ap (λ xs. run (machine (InMark Arrow) (from + 1) (to + 1) false xs) rest) (sym us_is)

      splits : (c == 61) ≡ false → (c == 62) ≡ true → Told from before (seen ++ c ∷ cs) (run (machine s from to line us) (c ∷ cs))
      splits n y =
          subst (λ d. (d == 61) ≡ false → (d == 62) ≡ true → Told from before (seen ++ d ∷ cs) (run (machine s from to line us) (d ∷ cs))) (sym (eqb-true c 62 y)) (λ n y.
          told_same from before (a ∷ 61 ∷ 62 ∷ cs) (seen ++ 62 ∷ cs) (after_tokens (lexeme (mark first) from (from + 1) line ∷ []) (run (machine (InMark Arrow) (from + 1) (to + 1) false us) cs)) _ (sym (ap (λ xs. xs ++ 62 ∷ cs) seen_is)) (split_run (pair.moves 62))
          (first_told (62 ∷ cs) (run (machine (InMark Arrow) (from + 1) (to + 1) false us) cs).tokens (run (machine (InMark Arrow) (from + 1) (to + 1) false us) cs).stop refl (right.opened (machine (InMark Arrow) (from + 1) (to + 1) false us) false (61 ∷ 62 ∷ []) (record {
            place = let e : to ≡ from + 2 = place_is in omega arith;
            means = (refl, refl, us_is);
            reached = arrow;
          })))) n y
        where
          split_run : move_of s 62 ≡ Splits first → after_tokens (lexeme (mark first) from (from + 1) line ∷ []) (run (machine (InMark Arrow) (from + 1) (to + 1) false us) cs) ≡ run (machine s from to line us) (62 ∷ cs)
          split_run h = rw h refl
