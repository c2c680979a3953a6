-- The machine reads names and numbers.
use Rattle.std.proofs.Common.{◌≡◌, ℕ, ◌+◌, ◌*◌, ◌<◌, ◌≤◌, Bool, true, false, not, ◌&&◌, ◌||◌, List, [], ◌∷◌, ◌++◌, length, nat_le, refl, sym, ◌∙◌, append_assoc, add_assoc, zero-add, add-zero, arith, inl, inr, ⊎_elim, ◌⊎◌}
use Rattle.std.specs.Prelude.{◌==◌}
use Rattle.std.specs.List.{list_all}
use Rattle.std.specs.Char.{len_utf8, is_digit, digit_value}
use Rattle.std.specs.Char.Escape.{encode_utf16}
use Rattle.std.proofs.lemmas.Bool.{true≢false, and_parts, or_parts, or_cases, not-true, eqb-true, eqb-false, leb-true, le-leb, lt-ltb, cases_lt}
use Rattle.std.proofs.lemmas.List.{append-nil}
use Rattle.std.proofs.lemmas.Str.{digit_value_digit}
use Rattle.mb_lexer.specs.declared.state.State.TheVariants.{InName, InWhole}
use Rattle.mb_lexer.specs.declared.state.Move.TheVariants.{Goes, Ends}
use Rattle.mb_lexer.specs.Characters.{starts_name, continues_name, continues_number, begins, width}
use Rattle.mb_lexer.specs.Strings.{number_from, number_of}
use Rattle.mb_lexer.specs.Tokens.{named, units_of, is_whole, IsName, whole}
use Rattle.mb_lexer.specs.machine.Machine.{Machine, idle, lexeme, after_tokens, run, move_of, whole_move}
use Rattle.mb_lexer.proofs.Classes.{begun-name, begun-digit, digit_range}
use Rattle.mb_lexer.proofs.Steps.{machine, to_same, run_goes, run_adds, begin_goes, begin_adds, run_ends, Stops}

-- a name goes on
pub in_name : (cs rest : List ℕ) (from to : ℕ) (line : Bool) (us : List ℕ) → list_all continues_name cs ≡ true
    → run (machine InName from to line us) (cs ++ rest) ≡ run (machine InName from (to + width cs) line (us ++ units_of cs)) rest
in_name [] rest from to line us h = λ i. run (machine InName from (sym (add-zero to) i) line (sym (append-nil us) i)) rest
in_name (c ∷ cs) rest from to line us h =
    let p : (continues_name c ≡ true) × (list_all continues_name cs ≡ true) = and_parts _ _ h in
    run_adds (machine InName from to line us) c c InName (cs ++ rest) (simp (p.0))
    ∙ in_name cs rest from (to + len_utf8 c) line (us ++ encode_utf16 c) p.1
    ∙ (λ i. run (machine InName from (add_assoc to (len_utf8 c) (width cs) i) line (append_assoc us (encode_utf16 c) (units_of cs) i)) rest)

pub name_stops : (m : Machine) (rest : List ℕ) → m.state ≡ InName → begins continues_name rest ≡ false → Stops m rest
name_stops m [] e h = tt
name_stops m (c ∷ cs) e h = rw e (simp h)

-- a name, and what comes after it
pub name_run : (us cs rest : List ℕ) (at : ℕ) (line : Bool) → IsName us cs rest
    → run (idle at line) (cs ++ rest) ≡ after_tokens (lexeme (named us) at (at + width cs) line ∷ []) (run (idle (at + width cs) false) rest)
name_run us [] rest at line n = absurd (true≢false (sym n.form))
name_run us (c ∷ cs) rest at line n =
    let p : (starts_name c ≡ true) × (list_all continues_name cs ≡ true) = and_parts _ _ n.form in
    let m : Machine = machine InName at (at + len_utf8 c + width cs) line (encode_utf16 c ++ units_of cs) in
    begin_adds at line c c InName (cs ++ rest) (begun-name c p.0)
    ∙ in_name cs rest at (at + len_utf8 c) line (encode_utf16 c) p.1
    ∙ run_ends m (lexeme (named (encode_utf16 c ++ units_of cs)) at (at + len_utf8 c + width cs) line ∷ []) rest refl (name_stops m rest refl n.ends)
    ∙ (λ i. after_tokens (lexeme (named (sym n.units i)) at (add_assoc at (len_utf8 c) (width cs) i) line ∷ []) (run (idle (add_assoc at (len_utf8 c) (width cs) i) false) rest))

-- more digits make a number no less
pub number_grows : (ds : List ℕ) (n : ℕ) → n ≤ number_from 10 n ds
number_grows [] n = omega arith
number_grows (d ∷ ds) n = let h : n * 10 + digit_value d ≤ number_from 10 (n * 10 + digit_value d) ds = number_grows ds (n * 10 + digit_value d) in omega arith

pub whole_goes : (n d : ℕ) → is_digit d 10 ≡ true → 0 < n → n * 10 + digit_value d ≤ 9007199254740991 → move_of (InWhole n) d ≡ Goes (InWhole (n * 10 + digit_value d))
unfolding whole_move
whole_goes n d e q r = simp (e, lt-ltb 0 n q, le-leb (n * 10 + digit_value d) 9007199254740991 r)

pub whole_ends : (n c : ℕ) → continues_number c ≡ false → move_of (InWhole n) c ≡ Ends
unfolding whole_move
whole_ends n c h =
    let p : ((is_digit c 10 || (c == 46)) ≡ false) × (continues_name c ≡ false) = or_parts _ _ h in
    let q : (is_digit c 10 ≡ false) × ((c == 46) ≡ false) = or_parts _ _ p.0 in
    simp (q.0, q.1, p.1)

-- a number goes on
pub in_whole : (ds rest : List ℕ) (n from to : ℕ) (line : Bool) (us : List ℕ) → list_all (λ d. is_digit d 10) ds ≡ true → (0 < n) ⊎ (ds ≡ []) → number_from 10 n ds ≤ 9007199254740991
    → run (machine (InWhole n) from to line us) (ds ++ rest) ≡ run (machine (InWhole (number_from 10 n ds)) from (to + width ds) line us) rest
in_whole [] rest n from to line us h z b = to_same (InWhole n) from to (to + 0) line us rest (sym (add-zero to))
in_whole (d ∷ ds) rest n from to line us h z b =
    let p : (is_digit d 10 ≡ true) × (list_all (λ e. is_digit e 10) ds ≡ true) = and_parts _ _ h in
    let m : ℕ = n * 10 + digit_value d in
    let g : m ≤ number_from 10 m ds = number_grows ds m in
    let pos : 0 < n = ⊎_elim (λ (x : 0 < n). x) (λ (x : d ∷ ds ≡ []). absurd cc) z in
    run_goes (machine (InWhole n) from to line us) d (InWhole m) (ds ++ rest) (whole_goes n d p.0 pos (omega arith))
    ∙ in_whole ds rest m from (to + len_utf8 d) line us p.1 (inl (omega arith)) b
    ∙ to_same (InWhole (number_from 10 m ds)) from _ _ line us rest (add_assoc to (len_utf8 d) (width ds))

pub whole_stops : (m : Machine) (n : ℕ) (rest : List ℕ) → m.state ≡ InWhole n → begins continues_number rest ≡ false → Stops m rest
whole_stops m n [] e h = tt
whole_stops m n (c ∷ cs) e h = rw e (whole_ends n c h)

pub positive_digit : (c : ℕ) → is_digit c 10 ≡ true → (c == 48) ≡ false → 0 < digit_value c
positive_digit c d x =
    let r : (48 ≤ c) × (c ≤ 57) = digit_range c d in
    let v : digit_value c + 48 ≡ c = digit_value_digit c r in
    ⊎_elim (λ (l : 48 < c). (let e : 0 < digit_value c = omega (arith, v) in e)) (λ (l : c ≤ 48). absurd (eqb-false c 48 x (omega arith))) (cases_lt 48 c)

pub empty_list : {A : Type 0} (xs : List A) → length xs ≡ 0 → xs ≡ []
empty_list [] z = refl
empty_list (y ∷ ys) z = absurd (omega arith)

-- a number, and what comes after it
pub whole_run : (cs rest : List ℕ) (at : ℕ) (line : Bool) → is_whole cs ≡ true → begins continues_number rest ≡ false
    → run (idle at line) (cs ++ rest) ≡ after_tokens (lexeme (whole (number_of 10 cs)) at (at + width cs) line ∷ []) (run (idle (at + width cs) false) rest)
whole_run [] rest at line h e = absurd (true≢false (sym h))
whole_run (c ∷ cs) rest at line h e =
    let p : ((list_all (λ d. is_digit d 10) (c ∷ cs) && (not (c == 48) || length cs == 0)) ≡ true) × (nat_le (number_of 10 (c ∷ cs)) 9007199254740991 ≡ true) = and_parts _ _ h in
    let q : (list_all (λ d. is_digit d 10) (c ∷ cs) ≡ true) × ((not (c == 48) || length cs == 0) ≡ true) = and_parts _ _ p.0 in
    let r : (is_digit c 10 ≡ true) × (list_all (λ d. is_digit d 10) cs ≡ true) = and_parts _ _ q.0 in
    let same : 0 * 10 + digit_value c ≡ digit_value c = zero-add (digit_value c) in
    let n : ℕ = number_of 10 (c ∷ cs) in
    let m : Machine = machine (InWhole (number_from 10 (digit_value c) cs)) at (at + len_utf8 c + width cs) line [] in
    let few : number_from 10 (digit_value c) cs ≤ 9007199254740991 = rw same at (leb-true n 9007199254740991 p.1) in
    begin_goes at line c (InWhole (digit_value c)) (cs ++ rest) (begun-digit c r.0)
    ∙ in_whole cs rest (digit_value c) at (at + len_utf8 c) line [] r.1 (leading r.0 (or_cases _ _ q.1)) few
    ∙ run_ends m (lexeme (whole (number_from 10 (digit_value c) cs)) at (at + len_utf8 c + width cs) line ∷ []) rest refl (whole_stops m (number_from 10 (digit_value c) cs) rest refl e)
    ∙ (λ i. after_tokens (lexeme (whole (number_from 10 (sym same i) cs)) at (add_assoc at (len_utf8 c) (width cs) i) line ∷ []) (run (idle (add_assoc at (len_utf8 c) (width cs) i) false) rest))
  where
    leading : is_digit c 10 ≡ true → (not (c == 48) ≡ true) ⊎ ((length cs == 0) ≡ true) → (0 < digit_value c) ⊎ (cs ≡ [])
    leading d z = ⊎_elim (λ (x : not (c == 48) ≡ true). inl (positive_digit c d (not-true _ x))) (λ (x : (length cs == 0) ≡ true). inr (empty_list cs (eqb-true _ _ x))) z
