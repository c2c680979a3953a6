-- The machine is right about names and numbers.
use Rattle.std.proofs.Common.{◌≡◌, ℕ, ◌+◌, ◌*◌, ◌<◌, ◌≤◌, Bool, true, false, not, ◌&&◌, ◌||◌, List, [], ◌∷◌, ◌++◌, length, nat_lt, nat_le, Option, Some, None, refl, sym, ap, ◌∙◌, arith, inl, inr, ⊎_elim, ◌⊎◌}
use Rattle.std.specs.Prelude.{◌==◌}
use Rattle.std.specs.List.{list_all}
use Rattle.std.specs.Char.{is_digit, digit_value}
use Rattle.std.specs.Char.Escape.{encode_utf16}
use Rattle.std.proofs.lemmas.Bool.{true≢false, cases_Bool, and_from, and_parts, or_parts, or_from, or_cases, or_left, eqb-true, not_from_false, ltb-true, leb-true, le-leb}
use Rattle.std.proofs.lemmas.List.{append-nil}
use Rattle.std.proofs.lemmas.List.Concat.{flat_map-append}
use Rattle.mb_token.specs.declared.word.Word.{Word}
use Rattle.mb_token.specs.declared.word.Soft.{Soft}
use Rattle.mb_token.specs.Words.{word_of, soft_of}
use Rattle.mb_lexer.specs.declared.state.State.TheVariants.{InName, InWhole}
use Rattle.mb_lexer.specs.declared.state.Move.TheVariants.{Fails}
use Rattle.mb_lexer.specs.Characters.{starts_name, continues_name, continues_number, begins}
use Rattle.mb_lexer.specs.Strings.{number_from, number_of}
use Rattle.mb_lexer.specs.Tokens.{whole, IsToken, IsName, named, word_or_name, soft_or_name, units_of, is_name, is_whole}
use Rattle.mb_lexer.specs.Reading.{number as number_kind, fault, kind_of}
use Rattle.mb_lexer.specs.machine.Machine.{Machine, idle, move_of, fault_kind, run, whole_move}
use Rattle.mb_lexer.proofs.Steps.{machine}
use Rattle.mb_lexer.proofs.Words.{name_stops, whole_stops, whole_goes, empty_list}
use Rattle.mb_lexer.proofs.Open.{Told, IsOpen, IsRight, goes_on, adds_on}
use Rattle.mb_lexer.proofs.Telling.{token_ends, fault_here}

named_soft : (us cs rest : List ℕ) (w : Option Word) (s : Option Soft) → word_of us ≡ None → soft_of us ≡ s → IsName us cs rest → IsToken (soft_or_name s us) cs rest
named_soft us cs rest w (Some s) e f n = (n, ap (λ o. word_or_name o us) e ∙ ap (λ o. soft_or_name o us) f)
named_soft us cs rest w None e f n = (n, ap (λ o. word_or_name o us) e ∙ ap (λ o. soft_or_name o us) f)

named_word : (us cs rest : List ℕ) (w : Option Word) → word_of us ≡ w → IsName us cs rest → IsToken (word_or_name w us) cs rest
named_word us cs rest (Some w) e n = (n, ap (λ o. word_or_name o us) e)
named_word us cs rest None e n = named_soft us cs rest None (soft_of us) e refl n

-- what a name is, it is as a token
pub named_token : (us cs rest : List ℕ) → IsName us cs rest → IsToken (named us) cs rest
named_token us cs rest n = named_word us cs rest (word_of us) refl n

pub name_ends : (from to : ℕ) (line : Bool) (us : List ℕ) (before : Bool) (seen rest : List ℕ) → IsOpen (machine InName from to line us) before seen → begins continues_name rest ≡ false
    → Told to false rest (run (idle to false) rest) → Told from before (seen ++ rest) (run (machine InName from to line us) rest)
name_ends from to line us before seen rest o b g =
    token_ends (machine InName from to line us) before seen rest (named us) o
    (named_token us seen rest (record { form = o.means.1; units = o.means.0; ends = b })) o.means.2 refl (name_stops (machine InName from to line us) rest refl b) g

pub list_all-push : (p : ℕ → Bool) (xs : List ℕ) (c : ℕ) → list_all p xs ≡ true → p c ≡ true → list_all p (xs ++ c ∷ []) ≡ true
list_all-push p [] c h e = and_from _ _ e refl
list_all-push p (x ∷ xs) c h e = let q : (p x ≡ true) × (list_all p xs ≡ true) = and_parts _ _ h in and_from _ _ q.0 (list_all-push p xs c q.1 e)

name_push : (seen : List ℕ) (c : ℕ) → is_name seen ≡ true → continues_name c ≡ true → is_name (seen ++ c ∷ []) ≡ true
name_push [] c h e = absurd (true≢false (sym h))
name_push (x ∷ xs) c h e = let q : (starts_name x ≡ true) × (list_all continues_name xs ≡ true) = and_parts _ _ h in and_from _ _ q.0 (list_all-push continues_name xs c q.1 e)

pub units-push : (seen : List ℕ) (c : ℕ) → units_of (seen ++ c ∷ []) ≡ units_of seen ++ encode_utf16 c
units-push seen c = flat_map-append encode_utf16 seen (c ∷ []) ∙ ap (λ xs. units_of seen ++ xs) (append-nil (encode_utf16 c))

pub name_step : (c : ℕ) (cs : List ℕ) (from to : ℕ) (line : Bool) (us : List ℕ) (before : Bool) (seen : List ℕ) → IsRight cs → ((at : ℕ) (line : Bool) → Told at line (c ∷ cs) (run (idle at line) (c ∷ cs)))
    → IsOpen (machine InName from to line us) before seen → Told from before (seen ++ c ∷ cs) (run (machine InName from to line us) (c ∷ cs))
name_step c cs from to line us before seen right again o =
    ⊎_elim
    (λ (y : continues_name c ≡ true). adds_on (machine InName from to line us) before seen c c InName cs right o (simp y)
    (ap (λ xs. xs ++ encode_utf16 c) o.means.0 ∙ sym (units-push seen c), name_push seen c o.means.1 y, o.means.2))
    (λ (n : continues_name c ≡ false). name_ends from to line us before seen (c ∷ cs) o n (again to false))
    (cases_Bool (continues_name c))

pub whole_done : (n from to : ℕ) (line : Bool) (us : List ℕ) (before : Bool) (seen rest : List ℕ) → IsOpen (machine (InWhole n) from to line us) before seen → begins continues_number rest ≡ false
    → Told to false rest (run (idle to false) rest) → Told from before (seen ++ rest) (run (machine (InWhole n) from to line us) rest)
whole_done n from to line us before seen rest o b g =
    token_ends (machine (InWhole n) from to line us) before seen rest (whole n) o (o.means.0, o.means.1, b) o.means.2 refl (whole_stops (machine (InWhole n) from to line us) n rest refl b) g

pub number_push : (base n : ℕ) (ds : List ℕ) (c : ℕ) → number_from base n (ds ++ c ∷ []) ≡ number_from base n ds * base + digit_value c
number_push base n [] c = refl
number_push base n (d ∷ ds) c = number_push base (n * base + digit_value d) ds c

-- the parts of a whole number
abbrev pub Whole : List ℕ → Type 0
Whole [] = ⊥
Whole (x ∷ xs) = (is_digit x 10 ≡ true) × (list_all (λ d. is_digit d 10) xs ≡ true) × ((not (x == 48) ≡ true) ⊎ (xs ≡ []))

pub Whole-from : (seen : List ℕ) → is_whole seen ≡ true → Whole seen
Whole-from [] h = absurd (true≢false (sym h))
Whole-from (x ∷ xs) h =
    let p : ((list_all (λ d. is_digit d 10) (x ∷ xs) && (not (x == 48) || length xs == 0)) ≡ true) × (nat_le (number_of 10 (x ∷ xs)) 9007199254740991 ≡ true) = and_parts _ _ h in
    let q : (list_all (λ d. is_digit d 10) (x ∷ xs) ≡ true) × ((not (x == 48) || length xs == 0) ≡ true) = and_parts _ _ p.0 in
    let r : (is_digit x 10 ≡ true) × (list_all (λ d. is_digit d 10) xs ≡ true) = and_parts _ _ q.0 in
    (r.0, r.1, ⊎_elim (λ (a : not (x == 48) ≡ true). inl a) (λ (b : (length xs == 0) ≡ true). inr (empty_list xs (eqb-true _ _ b))) (or_cases _ _ q.1))

whole_push : (seen : List ℕ) (c n : ℕ) → Whole seen → n ≡ number_of 10 seen → 0 < n → is_digit c 10 ≡ true → n * 10 + digit_value c ≤ 9007199254740991 → is_whole (seen ++ c ∷ []) ≡ true
whole_push [] c n h e z d l = absurd h
whole_push (x ∷ xs) c n h e z d l =
    let m : number_of 10 ((x ∷ xs) ++ c ∷ []) ≡ n * 10 + digit_value c = number_push 10 0 (x ∷ xs) c ∙ ap (λ k. k * 10 + digit_value c) (sym e) in
    let lim : number_of 10 ((x ∷ xs) ++ c ∷ []) ≤ 9007199254740991 = omega arith in
    and_from _ _ (and_from _ _ (and_from _ _ h.0 (list_all-push (λ d. is_digit d 10) xs c h.1 d)) (or_left _ _ (⊎_elim (λ (a : not (x == 48) ≡ true). a) (λ (b : xs ≡ []). not_from_false _ (first b)) h.2))) (le-leb (number_of 10 ((x ∷ xs) ++ c ∷ [])) 9007199254740991 lim)
  where
    first : xs ≡ [] → (x == 48) ≡ false
    first b = ⊎_elim (λ (y : (x == 48) ≡ true). absurd (zero_first b (eqb-true x 48 y))) (λ (y : (x == 48) ≡ false). y) (cases_Bool (x == 48))
      where
        zero_first : xs ≡ [] → x ≡ 48 → ⊥
        zero_first b y = let k : n ≡ 0 = e ∙ (λ i. number_of 10 (y i ∷ b i)) in omega arith

first_digit : (seen : List ℕ) → Whole seen → (x : ℕ) × (xs : List ℕ) × (seen ≡ x ∷ xs) × (number_kind ≡ kind_of x)
first_digit [] h = absurd h
first_digit (x ∷ xs) h = (x, xs, refl, simp (h.0))

pub run_fails : (m : Machine) (c : ℕ) (cs : List ℕ) → move_of m.state c ≡ Fails → run m (c ∷ cs) ≡ record { tokens = []; stop = fault (fault_kind m.state) m.from }
run_fails m c cs h = rw h refl

whole_fails_digit : (n c : ℕ) → is_digit c 10 ≡ true → (nat_lt 0 n && nat_le (n * 10 + digit_value c) 9007199254740991) ≡ false → move_of (InWhole n) c ≡ Fails
unfolding whole_move
whole_fails_digit n c h e = simp (h, e)

whole_fails : (n c : ℕ) → is_digit c 10 ≡ false → (c == 46 || continues_name c) ≡ true → move_of (InWhole n) c ≡ Fails
unfolding whole_move
whole_fails n c h e = simp (h, e)

pub whole_step : (c : ℕ) (cs : List ℕ) (n from to : ℕ) (line : Bool) (us : List ℕ) (before : Bool) (seen : List ℕ) → IsRight cs → ((at : ℕ) (line : Bool) → Told at line (c ∷ cs) (run (idle at line) (c ∷ cs)))
    → IsOpen (machine (InWhole n) from to line us) before seen → Told from before (seen ++ c ∷ cs) (run (machine (InWhole n) from to line us) (c ∷ cs))
whole_step c cs n from to line us before seen right again o =
    ⊎_elim
    (λ (d : is_digit c 10 ≡ true). ⊎_elim (λ (g : (nat_lt 0 n && nat_le (n * 10 + digit_value c) 9007199254740991) ≡ true). grows d (and_parts _ _ g)) (λ (g : (nat_lt 0 n && nat_le (n * 10 + digit_value c) 9007199254740991) ≡ false). fails (whole_fails_digit n c d g)) (cases_Bool _))
    (λ (d : is_digit c 10 ≡ false). ⊎_elim (λ (g : (c == 46 || continues_name c) ≡ true). fails (whole_fails n c d g)) (λ (g : (c == 46 || continues_name c) ≡ false). whole_done n from to line us before seen (c ∷ cs) o (both d (or_parts _ _ g)) (again to false)) (cases_Bool _))
    (cases_Bool (is_digit c 10))
  where
    both : is_digit c 10 ≡ false → ((c == 46) ≡ false) × (continues_name c ≡ false) → continues_number c ≡ false
    both d p = or_from _ _ (or_from _ _ d p.0) p.1

    grows : is_digit c 10 ≡ true → (nat_lt 0 n ≡ true) × (nat_le (n * 10 + digit_value c) 9007199254740991 ≡ true) → Told from before (seen ++ c ∷ cs) (run (machine (InWhole n) from to line us) (c ∷ cs))
    grows d p =
        let z : 0 < n = ltb-true 0 n p.0 in
        let l : n * 10 + digit_value c ≤ 9007199254740991 = leb-true _ _ p.1 in
        goes_on (machine (InWhole n) from to line us) before seen c (InWhole (n * 10 + digit_value c)) cs right o (whole_goes n c d z l)
        (whole_push seen c n (Whole-from seen o.means.0) o.means.1 z d l, ap (λ k. k * 10 + digit_value c) o.means.1 ∙ sym (number_push 10 0 seen c), o.means.2)

    fails : move_of (InWhole n) c ≡ Fails → Told from before (seen ++ c ∷ cs) (run (machine (InWhole n) from to line us) (c ∷ cs))
    fails h =
        let r : (x : ℕ) × (xs : List ℕ) × (seen ≡ x ∷ xs) × (number_kind ≡ kind_of x) = first_digit seen (Whole-from seen o.means.0) in
        fault_here (machine (InWhole n) from to line us) before seen (c ∷ cs) number_kind r.0 r.1 o r.2 (run_fails (machine (InWhole n) from to line us) c cs h) r.3
