-- The index that a key has is the one that its text spells.
use Rattle.std.proofs.Common.{◌≡◌, inl, inr, ℕ, zero, suc, ◌+◌, ◌-◌, ◌*◌, ◌^◌, ◌<◌, ◌≤◌, Bool, true, false, not, ◌&&◌, nat_eq, nat_lt, nat_le, List, [], ◌∷◌, length, Option, Some, None, if◌then◌else◌, refl, sym, ap, ◌∙◌, arith, true≢false}
use Rattle.std.proofs.lemmas.Bool.{eqb-true, eqb-false, ne_eqb, ltb-true, leb-true, leb-false, le-leb}
use Rattle.std.proofs.lemmas.Str.{digit_value_digit}
use Rattle.std.specs.Int.{IsInRange}
use Rattle.std.specs.Char.{digit_value}
use Rattle.std.specs.Str.Parse.{digits_value, digits_value_after}
use Rattle.mb_base.specs.declared.value.Key.{Key}
use Rattle.mb_base.specs.declared.value.Key.TheVariants.{Text, Symbol}
use Rattle.mb_text.specs.Index.{index_of, no_index}
use Rattle.mb_text.specs.Texts.{text_at}
use Rattle.mb_text.specs.machine.Digits.{AreDigits}
use Rattle.mb_text.proofs.Indices.{index_of-digits, no_index_by_length, no_index_by_zero, no_index_by_digits, no_index_by_number}
use Rattle.mb_world.specs.Key.{index_of_key, is_digit, digits_after, at_most, index_of_digits}
use Rattle.mb_world.specs.Key as graph
use Rattle.mb_world.specs.Data.{Data}
use Rattle.mb_world.specs.Ids.{KeyIn}
use Rattle.mb_world.specs.Image.{names_of, key_in}
use Rattle.mb_props.specs.KeyOrder.{is_array_index, index_of as index_of_own}

-- the number, or none where it stands for no index
abbrev pub index_if : ℕ → Option ℕ
index_if n = if not (nat_eq n (2 ^ 32 - 1)) then Some n else None

index_if-below : (n : ℕ) → n < 2 ^ 32 - 1 → index_if n ≡ Some n
index_if-below n h = let e : nat_eq n (2 ^ 32 - 1) ≡ false = ne_eqb n (2 ^ 32 - 1) (λ q. omega (arith, q, h)) in rw e refl

-- ---- digits

abbrev all_digits : List ℕ → Bool
all_digits [] = true
all_digits (c ∷ cs) = is_digit c && all_digits cs

and-true : (a b : Bool) → a && b ≡ true → (a ≡ true) × (b ≡ true)
and-true true true h = (refl, refl)
and-true true false h = absurd (true≢false (sym h))
and-true false b h = absurd (true≢false (sym h))

digit-range : (c : ℕ) → is_digit c ≡ true → IsInRange 48 57 c
digit-range c h = let p = and-true (nat_le 48 c) (nat_le c 57) h in (leb-true 48 c p.0, leb-true c 57 p.1)

range-digit : (c : ℕ) → IsInRange 48 57 c → is_digit c ≡ true
range-digit c h = let p : nat_le 48 c ≡ true = le-leb 48 c h.0 in let q : nat_le c 57 ≡ true = le-leb c 57 h.1 in rw (p, q) refl

are-digits : (cs : List ℕ) → all_digits cs ≡ true → AreDigits cs
are-digits [] h k l = absurd (omega arith)
are-digits (c ∷ cs) h zero l = digit-range c (and-true (is_digit c) (all_digits cs) h).0
are-digits (c ∷ cs) h (suc k) l = are-digits cs (and-true (is_digit c) (all_digits cs) h).1 k (omega arith)

digits-are : (cs : List ℕ) → AreDigits cs → all_digits cs ≡ true
digits-are [] h = refl
digits-are (c ∷ cs) h = let p : is_digit c ≡ true = range-digit c (h zero (omega arith)) in rw (p, digits-are cs (λ k l. h (suc k) (omega arith))) refl

no-digits : (cs : List ℕ) → all_digits cs ≡ false → ¬ (AreDigits cs)
no-digits cs h d = absurd (true≢false (sym (digits-are cs d) ∙ h))

after-digits : (cs : List ℕ) (n : ℕ) → all_digits cs ≡ true → digits_after n cs ≡ Some (digits_value_after 10 n cs)
after-digits [] n h = refl
after-digits (c ∷ cs) n h =
    let p = and-true (is_digit c) (all_digits cs) h in
    let e : n * 10 + (c - 48) ≡ n * 10 + digit_value c = omega (arith, digit_value_digit c (digit-range c p.0)) in
    rw p.0 (ap (λ m. digits_after m cs) e ∙ after-digits cs (n * 10 + digit_value c) p.1)

after-none : (cs : List ℕ) (n : ℕ) → all_digits cs ≡ false → digits_after n cs ≡ None
after-none [] n h = absurd (true≢false h)
after-none (c ∷ cs) n h = by (is_digit c) refl (after-none cs (n * 10 + (c - 48)))
  where
    by : (b : Bool) → is_digit c ≡ b → (all_digits cs ≡ false → digits_after (n * 10 + (c - 48)) cs ≡ None) → digits_after n (c ∷ cs) ≡ None
    by true e r = let f : is_digit c && all_digits cs ≡ false = h in rw e (r (rw e at f))
    by false e r = rw e refl

-- ---- the two definitions of an index agree

one-digit : (c : ℕ) → graph.index_of (c ∷ []) ≡ index_if (index_of (c ∷ []))
one-digit c = by (all_digits (c ∷ [])) refl
  where
    by : (b : Bool) → all_digits (c ∷ []) ≡ b → graph.index_of (c ∷ []) ≡ index_if (index_of (c ∷ []))
    by true e =
        let d : AreDigits (c ∷ []) = are-digits (c ∷ []) e in
        let r : IsInRange 48 57 c = d zero (omega arith) in
        let small : digits_value 10 (c ∷ []) < no_index = omega (arith, digit_value_digit c r, r.1) in
        let is : index_of (c ∷ []) ≡ digits_value 10 (c ∷ []) = index_of-digits (c ∷ []) d (omega arith) (λ _. refl) small in
        after-digits (c ∷ []) 0 e ∙ sym (index_if-below (digits_value 10 (c ∷ [])) small) ∙ ap index_if (sym is)
    by false e =
        let is : index_of (c ∷ []) ≡ no_index = no_index_by_digits (c ∷ []) (no-digits (c ∷ []) e) in
        after-none (c ∷ []) 0 e ∙ ap index_if (sym is)

module _ (c d : ℕ) (cs : List ℕ) where
  abbrev t : List ℕ
  t = c ∷ d ∷ cs

  by-number : (h : nat_eq c 48 ≡ false) (e : all_digits t ≡ true) (b : Bool) → nat_le (digits_value 10 t) 4294967294 ≡ b → at_most 4294967294 (Some (digits_value 10 t)) ≡ index_if (index_of t)
  by-number h e true q =
      let small : digits_value 10 t < no_index = let l : digits_value 10 t ≤ 4294967294 = leb-true _ _ q in omega (arith, l) in
      let is : index_of t ≡ digits_value 10 t = index_of-digits t (are-digits t e) (omega arith) (λ z. absurd (eqb-false c 48 h z)) small in
      rw q (sym (index_if-below (digits_value 10 t) small) ∙ ap index_if (sym is))
  by-number h e false q =
      let high : no_index ≤ digits_value 10 t = let l : 4294967294 < digits_value 10 t = leb-false _ _ q in omega (arith, l) in
      rw q (ap index_if (sym (no_index_by_number t high)))

  by-digits : (h : nat_eq c 48 ≡ false) (b : Bool) → all_digits t ≡ b → at_most 4294967294 (digits_after 0 t) ≡ index_if (index_of t)
  by-digits h true e = ap (at_most 4294967294) (after-digits t 0 e) ∙ by-number h e (nat_le (digits_value 10 t) 4294967294) refl
  by-digits h false e = ap (at_most 4294967294) (after-none t 0 e) ∙ ap index_if (sym (no_index_by_digits t (no-digits t e)))

  by-length : (h : nat_eq c 48 ≡ false) (b : Bool) → nat_lt 10 (length t) ≡ b → (if b then None else at_most 4294967294 (digits_after 0 t)) ≡ index_if (index_of t)
  by-length h true e = ap index_if (sym (no_index_by_length t (inr (ltb-true 10 (length t) e))))
  by-length h false e = by-digits h (all_digits t) refl

  by-zero : (b : Bool) → nat_eq c 48 ≡ b → index_of_digits t c ≡ index_if (index_of t)
  by-zero true e = rw e (ap index_if (sym (no_index_by_zero t (eqb-true c 48 e) (omega arith))))
  by-zero false e = rw e (by-length e (nat_lt 10 (length t)) refl)

pub spelled : (t : List ℕ) → graph.index_of t ≡ index_if (index_of t)
spelled [] = ap index_if (sym (no_index_by_length [] (inl refl)))
spelled (c ∷ []) = one-digit c
spelled (c ∷ d ∷ cs) = by-zero c d cs (nat_eq c 48) refl

-- the index of a key, if it is an array index
abbrev pub index_in : Key → Option ℕ
index_in k = if is_array_index k then Some (index_of_own k) else None

-- so a key of a world has the index that the key has that it stands for
pub key-index : (d : Data) (k : Key) → KeyIn d k → index_of_key (key_in (names_of d) k) ≡ index_in k
key-index d (Text text index) h = spelled (text_at d.texts text) ∙ ap index_if (sym h.1)
key-index d (Symbol symbol) h = refl
