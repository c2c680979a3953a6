-- Which characters are apart, and what each begins.
use Rattle.std.proofs.Common.{◌≡◌, ℕ, ◌<◌, ◌≤◌, Bool, true, false, ◌||◌, refl, sym, ◌∙◌, subst, inl, inr, ⊎_elim, ◌⊎◌, arith}
use Rattle.std.specs.Prelude.{◌==◌}
use Rattle.std.specs.Char.{is_digit, digit_value, is_ascii_alphabetic}
use Rattle.std.proofs.lemmas.Bool.{true≢false, or_cases, or_from, eqb-true, ne_eqb, lt-ltb, cases_lt, false_from_ne_true}
use Rattle.std.proofs.lemmas.Bool.Decides.{nat_tests}
use Rattle.unicode_ident.proofs.Computing.{unicode_ident}
use Rattle.unicode_ident.proofs.IdentLemmas.{is_xid_start-ascii}
use Rattle.mb_lexer.specs.declared.state.State.TheVariants.{Between, InName, InWhole, InText}
use Rattle.mb_lexer.specs.declared.state.Inside.TheVariants.{Plain}
use Rattle.mb_lexer.specs.declared.state.Move.TheVariants.{Goes, Adds}
use Rattle.mb_lexer.specs.Characters.{is_blank, is_line_end, starts_name, is_quote}
use Rattle.mb_lexer.specs.machine.Machine.{begun}

-- one of the two, at a numeral
pub or_elim : {P : Type 0} (a b : Bool) → (a ≡ true → P) → (b ≡ true → P) → (a || b) ≡ true → P
or_elim a b f g h = ⊎_elim f g (or_cases a b h)

pub at_numeral : (P : ℕ → Type 0) (c n : ℕ) → P n → (c == n) ≡ true → P c
at_numeral P c n p h = subst P (sym (eqb-true c n h)) p

-- white space and line ends are the ten characters
pub space_cases : (P : ℕ → Type 0) → P 9 → P 11 → P 12 → P 32 → P 0xa0 → P 0xfeff → P 10 → P 13 → P 0x2028 → P 0x2029 → (c : ℕ) → (is_blank c || is_line_end c) ≡ true → P c
space_cases P p1 p2 p3 p4 p5 p6 p7 p8 p9 p10 c =
    or_elim _ _
    (or_elim _ _ (or_elim _ _ (or_elim _ _ (or_elim _ _ (or_elim _ _ (at_numeral P c 9 p1) (at_numeral P c 11 p2)) (at_numeral P c 12 p3)) (at_numeral P c 32 p4)) (at_numeral P c 0xa0 p5)) (at_numeral P c 0xfeff p6))
    (or_elim _ _ (or_elim _ _ (or_elim _ _ (at_numeral P c 10 p7) (at_numeral P c 13 p8)) (at_numeral P c 0x2028 p9)) (at_numeral P c 0x2029 p10))

-- no white space or line end starts a name
pub space-starts_name : (c : ℕ) → (is_blank c || is_line_end c) ≡ true → starts_name c ≡ false
unfolding unicode_ident
space-starts_name = space_cases (λ c. starts_name c ≡ false) refl refl refl refl refl refl refl refl refl refl

pub starts_name-space : (c : ℕ) → starts_name c ≡ true → (is_blank c || is_line_end c) ≡ false
starts_name-space c h = false_from_ne_true _ (λ s. true≢false (sym h ∙ space-starts_name c s))

pub digit_range : (c : ℕ) → is_digit c 10 ≡ true → (48 ≤ c) × (c ≤ 57)
digit_range c h = (
  ⊎_elim (λ (l : c < 48). absurd (true≢false (sym h ∙ low l))) (λ (l : 48 ≤ c). l) (cases_lt c 48),
  ⊎_elim (λ (l : c < 58). (let e : c ≤ 57 = omega arith in e)) (λ (l : 58 ≤ c). absurd (true≢false (sym h ∙ high l))) (cases_lt c 58),
)
  where
    low : c < 48 → is_digit c 10 ≡ false
    low l = simp (lt-ltb c 48 l)

    high : 58 ≤ c → is_digit c 10 ≡ false
    high l = grind (arith, nat_tests)

-- a number that a range leaves out
pub apart : (c n : ℕ) → (c < n) ⊎ (n < c) → (c == n) ≡ false
apart c n h = ne_eqb c n (λ e. ⊎_elim (λ (l : c < n). omega arith) (λ (l : n < c). omega arith) h)

pub digit-space : (c : ℕ) → is_digit c 10 ≡ true → (is_blank c || is_line_end c) ≡ false
digit-space c h = false_from_ne_true _ (λ s. true≢false (sym h ∙ space_cases (λ d. is_digit d 10 ≡ false) refl refl refl refl refl refl refl refl refl refl c s))

pub digit-starts_name : (c : ℕ) → is_digit c 10 ≡ true → starts_name c ≡ false
digit-starts_name c h =
    let r : (48 ≤ c) × (c ≤ 57) = digit_range c h in
    or_from _ _ (or_from _ _ (apart c 36 (inr (omega arith))) (apart c 95 (inl (omega arith)))) (is_xid_start-ascii c (omega arith) ∙ letter)
  where
    letter : is_ascii_alphabetic c ≡ false
    letter = let r : (48 ≤ c) × (c ≤ 57) = digit_range c h in grind (arith, nat_tests)

-- what each character begins
pub begun-space : (c : ℕ) → (is_blank c || is_line_end c) ≡ true → begun c ≡ Goes Between
unfolding begun
begun-space c h = simp h

pub begun-name : (c : ℕ) → starts_name c ≡ true → begun c ≡ Adds InName c
unfolding begun
begun-name c h = simp (starts_name-space c h, h)

pub begun-digit : (c : ℕ) → is_digit c 10 ≡ true → begun c ≡ Goes (InWhole (digit_value c))
unfolding begun
begun-digit c h = simp (digit-space c h, digit-starts_name c h, h)

pub begun-quote : (c : ℕ) → is_quote c ≡ true → begun c ≡ Goes (InText c Plain)
unfolding begun unicode_ident
begun-quote c = or_elim _ _ (at_numeral (λ q. begun q ≡ Goes (InText q Plain)) c 34 refl) (at_numeral (λ q. begun q ≡ Goes (InText q Plain)) c 39 refl)

pub digit-quote : (c : ℕ) → is_digit c 10 ≡ true → is_quote c ≡ false
digit-quote c h =
    let r : (48 ≤ c) × (c ≤ 57) = digit_range c h in
    or_from _ _ (apart c 34 (inr (omega arith))) (apart c 39 (inr (omega arith)))
