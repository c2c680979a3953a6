-- When a text spells an array index, and when it doesn't.
use Rattle.std.proofs.Common.{◌≡◌, ◌≢◌, ◌⊎◌, ℕ, zero, suc, ◌+◌, ◌*◌, ◌^◌, ◌<◌, ◌≤◌, Bool, true, false, ◌&&◌, nat_lt, List, length, take, get_or, min, if◌then◌else◌, decimal, refl, sym, ap, ◌∙◌, subst, arith}
use Rattle.std.proofs.lemmas.Bool.Decides.{nat_tests}
use Rattle.std.proofs.lemmas.Fmt.{digits_decimal, decimal_nonempty, length-decimal-le, first_decimal, decimal_digit, decimal-digits_value, digits_value-decimal}
use Rattle.std.proofs.lemmas.List.{get_or-take, length-take}
use Rattle.std.proofs.lemmas.Int.Digits.{digits_value_more}
use Rattle.std.proofs.lemmas.Str.{digit_value_digit}
use Rattle.std.proofs.lemmas.Str.Parse.{IsNumeralModel, numerals_by_value, tells_by_index, digits_value_short}
use Rattle.std.specs.Cmp.Lexicographic.{bytes_decides}
use borrow.Author.Tests.{ltb-true, ltb-false}
use Rattle.std.specs.Int.{IsInRange}
use Rattle.std.specs.Str.{bytes_eq as same_text}
use Rattle.std.specs.Str.Parse.{digits_value}
use Rattle.mb_text.specs.Index.{index_of, no_index}
use Rattle.mb_text.specs.machine.Digits.{AreDigits}

own : IsNumeralModel AreDigits (digits_value 10)
own = numerals_by_value AreDigits tells_by_index

-- the two ways of the definition
there : (n : ℕ) (text : List ℕ) → n < no_index → decimal n ≡ text → (nat_lt n no_index && same_text (decimal n) text) ≡ true
there n text small is = grind (arith, nat_tests, (bytes_decides (decimal n) text).1 is, small)

by_number : (n : ℕ) (text : List ℕ) → (n < no_index → decimal n ≢ text) → (nat_lt n no_index && same_text (decimal n) text) ≡ false
by_number n text not = by (nat_lt n no_index) (same_text (decimal n) text) refl refl
  where
    by : (small same : Bool) → nat_lt n no_index ≡ small → same_text (decimal n) text ≡ same → (small && same) ≡ false
    by false same e f = refl
    by true false e f = refl
    by true true e f = absurd (not (ltb-true n no_index e) ((bytes_decides (decimal n) text).0 f))

pub index_of-none : (text : List ℕ) → ((n : ℕ) → n < no_index → decimal n ≢ text) → index_of text ≡ no_index
unfolding index_of
index_of-none text not =
    let n = digits_value 10 text in
    ap (λ b. if b then n else no_index) (by_number n text (not n))

pub index_of-number : (text : List ℕ) → digits_value 10 text < no_index → decimal (digits_value 10 text) ≡ text → index_of text ≡ digits_value 10 text
unfolding index_of
index_of-number text small is =
    let n = digits_value 10 text in
    ap (λ b. if b then n else no_index) (there n text small is)

-- no number's text is empty or has more than ten digits
pub no_index_by_length : (text : List ℕ) → (length text ≡ 0) ⊎ (10 < length text) → index_of text ≡ no_index
no_index_by_length text long = index_of-none text (λ n small is.
    omega (arith, ap length is, decimal_nonempty n (omega arith), length-decimal-le 10 n (omega arith) (omega arith) (omega arith), long))

-- the decimal text that begins with a zero is `0`
zero_alone : (n : ℕ) → n < no_index → get_or (decimal n) 0 0 ≡ 48 → length (decimal n) ≡ 1
zero_alone zero small zero_first = ap length (decimal_digit 0 (omega arith))
zero_alone (suc k) small zero_first = absurd (omega (arith, first_decimal (suc k) (omega arith) (omega arith), zero_first))

-- none has a zero before its digits
pub no_index_by_zero : (text : List ℕ) → get_or text 0 0 ≡ 48 → 1 < length text → index_of text ≡ no_index
no_index_by_zero text first more = index_of-none text (λ n small is.
    omega (arith, more, ap length is, zero_alone n small (ap (λ t. get_or t 0 0) is ∙ first)))

-- and each is of digits
pub no_index_by_digits : (text : List ℕ) → ¬ (AreDigits text) → index_of text ≡ no_index
no_index_by_digits text other = index_of-none text (λ n small is. other (subst AreDigits is (digits_decimal own n (omega arith))))

-- digits with no zero before them are the decimal text of their number
pub index_of-digits : (text : List ℕ) → AreDigits text → 0 < length text → (get_or text 0 0 ≡ 48 → length text ≡ 1) → digits_value 10 text < no_index → index_of text ≡ digits_value 10 text
index_of-digits text digits some first small =
    index_of-number text small (decimal-digits_value own text digits some first (omega arith))

-- too high a number is no index
pub no_index_by_number : (text : List ℕ) → no_index ≤ digits_value 10 text → index_of text ≡ no_index
unfolding index_of
no_index_by_number text high =
    let n = digits_value 10 text in
    ap (λ b. if b then n else no_index) (by_number n text (λ small. absurd (omega arith)))

-- the first i units are digits, so their number has at most ten
pub first_digits : (text : List ℕ) (i : ℕ) → ((k : ℕ) → k < i → IsInRange 48 57 (get_or text k 0)) → AreDigits (take i text)
first_digits text i digits k h =
    let small : k < i = omega (arith, length-take i text, h) in
    subst (IsInRange 48 57) (sym (get_or-take i text k 0 small)) (digits k small)

pub small_number : (text : List ℕ) (i : ℕ) → length text ≤ 10 → ((k : ℕ) → k < i → IsInRange 48 57 (get_or text k 0)) → digits_value 10 (take i text) < 10 ^ 10
small_number text i short digits = digits_value_short own (take i text) 10 (first_digits text i digits) (omega (arith, length-take i text))

-- one digit more
pub next_number : (text : List ℕ) (i d : ℕ) → i < length text → IsInRange 48 57 (get_or text i 0) → d + 48 ≡ get_or text i 0 → 10 * digits_value 10 (take i text) + d ≡ digits_value 10 (take (i + 1) text)
next_number text i d within digit is = omega (arith, digits_value_more 10 text i within, digit_value_digit (get_or text i 0) digit)

-- digits with no zero before them: their number, where that is an index
pub index_of-min : (text : List ℕ) → AreDigits text → 0 < length text → (get_or text 0 0 ≡ 48 → length text ≡ 1) → min (digits_value 10 text) no_index ≡ index_of text
index_of-min text digits some first = by (nat_lt (digits_value 10 text) no_index) refl
  where
    by : (b : Bool) → nat_lt (digits_value 10 text) no_index ≡ b → min (digits_value 10 text) no_index ≡ index_of text
    by true e =
        let small : digits_value 10 text < no_index = ltb-true _ _ e in
        let is = index_of-digits text digits some first small in
        omega (arith, is, small)
    by false e =
        let high : no_index ≤ digits_value 10 text = ltb-false _ _ e in
        omega (arith, no_index_by_number text high, high)

-- the laws of the definition
pub index_of-decimal : (n : ℕ) → n < no_index → index_of (decimal n) ≡ n
index_of-decimal n small =
    let value = digits_value-decimal own n (omega arith) in
    index_of-number (decimal n) (rw value small) (ap decimal value) ∙ value

pub decimal-index_of : (text : List ℕ) → index_of text < no_index → decimal (index_of text) ≡ text
unfolding index_of
decimal-index_of text = by (nat_lt (digits_value 10 text) no_index) (same_text (decimal (digits_value 10 text)) text) refl
  where
    by : (small same : Bool) → same_text (decimal (digits_value 10 text)) text ≡ same
        → (if small && same then digits_value 10 text else no_index) < no_index → decimal (if small && same then digits_value 10 text else no_index) ≡ text
    by true true is h = (bytes_decides (decimal (digits_value 10 text)) text).0 is
    by true false is h = absurd (omega arith)
    by false same is h = absurd (omega arith)

pub index_of-le : (text : List ℕ) → index_of text ≤ no_index
unfolding index_of
index_of-le text = by (nat_lt (digits_value 10 text) no_index) (same_text (decimal (digits_value 10 text)) text) refl
  where
    by : (small same : Bool) → nat_lt (digits_value 10 text) no_index ≡ small → (if small && same then digits_value 10 text else no_index) ≤ no_index
    by true true is = let below : digits_value 10 text < no_index = ltb-true _ _ is in omega arith
    by true false is = omega arith
    by false same is = omega arith
