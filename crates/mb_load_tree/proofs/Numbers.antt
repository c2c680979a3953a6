-- The decimal digits of a whole number are its token.
use Rattle.std.proofs.Common.{◌≡◌, ℕ, ◌+◌, ◌≤◌, ◌<◌, Bool, true, false, ◌&&◌, ◌||◌, List, [], ◌∷◌, zero, suc, get_or, length, refl, sym, ap, ap₂, ◌∙◌, arith, lit<, rules}
use Rattle.std.specs.Prelude.{◌*◌, ◌==◌, nat_le, not}
use Rattle.std.specs.List.{list_all}
use Rattle.std.specs.Char.{is_digit, is_ascii_digit, digit_value}
use Rattle.std.specs.Fmt.{decimal}
use Rattle.std.specs.Str.Parse.{digits_value, digits_value_after, AllDigits}
use Rattle.std.proofs.lemmas.Fmt.{decimal_digit, decimal_nonempty, digits_decimal, digits_value-decimal, first_decimal}
use Rattle.std.proofs.lemmas.Str.Parse.{IsDigitsTest, IsNumeralModel, numerals_by_value}
use Rattle.std.proofs.lemmas.Bool.{lt-ltb, le-leb, eqb-true}
use Rattle.std.proofs.lemmas.Bool.Decides.{nat_tests}
use Rattle.mb_lexer.specs.Characters.{continues_number, begins}
use Rattle.mb_lexer.specs.Strings.{number_of, number_from}
use Rattle.mb_lexer.specs.Tokens.{is_whole, IsToken}
use Rattle.mb_lexer.specs.Tokens as tokens

tells_digits : IsDigitsTest (λ ds. list_all is_ascii_digit ds ≡ true)
tells_digits = search rules

pub own_digits : IsNumeralModel (λ ds. list_all is_ascii_digit ds ≡ true) (digits_value 10)
own_digits = numerals_by_value (λ ds. list_all is_ascii_digit ds ≡ true) tells_digits

no_leading_zero : (n : ℕ) (ds : List ℕ) → n ≤ 5000 → decimal n ≡ ds → get_or ds 0 0 ≡ 48 → 1 < length ds → ⊥
no_leading_zero zero ds small e lead long = omega (arith, ap length (sym (decimal_digit 0 (lit< tt)) ∙ e))
no_leading_zero (suc n) ds small e lead long = omega (arith, first_decimal (suc n) (omega arith) (omega arith), ap (λ xs. get_or xs 0 0) e)

some_digits : (n : ℕ) (ds : List ℕ) → n ≤ 5000 → decimal n ≡ ds → 0 < length ds
some_digits n ds small e = omega (arith, decimal_nonempty n (omega arith), ap length e)

same_value : (n : ℕ) (ds : List ℕ) → number_from 10 n ds ≡ digits_value_after 10 n ds
same_value n [] = refl
same_value n (d ∷ ds) = same_value (n * 10 + digit_value d) ds

digits_pass : (ds : List ℕ) → AllDigits 10 ds → list_all (λ d. is_digit d 10) ds ≡ true
digits_pass [] all = refl
digits_pass (d ∷ ds) all = ap₂ (λ p q. p && q) (lt-ltb (digit_value d) 10 all.0) (digits_pass ds all.1)

whole_form : (n : ℕ) (ds : List ℕ) → n ≤ 5000 → decimal n ≡ ds → list_all is_ascii_digit ds ≡ true → digits_value 10 ds ≡ n → is_whole ds ≡ true
whole_form n [] small is all value = let some : 0 < length {A = ℕ} [] = some_digits n [] small is in absurd (omega arith)
whole_form n (d ∷ ds) small is all value =
    let value_is : number_of 10 (d ∷ ds) ≡ n = same_value 0 (d ∷ ds) ∙ value in
    let small_value : nat_le (number_of 10 (d ∷ ds)) 9007199254740991 ≡ true = le-leb (number_of 10 (d ∷ ds)) 9007199254740991 (omega (arith, value_is)) in
    ap₂ (λ p q. p && q) (ap₂ (λ p q. p && q) (digits_pass (d ∷ ds) (own_digits.to (d ∷ ds) all)) lead) small_value
  where
    lead : (not (d == 48) || length ds == 0) ≡ true
    lead = by (d == 48) (length ds == 0) refl refl
      where
        by : (p q : Bool) → (d == 48) ≡ p → (length ds == 0) ≡ q → (not p || q) ≡ true
        by false q e f = refl
        by true true e f = refl
        by true false e f =
            let zero_first : d ≡ 48 = eqb-true d 48 e in
            let more : 1 < length (d ∷ ds) = grind (arith, nat_tests, f) in
            absurd (no_leading_zero n (d ∷ ds) small is zero_first more)

pub whole_token : (n : ℕ) (rest : List ℕ) → n ≤ 5000 → begins continues_number rest ≡ false → IsToken (tokens.whole n) (decimal n) rest
whole_token n rest small ends =
    let digits = digits_decimal own_digits n (omega arith) in
    let value : digits_value 10 (decimal n) ≡ n = digits_value-decimal own_digits n (omega arith) in
    (whole_form n (decimal n) small refl digits value, sym (same_value 0 (decimal n) ∙ value), ends)
