-- Digits and the whole numbers that they write.
use Rattle.std.proofs.Common.{◌≡◌, ℕ, ◌≤◌, ◌<◌, ◌^◌, true, List, [], ◌∷◌, ◌++◌, zero, suc, length, take, drop, get_or, arith, refl, sym, ap, subst, ◌∙◌, true≢false, w64, lit<}
use Rattle.std.specs.Prelude.{Result, Ok, Err, ℤ, IsNone}
use Rattle.std.specs.Result.{result_ok}
use Rattle.std.specs.Char.{is_ascii_digit}
use Rattle.std.specs.Fmt.{decimal}
use Rattle.std.specs.List.{list_all, prefix_len}
use Rattle.std.specs.Str.{IsUtf8}
use Rattle.std.specs.Str.Parse.{digits_value, ParsesSigned}
use Rattle.std.proofs.lemmas.Fmt.{decimal_digit, decimal_nonempty, digits_decimal, digits_value-decimal, first_decimal, decimal-digits_value, IsAscii-from_digits}
use Rattle.std.proofs.lemmas.List.{take-append-drop}
use Rattle.std.proofs.lemmas.Str.{IsUtf8-from_ascii}
use Rattle.std.proofs.lemmas.Str.Parse.{parse_signed_digits}
use Rattle.mb_cli.specs.first_form.Lexemes.{whole, largest, begins_with_digit, IsAtFront}
use Rattle.mb_cli.proofs.first_form.Runs.{front_passes, rest_stops}
use Rattle.mb_cli.proofs.first_form.Steps.{own_digits, begins, run_unique}

-- digits are text
pub IsUtf8-digits : (ds : List ℕ) → list_all is_ascii_digit ds ≡ true → IsUtf8 ds
IsUtf8-digits ds all = IsUtf8-from_ascii ds (IsAscii-from_digits ds (own_digits.to ds all))

-- digits that `parse` refuses write too great a number
pub refused_is_large : {E : Type 0} (ds : List ℕ) (r : Result ℤ E) → ParsesSigned w64 10 ds r → list_all is_ascii_digit ds ≡ true → 0 < length ds
    → IsNone (result_ok r) → 2 ^ 63 ≤ digits_value 10 ds
refused_is_large ds (Ok z) h all some none = absurd (true≢false none)
refused_is_large ds (Err e) h all some none = large (digits_value 10 ds) (λ small. parse_signed_digits own_digits w64 ds (Err e) h all (some, small))
  where
    large : (v : ℕ) → (v < 2 ^ 63 → ⊥) → 2 ^ 63 ≤ v
    large v over = omega (arith, over)

-- digits without a leading zero are what is written of the number that they write
pub written : (ds : List ℕ) → list_all is_ascii_digit ds ≡ true → 0 < length ds → (get_or ds 0 0 ≡ 48 → length ds ≡ 1) → digits_value 10 ds ≤ largest
    → decimal (digits_value 10 ds) ≡ ds
written ds all some lead small = decimal-digits_value own_digits ds all some lead (omega arith)

-- and back
pub value-decimal : (n : ℕ) (ds : List ℕ) → n ≤ largest → decimal n ≡ ds → digits_value 10 ds ≡ n
value-decimal n ds small e = ap (digits_value 10) (sym e) ∙ digits_value-decimal own_digits n (omega arith)

-- what is written of a number has no leading zero
pub no_leading_zero : (n : ℕ) (ds : List ℕ) → n ≤ largest → decimal n ≡ ds → get_or ds 0 0 ≡ 48 → 1 < length ds → ⊥
no_leading_zero zero ds small e lead long = omega (arith, ap length (sym (decimal_digit 0 (lit< tt)) ∙ e))
no_leading_zero (suc n) ds small e lead long = omega (arith, first_decimal (suc n) (omega arith) (omega arith), ap (λ xs. get_or xs 0 0) e)

pub some_digits : (n : ℕ) (ds : List ℕ) → n ≤ largest → decimal n ≡ ds → 0 < length ds
some_digits n ds small e = omega (arith, decimal_nonempty n (omega arith), ap length e)

digits_stop : (bs : List ℕ) → begins_with_digit bs ≡ begins is_ascii_digit bs
digits_stop [] = refl
digits_stop (b ∷ bs) = refl

-- where digits are the longest run of digits, the number that is written like them stands
pub stands_whole : (n : ℕ) (bytes : List ℕ) → n ≤ largest → decimal n ≡ take (prefix_len is_ascii_digit bytes) bytes
    → IsAtFront (whole n) bytes (drop (prefix_len is_ascii_digit bytes) bytes)
stands_whole n bytes small e =
    let k = prefix_len is_ascii_digit bytes in
    (sym (take-append-drop k bytes) ∙ ap (λ ds. ds ++ drop k bytes) (sym e), small, digits_stop (drop k bytes) ∙ rest_stops is_ascii_digit bytes)

-- and it is the only one
pub whole_stands : (n : ℕ) (bytes rest : List ℕ) → IsAtFront (whole n) bytes rest → decimal n ≡ take (prefix_len is_ascii_digit bytes) bytes
whole_stands n bytes rest s =
    let k = prefix_len is_ascii_digit bytes in
    let small : n ≤ largest = s.1 in
    (run_unique is_ascii_digit (decimal n) (take k bytes) rest (drop k bytes) (digits_decimal own_digits n (omega arith)) (front_passes is_ascii_digit bytes)
    (sym (digits_stop rest) ∙ s.2) (rest_stops is_ascii_digit bytes) (sym s.0 ∙ sym (take-append-drop k bytes))).0

-- the same of a text of these digits
pub in_text : {E : Type 0} (ds text : List ℕ) (r : Result ℤ E) → text ≡ ds → ParsesSigned w64 10 text r → list_all is_ascii_digit ds ≡ true → 0 < length ds
    → IsNone (result_ok r) → 2 ^ 63 ≤ digits_value 10 ds
in_text {E} ds text r e h all some none = refused_is_large ds r (subst (λ t. ParsesSigned w64 10 t r) e h) all some none
