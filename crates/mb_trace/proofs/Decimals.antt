-- The digits of the meaning are those of the standard library.
use Rattle.std.proofs.Common.{◌≡◌, ℕ, ◌<◌, ◌≤◌, ◌+◌, ◌/◌, ◌%◌, ◌^◌, suc, Bool, nat_lt, List, [], ◌∷◌, ◌++◌, true, false, length, arith, sym, ap, ℤ, pos}
use Rattle.std.specs.Prelude.{negsuc}
use Rattle.std.specs.Int.Signed.{mag}
use Rattle.std.specs.Fmt.{decimal as printed, signed_decimal}
use Rattle.std.proofs.lemmas.Bool.Decides.{nat_tests}
use Rattle.std.proofs.lemmas.Fmt.{AppendsLastDigit, decimal_from_appends, length-decimal-le_succ}
use Rattle.mb_world.specs.Value.{decimal, digits_within, whole_text}

abbrev digits_by : ℕ → ℕ → Bool → List ℕ
digits_by k n true = (48 + n) ∷ []
digits_by k n false = digits_within k (n / 10) ++ ((48 + n % 10) ∷ [])

appends : AppendsLastDigit digits_within
appends = record {
  one = λ k n l. let e : nat_lt n 10 ≡ true = grind (arith, nat_tests) in ap (digits_by k n) e;
  more = λ k n l. let e : nat_lt n 10 ≡ false = grind (arith, nat_tests) in ap (digits_by k n) e;
}

pub decimal-printed : (n : ℕ) → n < 2 ^ 64 → printed n ≡ decimal n
decimal-printed n l =
    let few : length (printed n) ≤ suc n = omega (arith, length-decimal-le_succ n l) in
    sym (decimal_from_appends digits_within appends (suc n) n l few)

pub whole-printed : (z : ℤ) → mag z < 2 ^ 63 → signed_decimal z ≡ whole_text z
whole-printed (pos n) l = decimal-printed n (omega (arith, l))
whole-printed (negsuc n) l = ap (λ ds. 45 ∷ ds) (decimal-printed (suc n) (omega (arith, l)))
