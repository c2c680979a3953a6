-- Whole numbers and the results that leave their range.
use Rattle.std.proofs.Common.{◌<◌, Bool, None, Ok, Option, Some, ap, arith, false, nat_le, nat_lt, negsuc, pos, refl}
use Rattle.std.proofs.Common.{slice_get, suc, sym, true, ℕ, ℤ, subst, to_z, of_z, ◌∙◌, ◌≡◌, w64}
use Rattle.std.specs.Prelude.{FitsSigned, SomeIff, if◌then◌else◌, unsigned_abs}
use Rattle.std.proofs.lemmas.Bool.Decides.{nat_tests}
use Rattle.std.proofs.lemmas.Int.{fits_signed_from_abs, to_z-of_z}
use Rattle.mb_base.specs.declared.value.Value.{Value}
use Rattle.mb_base.specs.declared.value.Value.TheVariants as v
use Rattle.mb_frames.proofs.Passed.{Passes-by}
use Rattle.mb_eval_expr.specs.declared.computing.Computed.TheVariants as c
use Rattle.mb_eval_expr.specs.machine.Computing.{Computes, goes_with}
use Rattle.mb_model.specs.Operations.Conversions.{in_range, whole, whole_limit}
use Rattle.mb_model.specs.Task.{Answer}
use Rattle.mb_model.specs.Writing.{◌>>=◌, Does, give, is_value, or_type_error, range_error}
use Rattle.mb_world.specs.declared.cell.ErrorKind.TheVariants.{RangeError, TypeError}
use Rattle.mb_world.specs.Data.{AtPlace, Before, Counted, Data, Hidden, Stand}
use Rattle.mb_world.specs.Image.{Image, Names, Resolve, stood}
use Rattle.mb_world.specs.Value.{Val, Whole, whole_of}

pub range-is : (z : ℤ) → nat_le (unsigned_abs z) whole_limit ≡ in_range z
range-is (pos n) = refl
range-is (negsuc n) = by (nat_lt n whole_limit) refl
  where
    by : (b : Bool) → nat_lt n whole_limit ≡ b → nat_le (suc n) whole_limit ≡ nat_lt n whole_limit
    by true e = let t : nat_le (suc n) whole_limit ≡ true = grind (arith, nat_tests) in t ∙ sym e
    by false e = let t : nat_le (suc n) whole_limit ≡ false = grind (arith, nat_tests) in t ∙ sym e

-- what doesn't fit in 64 bits is far out of range
far : (z : ℤ) → (FitsSigned w64 z → ⊥) → in_range z ≡ false
far z h = by (in_range z) refl
  where
    by : (b : Bool) → in_range z ≡ b → in_range z ≡ false
    by false e = e
    by true e =
        let t : nat_le (unsigned_abs z) 9007199254740991 ≡ true = range-is z ∙ e in
        let u : unsigned_abs z < 9223372036854775808 = grind (arith, nat_tests) in
        absurd (h (fits_signed_from_abs w64 z u))

module _ (home : ℕ) (d : Data) (f : ℕ) where
  pub whole-near : (z : ℤ) → in_range z ≡ true
      → Computes (Ok (c.Value (v.Whole z))) home d d f f (whole home z >>= is_value)
  whole-near z h = (
    λ k. Passes-by d f ((whole home z >>= is_value) k) (goes_with home d (c.Value (v.Whole z)) k)
        (λ log. ap (λ (b : Bool). let p : Does Val = if b then give (Whole z) else range_error home in
        (p >>= is_value) k (Image d log)) h),
    tt,
  )

  pub whole-far : (z : ℤ) → in_range z ≡ false
      → Computes (Ok (c.Faulty RangeError)) home d d f f (whole home z >>= is_value)
  whole-far z h = (
    λ k. Passes-by d f ((whole home z >>= is_value) k) (goes_with home d (c.Faulty RangeError) k)
        (λ log. ap (λ (b : Bool). let p : Does Val = if b then give (Whole z) else range_error home in
        (p >>= is_value) k (Image d log)) h),
    tt,
  )

  pub whole-none : (z : ℤ) → SomeIff None (FitsSigned w64 z) z
      → Computes (Ok (c.Faulty RangeError)) home d d f f (whole home z >>= is_value)
  whole-none z h = whole-far z (far z h)

  -- a value that is no whole number is of the wrong type
  pub wrong-type : {A : Type 0} (o : Option A) (p : A → Does Answer) → o ≡ None
      → Computes (Ok (c.Faulty TypeError)) home d d f f (or_type_error home o >>= p)
  wrong-type o p e = (
    λ k. Passes-by d f ((or_type_error home o >>= p) k) (goes_with home d (c.Faulty TypeError) k)
        (λ log. ap (λ q. (or_type_error home q >>= p) k (Image d log)) e),
    tt,
  )

no-object : (n : Names) (i : ℕ) (s : Option Stand) → whole_of (stood n i s) ≡ None
no-object n i (Some Counted) = refl
no-object n i (Some (AtPlace place)) = refl
no-object n i (Some (Before behind)) = refl
no-object n i (Some Hidden) = refl
no-object n i None = refl

pub no-whole : (n : Names) (x : Value) → ((z : ℤ) → x ≡ v.Whole z → ⊥) → whole_of (Resolve n x) ≡ None
no-whole n v.Undefined h = refl
no-whole n v.Null h = refl
no-whole n (v.Bool b) h = refl
no-whole n (v.Whole z) h = absurd (h z refl)
no-whole n (v.Text t) h = refl
no-whole n (v.Symbol s) h = refl
no-whole n (v.Object o) h = no-object n o.0 (slice_get n.stands o.0)

-- a number that was written and read back
pub back : (z y : ℤ) → FitsSigned w64 z → y ≡ z → z ≡ to_z w64 (of_z w64 y)
back z y h e =
    let P : ℤ → Type 0 = λ x. FitsSigned w64 x in
    sym e ∙ sym (to_z-of_z w64 y (subst P (sym e) h))
