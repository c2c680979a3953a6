-- Whole numbers that are divided.
use Rattle.std.proofs.Common.{Bool, None, Option, Some, ap, arith, false, nat_eq, negsuc, of_z, pos, refl, sym, to_z}
use Rattle.std.proofs.Common.{true, ℤ, ◌∙◌, ◌≡◌, w64}
use Rattle.std.proofs.lemmas.Bool.Decides.{nat_tests}
use Rattle.std.proofs.lemmas.Int.{to_z-of_z}
use Rattle.std.specs.Int.{IsNonZero}
use Rattle.std.specs.Prelude.{FitsSigned, SomeIff}
use Rattle.mb_model.specs.Nodes.BinaryOperators.{is_zero}

of-zero : (z : ℤ) → FitsSigned w64 z → of_z w64 z ≡ 0 → z ≡ pos 0
of-zero z f e = sym (to_z-of_z w64 z f) ∙ ap (to_z w64) e

pub zero-yes : (z : ℤ) → FitsSigned w64 z → of_z w64 z ≡ 0 → is_zero z ≡ true
zero-yes z f e = ap is_zero (of-zero z f e)

pub zero-no : (z : ℤ) → (of_z w64 z ≡ 0 → ⊥) → is_zero z ≡ false
zero-no (pos n) h = by (nat_eq n 0) refl
  where
    by : (b : Bool) → nat_eq n 0 ≡ b → nat_eq n 0 ≡ false
    by false e = e
    by true e = let i : n ≡ 0 = grind (arith, nat_tests) in absurd (h i)
zero-no (negsuc n) h = refl

pub non-zero : (z : ℤ) → (of_z w64 z ≡ 0 → ⊥) → IsNonZero w64 z
non-zero z h = omega (arith, h)

-- what is Some exactly where two facts hold is so where the second one does, once the first is known
pub known-first : {A : Type 0} (o : Option A) (P Q : Type 0) (x : A) → P → SomeIff o (P × Q) x → SomeIff o Q x
known-first None P Q x p h = λ q. h (p, q)
known-first (Some y) P Q x p h = (h.0.1, h.1)
