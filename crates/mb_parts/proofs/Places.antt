-- Places of lists that are there, and those past the end.
use Rattle.std.proofs.Common.{List, None, [], arith, drop, length, refl, slice_get, suc, zero, ℕ, ◌<◌, ◌∷◌, ◌≡◌}

pub not-past : {A : Type 0} (xs : List A) (i : ℕ) → None ≡ slice_get xs i → i < length xs → ⊥
not-past [] i e h = omega (arith, h)
not-past (x ∷ xs) zero e h = cc
not-past (x ∷ xs) (suc i) e h = not-past xs i e (omega (arith, h))

pub drop-past : {A : Type 0} (xs : List A) (i : ℕ) → slice_get xs i ≡ None → drop i xs ≡ []
drop-past [] zero e = refl
drop-past [] (suc i) e = refl
drop-past (x ∷ xs) zero e = cc
drop-past (x ∷ xs) (suc i) e = drop-past xs i e
