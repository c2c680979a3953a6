-- The longest front of a text that passes a test.
use Rattle.std.proofs.Common.{◌≡◌, ℕ, ◌+◌, ◌≤◌, Bool, true, false, cond, List, [], ◌∷◌, length, take, drop, suc, arith, refl}
use Rattle.std.specs.List.{list_all, prefix_len}
use Rattle.std.proofs.lemmas.Grind.{common_steps}
use Rattle.mb_cli.proofs.first_form.Steps.{begins}

pub prefix_len-le : (p : ℕ → Bool) (xs : List ℕ) → prefix_len p xs ≤ length xs
prefix_len-le p [] = omega arith
prefix_len-le p (x ∷ xs) = grind (arith, common_steps, prefix_len-le p xs)

one_more : (n : ℕ) → 1 + n ≡ suc n
one_more n = omega arith

pub front_passes : (p : ℕ → Bool) (xs : List ℕ) → list_all p (take (prefix_len p xs) xs) ≡ true
front_passes p [] = refl
front_passes p (x ∷ xs) = by_case (p x) refl (front_passes p xs)
  where
    by_case : (b : Bool) → p x ≡ b → list_all p (take (prefix_len p xs) xs) ≡ true → list_all p (take (cond (p x) (1 + prefix_len p xs) 0) (x ∷ xs)) ≡ true
    by_case true e h = simp (e, one_more) h
    by_case false e h = simp e refl

pub rest_stops : (p : ℕ → Bool) (xs : List ℕ) → begins p (drop (prefix_len p xs) xs) ≡ false
rest_stops p [] = refl
rest_stops p (x ∷ xs) = by_case (p x) refl (rest_stops p xs)
  where
    by_case : (b : Bool) → p x ≡ b → begins p (drop (prefix_len p xs) xs) ≡ false → begins p (drop (cond (p x) (1 + prefix_len p xs) 0) (x ∷ xs)) ≡ false
    by_case true e h = simp (e, one_more) h
    by_case false e h = simp e refl
