-- What holds of the parts of elements of a list.
use Rattle.std.proofs.Common.{◌≡◌, ◌≤◌, ℕ, zero, suc, List, [], ◌∷◌, length, take, slice_get, get_or, Some, refl, ap, arith}
use Rattle.std.specs.Prelude.{All}
use Rattle.std.specs.List.{flat_map}
use Rattle.std.proofs.lemmas.Option.{slice_get-get_or}
use Rattle.std.proofs.lemmas.List.Elements.{All-head, All-tail, All-cons, All-nil, All-append}
use Rattle.mb_maps.proofs.Lists.{All-left, All-right}

pub all-each : {A : Type 0} (P : A → Type 0) (xs : List A) → ((k : ℕ) (x : A) → slice_get xs k ≡ Some x → P x) → All P xs
all-each P xs f = λ k d l. f k (get_or xs k d) (slice_get-get_or xs k d l)

pub all-flat : {A B : Type 0} (f : A → List B) (P : B → Type 0) (xs : List A) → All (λ x. All P (f x)) xs → All P (flat_map f xs)
all-flat f P [] h = All-nil P
all-flat f P (x ∷ xs) h =
    All-append P (f x) (flat_map f xs) (All-head (λ x. All P (f x)) x xs h) (all-flat f P xs (All-tail (λ x. All P (f x)) x xs h))

pub all-parts : {A B : Type 0} (f : A → List B) (P : B → Type 0) (xs : List A) → All P (flat_map f xs) → All (λ x. All P (f x)) xs
all-parts f P [] h = All-nil (λ x. All P (f x))
all-parts f P (x ∷ xs) h =
    All-cons (λ x. All P (f x)) x xs (All-left P (f x) (flat_map f xs) h) (all-parts f P xs (All-right P (f x) (flat_map f xs) h))

pub take-whole : {A : Type 0} (xs : List A) (i : ℕ) → length xs ≤ i → take i xs ≡ xs
take-whole [] zero h = refl
take-whole [] (suc i) h = refl
take-whole (x ∷ xs) zero h = absurd (omega (arith, h))
take-whole (x ∷ xs) (suc i) h = ap (λ ys. x ∷ ys) (take-whole xs i (omega (arith, h)))
