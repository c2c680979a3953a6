-- Lists with one more, options, and ids.
use Rattle.std.proofs.Common.{◌≡◌, ◌<◌, ℕ, zero, suc, nat_eq, List, [], ◌∷◌, ◌++◌, length, slice_get, get_or, Option, Some, None, Bool, true, false, refl, ap, ◌⊎◌, inl, inr, arith, Result, Ok, Err}
use Rattle.std.specs.Prelude.{All, IsSomeAnd, position, OnErr}
use Rattle.std.specs.List.{position_or_len}
use Rattle.std.proofs.lemmas.Bool.{lt-ltb, eq-eqb}
use Rattle.std.proofs.lemmas.Option.{slice_get-get_or}
use Rattle.std.proofs.lemmas.List.Elements.{All-nil, All-cons, All-head, All-tail}
use Rattle.std.proofs.lemmas.List.Quantifiers.{position-Some}
use Rattle.mb_base.specs.declared.value.ObjId.{ObjId}
use Rattle.mb_base.specs.declared.value.Side.{Side}

pub at-old : {A : Type 0} (xs : List A) (x : A) (k : ℕ) (y : A) → slice_get xs k ≡ Some y → slice_get (xs ++ (x ∷ [])) k ≡ Some y
at-old [] x k y e = cc
at-old (z ∷ zs) x zero y e = e
at-old (z ∷ zs) x (suc k) y e = at-old zs x k y e

pub at-last : {A : Type 0} (xs : List A) (x : A) → slice_get (xs ++ (x ∷ [])) (length xs) ≡ Some x
at-last [] x = refl
at-last (y ∷ ys) x = at-last ys x

pub at-either : {A : Type 0} (xs : List A) (x : A) (k : ℕ) (y : A) → slice_get (xs ++ (x ∷ [])) k ≡ Some y
    → (slice_get xs k ≡ Some y) ⊎ ((k ≡ length xs) × (y ≡ x))
at-either [] x zero y e = inr (refl, cc)
at-either [] x (suc k) y e = cc
at-either (z ∷ zs) x zero y e = inl e
at-either (z ∷ zs) x (suc k) y e = elim (at-either zs x k y e) [ inl h ↦ inl h | inr h ↦ inr (ap suc h.0, h.1) ]

-- what holds of each element of two lists holds of each of the one, and of the other
pub All-left : {A : Type 0} (P : A → Type 0) (xs ys : List A) → All P (xs ++ ys) → All P xs
All-left P [] ys h = All-nil P
All-left P (x ∷ xs) ys h = All-cons P x xs (All-head P x (xs ++ ys) h) (All-left P xs ys (All-tail P x (xs ++ ys) h))

pub All-right : {A : Type 0} (P : A → Type 0) (xs ys : List A) → All P (xs ++ ys) → All P ys
All-right P [] ys h = h
All-right P (x ∷ xs) ys h = All-right P xs ys (All-tail P x (xs ++ ys) h)

-- ---- what holds of a value that is there

pub some-stays : {A : Type 0} (P : A → Type 0) (o o' : Option A) → ((a : A) → o ≡ Some a → o' ≡ Some a) → IsSomeAnd o P → IsSomeAnd o' P
some-stays P None o' f h = absurd h
some-stays P (Some a) o' f h = rw (f a refl) h

pub some-weaker : {A : Type 0} (P Q : A → Type 0) → ((a : A) → P a → Q a) → (o : Option A) → IsSomeAnd o P → IsSomeAnd o Q
some-weaker P Q f None h = h
some-weaker P Q f (Some a) h = f a h

pub some-is : {A : Type 0} (P : A → Type 0) (o : Option A) (a : A) → o ≡ Some a → IsSomeAnd o P → P a
some-is P o a e h = rw e at h

pub some-by : {A : Type 0} (P : A → Type 0) (o : Option A) (a : A) → o ≡ Some a → P a → IsSomeAnd o P
some-by P o a e h = rw e h

pub some-get : {A : Type 0} (P : A → Type 0) (o : Option A) → IsSomeAnd o P → (a : A) × (o ≡ Some a) × P a
some-get P None h = absurd h
some-get P (Some a) h = (a, refl, h)

pub on-err : {A E : Type 0} (r : Result A E) (P : Type 0) → P → OnErr r P
on-err (Ok a) P p = tt
on-err (Err e) P p = p

pub same-some : {A : Type 0} (o : Option A) (a b : A) → o ≡ Some a → o ≡ Some b → a ≡ b
same-some o a b e f = cc

-- ---- ids and sides

pub obj-same : (a b : ObjId) → a.0 ≡ b.0 → a ≡ b
obj-same a b e = ap (λ (n : ℕ). let id : ObjId = record { 0 = n } in id) e

pub side-same : (a b : Side) → a.0 ≡ b.0 → a ≡ b
side-same a b e = ap (λ (n : ℕ). let id : Side = record { 0 = n } in id) e

-- ---- the first that passes

first-there : {A : Type 0} (p : A → Bool) (xs : List A) (k : ℕ) (x : A) → slice_get xs k ≡ Some x → p x ≡ true → position_or_len p xs < length xs
first-there p [] k x e h = cc
first-there p (y ∷ ys) zero x e h = let z : y ≡ x = cc in let q : p y ≡ true = rw z h in rw q (omega arith)
first-there p (y ∷ ys) (suc k) x e h = by (p y) refl (first-there p ys k x e h)
  where
    by : (b : Bool) → p y ≡ b → position_or_len p ys < length ys → position_or_len p (y ∷ ys) < length (y ∷ ys)
    by true q ih = rw q (omega arith)
    by false q ih = rw q (omega (arith, ih))

pub position-there : {A : Type 0} (p : A → Bool) (xs : List A) (k : ℕ) (x : A) → slice_get xs k ≡ Some x → p x ≡ true
    → (n : ℕ) × (position p xs ≡ Some n)
position-there p xs k x e h = (position_or_len p xs, rw (lt-ltb (position_or_len p xs) (length xs) (first-there p xs k x e h)) refl)

pub position-at : {A : Type 0} (p : A → Bool) (xs : List A) (n : ℕ) → position p xs ≡ Some n
    → (x : A) × (slice_get xs n ≡ Some x) × (p x ≡ true)
position-at p [] n e = cc
position-at p (y ∷ ys) n e =
    let q = position-Some p (y ∷ ys) n y e in
    (get_or (y ∷ ys) n y, slice_get-get_or (y ∷ ys) n y q.0, q.1)

-- ---- equal numbers

pub same-nat : (n : ℕ) → nat_eq n n ≡ true
same-nat n = eq-eqb n n refl
