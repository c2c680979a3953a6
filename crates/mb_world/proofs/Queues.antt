-- The queues of the sides, as the code writes one of them.
use Rattle.std.proofs.Common.{◌≡◌, ℕ, ◌<◌, List, [], length, slice_set, refl, map, get_or, Result, Ok, Err}
use Rattle.std.specs.Prelude.{OnErr}
use Rattle.std.proofs.lemmas.List.{map-set, set-get_or}
use Rattle.mb_world.proofs.Worlds.{read-map}

pub OnErr-of : {T E : Type 0} (P : Type 0) (r : Result T E) → P → OnErr r P
OnErr-of P (Ok x) p = tt
OnErr-of P (Err e) p = p

module _ {A B : Type 0} (f : A → List B) (qs : List A) (k : ℕ) (x y : A) (l : k < length qs) (e : x ≡ get_or qs k x) where
  pub queue-is : get_or (map f qs) k [] ≡ f x
  queue-is = read-map f qs k x [] l e

  pub written : (g : List B → List B) → f y ≡ g (f x) → map f (slice_set qs k y) ≡ slice_set (map f qs) k (g (get_or (map f qs) k []))
  written g h = rw (map-set f qs k y, h, queue-is) refl

  pub kept : f y ≡ f x → map f (slice_set qs k y) ≡ map f qs
  kept h = rw (map-set f qs k y, h, ← queue-is) (set-get_or (map f qs) k [])
