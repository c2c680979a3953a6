-- Elements of lists.
use Rattle.std.proofs.Common.{◌≡◌, ℕ, zero, suc, ◌+◌, ◌<◌, List, [], ◌∷◌, ◌++◌, length, take, get_or, set, Some, refl, sym, subst, ap, ◌∙◌, arith, inl, inr, ⊎_elim, get_or-set_same, length-set}
use Rattle.std.specs.Prelude.{slice_get, ◌⊎◌}
use Rattle.std.specs.List.{Contains, flat_map}
use Rattle.std.proofs.lemmas.List.{flat_map_more, take_more}
use Rattle.std.proofs.lemmas.Bool.{cases_eq}
use Rattle.mb_base.specs.declared.value.NodeId.{NodeId}
use Rattle.mb_tree.specs.Roses.{id_of}
use Rattle.std.proofs.lemmas.Option.{slice_get_within, slice_get_read, get_or_from_slice_get}

-- P holds of each element
abbrev pub Each : {X : Type 0} → (X → Type 0) → List X → Type 0
Each P [] = Unit {0}
Each P (x ∷ xs) = P x × Each P xs

pub each_append : {X : Type 0} (P : X → Type 0) (xs ys : List X) → Each P xs → Each P ys → Each P (xs ++ ys)
each_append P [] ys h q = q
each_append P (x ∷ xs) ys h q = (h.0, each_append P xs ys h.1 q)

pub each_flat_map : {X Y : Type 0} (P : Y → Type 0) (f : X → List Y) → ((x : X) → Each P (f x)) → (xs : List X) → Each P (flat_map f xs)
each_flat_map P f h [] = tt
each_flat_map P f h (x ∷ xs) = each_append P (f x) (flat_map f xs) (h x) (each_flat_map P f h xs)

pub each_at : {X : Type 0} (P : X → Type 0) (xs : List X) (i : ℕ) (x : X) → Each P xs → slice_get xs i ≡ Some x → P x
each_at P [] i x h e = cc
each_at P (y ∷ xs) zero x h e =
    let same : y ≡ x = cc in
    subst P same h.0
each_at P (y ∷ xs) (suc i) x h e = each_at P xs i x h.1 e

pub place_from_contains : {X : Type 0} (xs : List X) (x : X) → Contains xs x → (k : ℕ) × (slice_get xs k ≡ Some x)
place_from_contains xs x h = (h.0, slice_get_read xs (length xs) h.0 x refl h.1 (sym h.2))

pub contains_from_place : {X : Type 0} (xs : List X) (k : ℕ) (x : X) → slice_get xs k ≡ Some x → Contains xs x
contains_from_place xs k x e = (k, slice_get_within xs k x e, get_or_from_slice_get xs k x x e)

-- a loop that adds what each element gives
pub flat_step : {X Y : Type 0} (f : X → List Y) (old now next : List Y) (xs : List X) (i : ℕ) (d : X) (more : List Y) → i < length xs → now ≡ old ++ flat_map f (take i xs) → next ≡ now ++ more → more ≡ f (get_or xs i d) → next ≡ old ++ flat_map f (take (i + 1) xs)
flat_step f old now next xs i d more lt was is m =
    is ∙ ap (λ x. x ++ more) was ∙ ap (λ x. (old ++ flat_map f (take i xs)) ++ x) m ∙ flat_map_more f old (take i xs) (get_or xs i d) ∙ ap (λ x. old ++ flat_map f x) (sym (take_more xs i d lt))

-- whether an id is among some
pub among_or : (ids : List NodeId) (id : NodeId) → Contains ids id ⊎ (Contains ids id → ⊥)
among_or [] id = inr (λ c. let k = place_from_contains [] id c in let e = k.1 in cc)
among_or (x ∷ ids) id = ⊎_elim
    (λ same. inl (contains_from_place (x ∷ ids) 0 id (ap (λ n. Some (id_of n)) same)))
    (λ apart. ⊎_elim
    (λ c. let k = place_from_contains ids id c in inl (contains_from_place (x ∷ ids) (suc k.0) id k.1))
    (λ none. inr (λ c. later apart none (place_from_contains (x ∷ ids) id c)))
    (among_or ids id))
    (cases_eq x.0 id.0)
  where
    later : (x.0 ≡ id.0 → ⊥) → (Contains ids id → ⊥) → (k : ℕ) × (slice_get (x ∷ ids) k ≡ Some id) → ⊥
    later apart none (zero, e) =
        let same : x ≡ id = cc in
        apart (ap (λ (n : NodeId). n.0) same)
    later apart none (suc k, e) = none (contains_from_place ids k id e)

pub set_same : {X : Type 0} (xs : List X) (i : ℕ) (x : X) → i < length xs → slice_get (set xs i x) i ≡ Some x
set_same xs i x h = slice_get_read (set xs i x) (length (set xs i x)) i x refl (omega (arith, length-set xs i x)) (sym (get_or-set_same xs i x x h))

pub set_other : {X : Type 0} (xs : List X) (i p : ℕ) (x : X) → (p ≡ i → ⊥) → slice_get (set xs i x) p ≡ slice_get xs p
set_other [] i p x n = refl
set_other (y ∷ ys) zero zero x n = absurd (n refl)
set_other (y ∷ ys) zero (suc p) x n = refl
set_other (y ∷ ys) (suc i) zero x n = refl
set_other (y ∷ ys) (suc i) (suc p) x n = set_other ys i p x (λ e. n (ap suc e))
