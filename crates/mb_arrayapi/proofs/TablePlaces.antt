-- The places of Array and its members in the table of built-ins.
use Rattle.std.proofs.Common.{◌+◌, ◌∷◌, ◌≡◌, ◌⊎◌, Bool, List, None, Option, Some, [], arith, false, inl, inr, refl}
use Rattle.std.proofs.Common.{slice_get, subst, suc, sym, true, true≢false, zero, ℕ}
use Rattle.std.specs.Prelude.{if◌then◌else◌}
use Rattle.mb_arrayapi.specs.Ours.{is_of_arrays}
use Rattle.mb_arrayapi.specs.machine.Membering.{is_member}
use Rattle.mb_base.specs.declared.value.Value.{Value}
use Rattle.mb_base.specs.declared.value.Value.TheVariants as v
use Rattle.mb_frames.specs.Sorts.{AValue, run_gives}
use Rattle.mb_world.specs.Intrinsics.{Array, ArrayIsArray, ArrayPrototype, ArrayPrototypeFilter, ArrayPrototypeForEach}
use Rattle.mb_world.specs.Intrinsics.{ArrayPrototypeIndexOf, ArrayPrototypeJoin, ArrayPrototypeMap, ArrayPrototypePop}
use Rattle.mb_world.specs.Intrinsics.{ArrayPrototypePush, ArrayPrototypeReduce, ArrayPrototypeSlice, Intrinsic}
use Rattle.mb_world.specs.Intrinsics.{intrinsic, intrinsics}
use Rattle.mb_world.specs.Objects.{intrinsic_is}
use Rattle.mb_world.specs.Standard.{constructs}

-- the places from n on at which the test passes
abbrev places : {A : Type 0} → (A → Bool) → ℕ → List A → List ℕ
places p n [] = []
places p n (x ∷ xs) = if p x then n ∷ places p (suc n) xs else places p (suc n) xs

abbrev pub IsOneOf : ℕ → List ℕ → Type 0
IsOneOf n [] = ⊥
IsOneOf n (k ∷ ks) = (n ≡ k) ⊎ IsOneOf n ks

passes-at : {A : Type 0} (p : A → Bool) (xs : List A) (n k : ℕ) (x : A) → slice_get xs k ≡ Some x → p x ≡ true
    → IsOneOf (n + k) (places p n xs)
passes-at p [] n k x e h = cc
passes-at p (y ∷ ys) n zero x e h =
    let q : y ≡ x = cc in
    rw (q, h) (inl (omega arith))
passes-at p (y ∷ ys) n (suc k) x e h =
    let r : IsOneOf (suc n + k) (places p (suc n) ys) = passes-at p ys (suc n) k x e h in
    let m : suc n + k ≡ n + suc k = omega arith in
    let s : IsOneOf (n + suc k) (places p (suc n) ys) = subst (λ z. IsOneOf z (places p (suc n) ys)) m r in
    by (p y) s
  where
    by : (b : Bool) → IsOneOf (n + suc k) (places p (suc n) ys)
        → IsOneOf (n + suc k) (if b then n ∷ places p (suc n) ys else places p (suc n) ys)
    by true s = inr s
    by false s = s

is-at : (test : Intrinsic → Bool) (place : ℕ) (i : Intrinsic) → intrinsic place ≡ Some i → test i ≡ true
    → IsOneOf place (places test 0 intrinsics)
is-at test place i e h =
    let r : IsOneOf (0 + place) (places test 0 intrinsics) = passes-at test intrinsics 0 place i e h in
    let z : 0 + place ≡ place = omega arith in
    subst (λ n. IsOneOf n (places test 0 intrinsics)) z r

abbrev is_array : Intrinsic → Bool
is_array Array = true
is_array i = false

abbrev is_prototype : Intrinsic → Bool
is_prototype ArrayPrototype = true
is_prototype i = false

abbrev asks_array : Intrinsic → Bool
asks_array ArrayIsArray = true
asks_array i = false

pub array-at : (place : ℕ) → intrinsic place ≡ Some Array → place ≡ 4
array-at place e = by (is-at is_array place Array e refl)
  where
    by : IsOneOf place (4 ∷ []) → place ≡ 4
    by (inl p) = p
    by (inr p) = absurd p

pub asked-at : (place : ℕ) → intrinsic place ≡ Some ArrayIsArray → place ≡ 34
asked-at place e = by (is-at asks_array place ArrayIsArray e refl)
  where
    by : IsOneOf place (34 ∷ []) → place ≡ 34
    by (inl p) = p
    by (inr p) = absurd p

pub prototype-at : (place : ℕ) → intrinsic place ≡ Some ArrayPrototype → place ≡ 24
prototype-at place e = by (is-at is_prototype place ArrayPrototype e refl)
  where
    by : IsOneOf place (24 ∷ []) → place ≡ 24
    by (inl p) = p
    by (inr p) = absurd p

-- any other place is that of a member
pub member_else : (place : ℕ) → is_of_arrays (intrinsic place) ≡ true → (place ≡ 4 → ⊥) → (place ≡ 34 → ⊥)
    → (place ≡ 24 → ⊥) → is_member (intrinsic place) ≡ true
member_else place h a b c = by (intrinsic place) refl h
  where
    by : (o : Option Intrinsic) → intrinsic place ≡ o → is_of_arrays o ≡ true → is_member o ≡ true
    by None e k = absurd (true≢false (sym k))
    by (Some Array) e k = absurd (a (array-at place e))
    by (Some ArrayIsArray) e k = absurd (b (asked-at place e))
    by (Some ArrayPrototype) e k = absurd (c (prototype-at place e))
    by (Some ArrayPrototypePush) e k = refl
    by (Some ArrayPrototypePop) e k = refl
    by (Some ArrayPrototypeMap) e k = refl
    by (Some ArrayPrototypeForEach) e k = refl
    by (Some ArrayPrototypeFilter) e k = refl
    by (Some ArrayPrototypeReduce) e k = refl
    by (Some ArrayPrototypeIndexOf) e k = refl
    by (Some ArrayPrototypeSlice) e k = refl
    by (Some ArrayPrototypeJoin) e k = refl
    by (Some _) e k = absurd (true≢false (sym k))

-- a member stands at one of these places
pub member-places : (place : ℕ) → is_member (intrinsic place) ≡ true
    → IsOneOf place (25 ∷ 26 ∷ 27 ∷ 28 ∷ 29 ∷ 30 ∷ 31 ∷ 32 ∷ 33 ∷ [])
member-places place h = by (intrinsic place) refl h
  where
    by : (o : Option Intrinsic) → intrinsic place ≡ o → is_member o ≡ true
        → IsOneOf place (25 ∷ 26 ∷ 27 ∷ 28 ∷ 29 ∷ 30 ∷ 31 ∷ 32 ∷ 33 ∷ [])
    by None e k = absurd (true≢false (sym k))
    by (Some i) e k = is-at (λ y. is_member (Some y)) place i e k

pub no_other_member : (place : ℕ) → is_member (intrinsic place) ≡ true → (place ≡ 25 → ⊥) → (place ≡ 26 → ⊥)
    → (place ≡ 27 → ⊥) → (place ≡ 28 → ⊥) → (place ≡ 29 → ⊥) → (place ≡ 30 → ⊥) → (place ≡ 31 → ⊥) → (place ≡ 32 → ⊥)
    → (place ≡ 33 → ⊥) → ⊥
no_other_member place h a b c d e f g i j = by (member-places place h)
  where
    by : IsOneOf place (25 ∷ 26 ∷ 27 ∷ 28 ∷ 29 ∷ 30 ∷ 31 ∷ 32 ∷ 33 ∷ []) → ⊥
    by (inl p) = a p
    by (inr (inl p)) = b p
    by (inr (inr (inl p))) = c p
    by (inr (inr (inr (inl p)))) = d p
    by (inr (inr (inr (inr (inl p))))) = e p
    by (inr (inr (inr (inr (inr (inl p)))))) = f p
    by (inr (inr (inr (inr (inr (inr (inl p))))))) = g p
    by (inr (inr (inr (inr (inr (inr (inr (inl p)))))))) = i p
    by (inr (inr (inr (inr (inr (inr (inr (inr (inl p))))))))) = j p
    by (inr (inr (inr (inr (inr (inr (inr (inr (inr p))))))))) = absurd p

-- ---- what they give

pub member-calls : (o : Option Intrinsic) → is_member o ≡ true → intrinsic_is constructs o ≡ false
member-calls None h = absurd (true≢false (sym h))
member-calls (Some ArrayPrototypePush) h = refl
member-calls (Some ArrayPrototypePop) h = refl
member-calls (Some ArrayPrototypeMap) h = refl
member-calls (Some ArrayPrototypeForEach) h = refl
member-calls (Some ArrayPrototypeFilter) h = refl
member-calls (Some ArrayPrototypeReduce) h = refl
member-calls (Some ArrayPrototypeIndexOf) h = refl
member-calls (Some ArrayPrototypeSlice) h = refl
member-calls (Some ArrayPrototypeJoin) h = refl
member-calls (Some _) h = absurd (true≢false (sym h))

pub gives-value : (target : Value) → run_gives target false ≡ AValue
gives-value v.Undefined = refl
gives-value _ = refl
