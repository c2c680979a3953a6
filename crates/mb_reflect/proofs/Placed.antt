-- The places of these built-ins, and what they give.
use Rattle.std.proofs.Common.{◌+◌, ◌≡◌, ◌⊎◌, ◌∷◌, ◌||◌, Bool, List, None, Option, Some, [], arith, false, inl, inr}
use Rattle.std.proofs.Common.{refl, slice_get, subst, suc, sym, true, true≢false, zero, ℕ}
use Rattle.std.specs.Prelude.{if◌then◌else◌}
use Rattle.std.specs.List.{AllByRecursion}
use Rattle.mb_base.specs.declared.value.Value.{Value}
use Rattle.mb_base.specs.declared.value.Value.TheVariants as v
use Rattle.mb_frames.specs.Sorts.{AValue, AnObject, fits, run_gives}
use Rattle.mb_model.specs.BuiltIns.Arguments.{undefined}
use Rattle.mb_model.specs.BuiltIns.{run_if}
use Rattle.mb_reflect.specs.Ours.{is_of_function, is_of_none, is_of_object, is_of_reflect, is_reflecting}
use Rattle.mb_world.specs.Intrinsics as i
use Rattle.mb_world.specs.Intrinsics.{Intrinsic, intrinsic, intrinsics}
use Rattle.mb_world.specs.Objects.{intrinsic_is}
use Rattle.mb_world.specs.Standard.{constructs}
use Rattle.mb_world.specs.Value.{Val}

-- ---- places

-- the places from n on at which the test passes
abbrev places : (Intrinsic → Bool) → ℕ → List Intrinsic → List ℕ
places p n [] = []
places p n (x ∷ xs) = if p x then n ∷ places p (suc n) xs else places p (suc n) xs

abbrev IsOneOf : ℕ → List ℕ → Type 0
IsOneOf n [] = ⊥
IsOneOf n (k ∷ ks) = (n ≡ k) ⊎ IsOneOf n ks

passes-at : (p : Intrinsic → Bool) (xs : List Intrinsic) (n k : ℕ) (x : Intrinsic) → slice_get xs k ≡ Some x
    → p x ≡ true → IsOneOf (n + k) (places p n xs)
passes-at p [] n k x e h = cc
passes-at p (y ∷ ys) n zero x e h =
    let q : y ≡ x = cc in
    rw (q, h) (inl (omega arith))
passes-at p (y ∷ ys) n (suc k) x e h =
    let r : IsOneOf (suc n + k) (places p (suc n) ys) = passes-at p ys (suc n) k x e h in
    let m : suc n + k ≡ n + suc k = omega arith in
    let s : IsOneOf (n + suc k) (places p (suc n) ys) = subst (λ z. IsOneOf z (places p (suc n) ys)) m r in
    by (p y) s
  where
    by : (b : Bool) → IsOneOf (n + suc k) (places p (suc n) ys)
        → IsOneOf (n + suc k) (if b then n ∷ places p (suc n) ys else places p (suc n) ys)
    by true s = inr s
    by false s = s

-- it is none of these
abbrev pub IsNoneOf : ℕ → List ℕ → Type 0
IsNoneOf n ks = AllByRecursion (λ k. n ≡ k → ⊥) ks

one-or-none : (n : ℕ) (ks : List ℕ) → IsOneOf n ks → IsNoneOf n ks → ⊥
one-or-none n [] h k = h
one-or-none n (m ∷ ks) (inl e) k = k.0 e
one-or-none n (m ∷ ks) (inr h) k = one-or-none n ks h k.1

no-place : (p : Option Intrinsic → Bool) → p None ≡ false → (place : ℕ)
    → IsNoneOf place (places (λ x. p (Some x)) 0 intrinsics) → p (intrinsic place) ≡ false
no-place p none place h = by (intrinsic place) refl
  where
    by-flag : (x : Intrinsic) → intrinsic place ≡ Some x → (b : Bool) → p (Some x) ≡ b → b ≡ false
    by-flag x e false q = refl
    by-flag x e true q =
        let z : 0 + place ≡ place = omega arith in
        absurd (one-or-none place (places (λ y. p (Some y)) 0 intrinsics)
        (subst (λ n. IsOneOf n (places (λ y. p (Some y)) 0 intrinsics)) z
        (passes-at (λ y. p (Some y)) intrinsics 0 place x e q)) h)

    by : (o : Option Intrinsic) → intrinsic place ≡ o → p o ≡ false
    by None e = none
    by (Some x) e = by-flag x e (p (Some x)) refl

pub no-object : (place : ℕ) → IsNoneOf place (3 ∷ 14 ∷ 15 ∷ 16 ∷ 17 ∷ 18 ∷ 19 ∷ 20 ∷ 21 ∷ 22 ∷ 23 ∷ 56 ∷ [])
    → is_of_object (intrinsic place) ≡ false
no-object place h = no-place is_of_object refl place h

pub no-reflect : (place : ℕ) → IsNoneOf place (35 ∷ 36 ∷ 37 ∷ 38 ∷ 39 ∷ 40 ∷ 41 ∷ 42 ∷ 43 ∷ 44 ∷ 45 ∷ 46 ∷ 47 ∷ [])
    → is_of_reflect (intrinsic place) ≡ false
no-reflect place h = no-place is_of_reflect refl place h

pub no-function : (place : ℕ) → IsNoneOf place (8 ∷ 9 ∷ 10 ∷ 11 ∷ 53 ∷ 54 ∷ [])
    → is_of_function (intrinsic place) ≡ false
no-function place h = no-place is_of_function refl place h

-- what is left is called by nothing
none-left : (a b c d : Bool) → a ≡ false → b ≡ false → c ≡ false → a || (b || (c || d)) ≡ true → d ≡ true
none-left false false false d e f g h = h
none-left true b c d e f g h = absurd (true≢false e)
none-left false true c d e f g h = absurd (true≢false f)
none-left false false true d e f g h = absurd (true≢false g)

none-gives : (s p : ℕ) (this : Val) (vs : List Val) (target : Val) (o : Option Intrinsic) → is_of_none o ≡ true
    → run_if s p this vs target o ≡ undefined
none-gives s p this vs target (Some i.Reflect) h = refl
none-gives s p this vs target (Some i.FunctionPrototype) h = refl
none-gives s p this vs target (Some i.ObjectPrototype) h = refl
none-gives s p this vs target (Some i.ErrorPrototype) h = refl
none-gives s p this vs target (Some i.TypeErrorPrototype) h = refl
none-gives s p this vs target (Some i.RangeErrorPrototype) h = refl
none-gives s p this vs target (Some i.ReferenceErrorPrototype) h = refl
none-gives s p this vs target None h = refl
none-gives s p this vs target (Some x) h = absurd (true≢false (sym h))

none-constructs : (o : Option Intrinsic) → is_of_none o ≡ true → intrinsic_is constructs o ≡ false
none-constructs (Some i.Reflect) h = refl
none-constructs (Some i.FunctionPrototype) h = refl
none-constructs (Some i.ObjectPrototype) h = refl
none-constructs (Some i.ErrorPrototype) h = refl
none-constructs (Some i.TypeErrorPrototype) h = refl
none-constructs (Some i.RangeErrorPrototype) h = refl
none-constructs (Some i.ReferenceErrorPrototype) h = refl
none-constructs None h = refl
none-constructs (Some x) h = absurd (true≢false (sym h))

module _ (place : ℕ) (ours : is_reflecting (intrinsic place) ≡ true) (o : is_of_object (intrinsic place) ≡ false)
    (r : is_of_reflect (intrinsic place) ≡ false)
    (h : IsNoneOf place (8 ∷ 9 ∷ 10 ∷ 11 ∷ 53 ∷ 54 ∷ [])) where
  left : is_of_none (intrinsic place) ≡ true
  left =
      none-left (is_of_object (intrinsic place)) (is_of_reflect (intrinsic place)) (is_of_function (intrinsic place))
      (is_of_none (intrinsic place)) o r (no-function place h) ours

  pub left-row : (s : ℕ) (this : Val) (vs : List Val) (target : Val)
      → run_if s place this vs target (intrinsic place) ≡ undefined
  left-row s this vs target = none-gives s place this vs target (intrinsic place) left

  pub left-calls : intrinsic_is constructs (intrinsic place) ≡ false
  left-calls = none-constructs (intrinsic place) left

-- ---- sorts

pub gives-value : (target : Value) → run_gives target false ≡ AValue
gives-value v.Undefined = refl
gives-value _ = refl

pub gives-object : (target : Value) → fits AnObject (run_gives target true) ≡ true
gives-object v.Undefined = refl
gives-object _ = refl
