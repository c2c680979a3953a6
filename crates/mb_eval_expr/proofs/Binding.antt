-- Names of a home's scopes: their values may be held, and a scope with a value that may be held keeps a world ready.
use Rattle.mb_base.specs.declared.value.ScopeId.{ScopeId}
use Rattle.mb_base.specs.declared.value.Side.{Side}
use Rattle.mb_base.specs.declared.value.Value.{Value}
use Rattle.mb_frames.proofs.Readying.{scope-written}
use Rattle.mb_frames.specs.Held.{HeldValue}
use Rattle.mb_frames.specs.Ready.{Changed, IsReady, MayHold}
use Rattle.mb_world.proofs.Grow.{All-at}
use Rattle.mb_world.proofs.Worlds.{ScopeOf-give}
use Rattle.mb_world.specs.Contained.{IsOwn, in_option, in_scope, in_value, scope_home}
use Rattle.mb_world.specs.Data.{Data, change_scope, given_value, giving, scope_at}
use Rattle.mb_world.specs.Formed.{FormedScope, InRange, option_values}
use Rattle.mb_world.specs.Ids.{BoundIn, Maybe, ScopeOf}
use Rattle.mb_world.specs.declared.scope.Bound.{Bound}
use Rattle.mb_world.specs.declared.scope.Scope.{Scope}
use Rattle.std.proofs.Common.{Bool, List, None, Option, Some, [], ap, false, nat_eq, refl, slice_get, slice_set, subst}
use Rattle.std.proofs.Common.{suc, sym, zero, ℕ, ◌∙◌, ◌∷◌, ◌≡◌}
use Rattle.std.proofs.lemmas.List.Elements.{All-append, All-cons, All-head, All-nil}
use Rattle.std.proofs.lemmas.Map.Keys.{IsDistinct-cons, IsDistinct-head, IsDistinct-tail}
use Rattle.std.specs.List.{AllByRecursion, IsDistinct, flat_map}
use Rattle.std.specs.Prelude.{All, IfSome}
use Rattle.mb_frames.proofs.Parts.{left-part, right-part}

-- ---- lists of lists

module _ {A B : Type 0} (P : B → Type 0) (f : A → List B) where
  flat-at : (xs : List A) (i : ℕ) (x : A) → slice_get xs i ≡ Some x → All P (flat_map f xs) → All P (f x)
  flat-at [] i x e h = cc
  flat-at (y ∷ ys) zero x e h =
      let q : y ≡ x = cc in
      subst (λ z. All P (f z)) q (left-part P (f y) (flat_map f ys) h)
  flat-at (y ∷ ys) (suc i) x e h = flat-at ys i x e (right-part P (f y) (flat_map f ys) h)

  flat-set : (xs : List A) (i : ℕ) (y : A) → All P (f y) → All P (flat_map f xs) → All P (flat_map f (slice_set xs i y))
  flat-set [] i y k h = h
  flat-set (x ∷ xs) zero y k h =
      All-append P (f y) (flat_map f xs) k (right-part P (f x) (flat_map f xs) h)
  flat-set (x ∷ xs) (suc i) y k h =
      All-append P (f x) (flat_map f (slice_set xs i y)) (left-part P (f x) (flat_map f xs) h)
      (flat-set xs i y k (right-part P (f x) (flat_map f xs) h))

-- ---- names

abbrev of-one-name : Bound → Bound → Bool
of-one-name a b = nat_eq a.name.0 b.name.0

others-set : (z : Bound) (xs : List Bound) (i : ℕ) (x y : Bound) → slice_get xs i ≡ Some x → y.name ≡ x.name
    → AllByRecursion (λ b. of-one-name z b ≡ false) xs
    → AllByRecursion (λ b. of-one-name z b ≡ false) (slice_set xs i y)
others-set z [] i x y e n h = h
others-set z (w ∷ xs) zero x y e n h =
    let q : w ≡ x = cc in
    (ap (λ s. nat_eq z.name.0 s.0) (n ∙ ap (λ (b : Bound). b.name) (sym q)) ∙ h.0, h.1)
others-set z (w ∷ xs) (suc i) x y e n h = (h.0, others-set z xs i x y e n h.1)

renamed : (z y : Bound) (xs : List Bound) → y.name ≡ z.name → AllByRecursion (λ b. of-one-name z b ≡ false) xs
    → AllByRecursion (λ b. of-one-name y b ≡ false) xs
renamed z y [] n h = tt
renamed z y (x ∷ xs) n h = (ap (λ s. nat_eq s.0 x.name.0) n ∙ h.0, renamed z y xs n h.1)

distinct-set : (xs : List Bound) (i : ℕ) (x y : Bound) → slice_get xs i ≡ Some x → y.name ≡ x.name
    → IsDistinct of-one-name xs → IsDistinct of-one-name (slice_set xs i y)
distinct-set [] i x y e n h = h
distinct-set (z ∷ xs) zero x y e n h =
    let q : z ≡ x = cc in
    IsDistinct-cons of-one-name y xs
    (renamed z y xs (n ∙ ap (λ (b : Bound). b.name) (sym q)) (IsDistinct-head of-one-name z xs h))
    (IsDistinct-tail of-one-name z xs h)
distinct-set (z ∷ xs) (suc i) x y e n h =
    IsDistinct-cons of-one-name z (slice_set xs i y)
    (others-set z xs i x y e n (IsDistinct-head of-one-name z xs h))
    (distinct-set xs i x y e n (IsDistinct-tail of-one-name z xs h))

-- ---- scopes of a home

module _ (d : Data) (home : Side) (r : IsReady d) (at : ScopeId) (s : Scope) (e : scope_at d at ≡ Some s)
    (h : scope_home d at home) where
  pub home-is : s.home ≡ home
  home-is = rw e at h

  pub parent-home : (p : ScopeId) → s.parent ≡ Some p → scope_home d p home
  parent-home p q =
      let m = rw q at (r.formed.scopes at s e).parent in
      subst (λ (y : Side). scope_home d p y) home-is m.1

  value-held : (place : ℕ) (b : Bound) (x : Value) → slice_get s.names place ≡ Some b → b.value ≡ Some x
      → MayHold d home (HeldValue x)
  value-held place b x q v = record {
    within =
        let t : ScopeOf d s = All-at (ScopeOf d) d.scopes at.0 s e r.ids.scopes_in in
        rw v at (All-at (BoundIn d) s.names place b q t.names_in).1;
    sound = All-head InRange x []
        (rw v at (flat-at InRange (λ c. option_values c.value) s.names place b q (r.formed.scopes at s e).wholes));
    own = λ u.
        let o : All (IsOwn d s.home) (in_scope s)
        = All-at (λ (z : Scope). All (IsOwn d z.home) (in_scope z)) d.scopes at.0 s e (r.contained u).scopes_own in
        subst (λ (y : Side). All (IsOwn d y) (in_value x)) home-is
        (rw v at (flat-at (IsOwn d s.home) (λ (c : Bound). in_option in_value c.value) s.names place b q o));
  }

  pub binding-held : (place : ℕ) (o : Option Bound) → slice_get s.names place ≡ o
      → IfSome o (λ b. Maybe (λ x. MayHold d home (HeldValue x)) b.value)
  binding-held place None q = tt
  binding-held place (Some b) q = by b.value refl
    where
      by : (v : Option Value) → b.value ≡ v → Maybe (λ x. MayHold d home (HeldValue x)) v
      by None v = tt
      by (Some x) v = value-held place b x q v

  given-formed : (place : ℕ) (b : Bound) (x : Value) → slice_get s.names place ≡ Some b → InRange x
      → FormedScope d at.0 (giving place x s)
  given-formed place b x q i =
      let f : FormedScope d at.0 s = r.formed.scopes at s e in
      record {
        home = f.home;
        wholes = rw q (flat-set InRange (λ (c : Bound). option_values c.value) s.names place (given_value x b)
            (All-cons InRange x [] i (All-nil InRange)) f.wholes);
        parent = f.parent;
        distinct = rw q (distinct-set s.names place b (given_value x b) q refl f.distinct);
      }

  given-own : (place : ℕ) (b : Bound) (x : Value) → slice_get s.names place ≡ Some b → d.joined ≡ false
      → All (IsOwn d home) (in_value x) → All (IsOwn d home) (in_scope (giving place x s))
  given-own place b x q u k =
      let o : All (IsOwn d s.home) (in_scope s)
      = All-at (λ (z : Scope). All (IsOwn d z.home) (in_scope z)) d.scopes at.0 s e (r.contained u).scopes_own in
      rw q (flat-set (IsOwn d home) (λ (c : Bound). in_option in_value c.value) s.names place (given_value x b) k
      (subst (λ (y : Side). All (IsOwn d y) (in_scope s)) home-is o))

  pub given-changed : (place : ℕ) (b : Bound) (x : Value) (d' : Data) → slice_get s.names place ≡ Some b
      → MayHold d home (HeldValue x) → d' ≡ change_scope d at (giving place x) → Changed home d d'
  given-changed place b x d' q m c =
      rw (c, e) (scope-written home d r at s (giving place x s) e home-is home-is
      (ScopeOf-give d s place x m.within (All-at (ScopeOf d) d.scopes at.0 s e r.ids.scopes_in))
      (given-formed place b x q m.sound) (λ u. given-own place b x q u (m.own u)))
