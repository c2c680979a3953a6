-- A name of a scope that is given a value keeps a world ready.
use Rattle.std.proofs.Common.{◌≡◌, ◌∷◌, List, None, Ok, Option, Some, [], false, nat_eq, refl, slice_get, slice_set}
use Rattle.std.proofs.Common.{subst, suc, zero, ℕ}
use Rattle.std.proofs.lemmas.List.Elements.{All-append, All-cons, All-nil, All-set}
use Rattle.std.specs.List.{AllByRecursion, IsDistinct, flat_map}
use Rattle.std.specs.Prelude.{All}
use Rattle.mb_base.specs.declared.value.ScopeId.{ScopeId}
use Rattle.mb_base.specs.declared.value.Side.{Side}
use Rattle.mb_base.specs.declared.value.Value.{Value}
use Rattle.mb_frames.proofs.Parts.{left-part, right-part}
use Rattle.mb_frames.proofs.Readying.{scope-written}
use Rattle.mb_frames.specs.Held.{HeldScope, HeldValue}
use Rattle.mb_frames.specs.Keeping.{KeepsAnswer, none_held}
use Rattle.mb_frames.specs.Ready.{IsReady, MayHold}
use Rattle.mb_world.proofs.Grow.{All-at}
use Rattle.mb_world.specs.Contained.{IsOwn, in_option, in_scope, in_value, scope_home}
use Rattle.mb_world.specs.Data.{Data, change_scope, give_at, give_if, given_value, giving, scope_at}
use Rattle.mb_world.specs.Formed.{FormedScope, InRange, option_values}
use Rattle.mb_world.specs.Ids.{BoundIn, ScopeOf}
use Rattle.mb_world.specs.declared.scope.Bound.{Bound}
use Rattle.mb_world.specs.declared.scope.Scope.{Scope}

-- an element's list is changed
flat-set : {A X : Type 0} (P : A → Type 0) (f : X → List A) (xs : List X) (i : ℕ) (y : X) → All P (f y)
    → All P (flat_map f xs) → All P (flat_map f (slice_set xs i y))
flat-set P f [] i y h k = k
flat-set P f (x ∷ xs) zero y h k = All-append P (f y) (flat_map f xs) h (right-part P (f x) (flat_map f xs) k)
flat-set P f (x ∷ xs) (suc i) y h k =
    All-append P (f x) (flat_map f (slice_set xs i y)) (left-part P (f x) (flat_map f xs) k)
    (flat-set P f xs i y h (right-part P (f x) (flat_map f xs) k))

-- the scope that a home may hold is its own
pub home-is : (d : Data) (home : Side) (id : ScopeId) (s : Scope) → scope_at d id ≡ Some s → scope_home d id home
    → s.home ≡ home
home-is d home id s e h = rw e at h

pub references-own : (d : Data) (home : Side) (id : ScopeId) (s : Scope) → IsReady d → scope_at d id ≡ Some s
    → s.home ≡ home → d.joined ≡ false → All (IsOwn d home) (in_scope s)
references-own d home id s r e h u =
    subst (λ (x : Side). All (IsOwn d x) (in_scope s)) h
    (All-at (λ (x : Scope). All (IsOwn d x.home) (in_scope x)) d.scopes id.0 s e (r.contained u).scopes_own)

apart-set : (z b : Bound) (x : Value) (ys : List Bound) (i : ℕ) → slice_get ys i ≡ Some b
    → AllByRecursion (λ (y : Bound). nat_eq z.name.0 y.name.0 ≡ false) ys
    → AllByRecursion (λ (y : Bound). nat_eq z.name.0 y.name.0 ≡ false) (slice_set ys i (given_value x b))
apart-set z b x [] i e h = h
apart-set z b x (y ∷ ys) zero e h =
    let q : y ≡ b = cc in
    (subst (λ (u : Bound). nat_eq z.name.0 u.name.0 ≡ false) q h.0, h.1)
apart-set z b x (y ∷ ys) (suc i) e h = (h.0, apart-set z b x ys i e h.1)

distinct-set : (b : Bound) (x : Value) (ys : List Bound) (i : ℕ) → slice_get ys i ≡ Some b
    → IsDistinct (λ (p q : Bound). nat_eq p.name.0 q.name.0) ys
    → IsDistinct (λ (p q : Bound). nat_eq p.name.0 q.name.0) (slice_set ys i (given_value x b))
unfolding IsDistinct
distinct-set b x [] i e h = h
distinct-set b x (y ∷ ys) zero e h =
    let q : y ≡ b = cc in
    (subst (λ (u : Bound). AllByRecursion (λ (z : Bound). nat_eq u.name.0 z.name.0 ≡ false) ys) q h.0, h.1)
distinct-set b x (y ∷ ys) (suc i) e h = (apart-set y b x ys i e h.0, distinct-set b x ys i e h.1)

-- a list in which a name was given
given-names : (P : List Bound → Type 0) (place : ℕ) (x : Value) (names : List Bound) → P names
    → ((b : Bound) → slice_get names place ≡ Some b → P (slice_set names place (given_value x b)))
    → P (give_at place x names)
given-names P place x names h f = by (slice_get names place) refl
  where
    by : (o : Option Bound) → slice_get names place ≡ o → P (give_if place x names o)
    by None e = h
    by (Some b) e = f b e

pub given-keeps : (d d' : Data) (home : Side) (id : ScopeId) (s : Scope) (x : Value) (place : ℕ) → IsReady d
    → MayHold d home (HeldScope id) → MayHold d home (HeldValue x) → scope_at d id ≡ Some s → ScopeOf d s
    → d' ≡ change_scope d id (giving place x) → KeepsAnswer home none_held (Ok tt) d d'
given-keeps d d' home id s x place r h v e i m =
    let g : s.home ≡ home = home-is d home id s e h.sound in
    let o : FormedScope d id.0 s = r.formed.scopes id s e in
    let names : List Bound = give_at place x s.names in
    let f : FormedScope d id.0 (giving place x s) = record {
      home = o.home;
      wholes = given-names (λ ns. All InRange (flat_map (λ (b : Bound). option_values b.value) ns)) place x s.names
          o.wholes
          (λ b q. flat-set InRange (λ (y : Bound). option_values y.value) s.names place (given_value x b)
          (All-cons InRange x [] v.sound (All-nil InRange)) o.wholes);
      parent = o.parent;
      distinct = given-names (IsDistinct (λ (p q : Bound). nat_eq p.name.0 q.name.0)) place x s.names o.distinct
          (λ b q. distinct-set b x s.names place q o.distinct);
    } in
    let n : ScopeOf d (giving place x s) = record {
      home_in = i.home_in;
      parent_in = i.parent_in;
      names_in = given-names (All (BoundIn d)) place x s.names i.names_in
          (λ b q. All-set (BoundIn d) s.names place (given_value x b)
          ((All-at (BoundIn d) s.names place b q i.names_in).0, v.within) i.names_in);
    } in
    let own : d.joined ≡ false → All (IsOwn d home) (in_scope (giving place x s))
    = λ u. given-names (λ ns. All (IsOwn d home) (flat_map (λ (b : Bound). in_option in_value b.value) ns)) place x
    s.names
    (references-own d home id s r e g u)
    (λ b q. flat-set (IsOwn d home) (λ (y : Bound). in_option in_value y.value) s.names place (given_value x b)
    (v.own u)
    (references-own d home id s r e g u)) in
    rw (m, e) (record {
      changed = scope-written home d r id s (giving place x s) e g g n f own;
      holds = tt;
    })
