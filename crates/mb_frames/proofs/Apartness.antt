-- Two references that a home may hold stand for the same only where they are the same, and each stands for an object.
use Rattle.mb_base.specs.declared.value.ObjId.{ObjId}
use Rattle.mb_base.specs.declared.value.Side.{Side}
use Rattle.mb_base.specs.declared.value.Value.{Value}
use Rattle.mb_base.specs.declared.value.Value.TheVariants as v
use Rattle.mb_frames.proofs.HeldAs.{place-kind}
use Rattle.mb_frames.proofs.HeldCells.{scope-held}
use Rattle.mb_frames.proofs.HeldLess.{value-object}
use Rattle.mb_frames.proofs.StillFormed.{BehindCounted, behind-counted}
use Rattle.mb_frames.specs.Found.{HoldsScope}
use Rattle.mb_frames.specs.Held.{HeldObject, HeldValue}
use Rattle.mb_frames.specs.Ready.{IsReady, MayHold}
use Rattle.mb_frames.specs.Real.{AreApart, HasRealNames, IsReal, IsRealAt, IsRealKind}
use Rattle.mb_frames.proofs.Changing.{there}
use Rattle.mb_world.proofs.Grow.{All-at, Maybe-weaker}
use Rattle.mb_world.specs.Contained.{HasItsTwo, IsMembrane, IsOwn, is_shadow}
use Rattle.mb_world.specs.Data.{AtPlace, Before, Counted, Data, Hidden, Stand, cell_at, is_counted, kind_stand, next_if, numbers_from, same_side, stand, stands}
use Rattle.mb_world.specs.Formed.{is_of_membrane}
use Rattle.mb_world.specs.Image.{names_of, number_at, object_in, stood}
use Rattle.mb_world.specs.Value.{BuiltIn, Object, Val}
use Rattle.mb_world.specs.declared.cell.Cell.{Cell}
use Rattle.mb_world.specs.declared.cell.CellKind.{CellKind}
use Rattle.mb_world.specs.declared.cell.CellKind.TheVariants as kind
use Rattle.mb_world.specs.declared.scope.Scope.{Scope}
use Rattle.mb_base.specs.declared.value.ScopeId.{ScopeId}
use Rattle.std.proofs.Common.{Bool, List, None, Option, Some, [], ap, arith, false, length, option_map, refl, slice_get, slice_index_or, subst, suc, sym, true, true≢false, zero, ℕ, ◌<◌, ◌∙◌, ◌∷◌, ◌≡◌, ◌≤◌}
use Rattle.std.proofs.lemmas.Bool.{eq-eqb}
use Rattle.std.proofs.lemmas.List.Elements.{All-head}
use Rattle.std.proofs.lemmas.Option.{slice_get-get_or, slice_get-map, slice_get_within}
use Rattle.std.specs.Prelude.{IsSomeAnd}

-- ---- numbers

from-start : (ss : List Stand) (n i : ℕ) → i < length ss → n ≤ slice_index_or (numbers_from n ss) i 0
from-start [] n i h = absurd (omega (arith, h))
from-start (s ∷ ss) n zero h = omega arith
from-start (Counted ∷ ss) n (suc i) h = omega (arith, from-start ss (suc n) i (omega (arith, h)))
from-start (AtPlace place ∷ ss) n (suc i) h = from-start ss n i (omega (arith, h))
from-start (Before behind ∷ ss) n (suc i) h = from-start ss n i (omega (arith, h))
from-start (Hidden ∷ ss) n (suc i) h = from-start ss n i (omega (arith, h))

one-number : (ss : List Stand) (n i j : ℕ) → slice_get ss i ≡ Some Counted → slice_get ss j ≡ Some Counted
    → slice_index_or (numbers_from n ss) i 0 ≡ slice_index_or (numbers_from n ss) j 0 → i ≡ j
one-number [] n i j h k e = cc
one-number (s ∷ ss) n zero zero h k e = refl
one-number (Counted ∷ ss) n zero (suc j) h k e =
    absurd (omega (arith, e, from-start ss (suc n) j (slice_get_within ss j Counted k)))
one-number (AtPlace place ∷ ss) n zero (suc j) h k e = cc
one-number (Before behind ∷ ss) n zero (suc j) h k e = cc
one-number (Hidden ∷ ss) n zero (suc j) h k e = cc
one-number (Counted ∷ ss) n (suc i) zero h k e =
    absurd (omega (arith, e, from-start ss (suc n) i (slice_get_within ss i Counted h)))
one-number (AtPlace place ∷ ss) n (suc i) zero h k e = cc
one-number (Before behind ∷ ss) n (suc i) zero h k e = cc
one-number (Hidden ∷ ss) n (suc i) zero h k e = cc
one-number (s ∷ ss) n (suc i) (suc j) h k e = ap suc (one-number ss (next_if (is_counted s) n) i j h k e)

pub same-id : (i k : ObjId) → i.0 ≡ k.0 → i ≡ k
same-id i k e = ap (λ (n : ℕ). let o : ObjId = record { 0 = n } in o) e

some-there : {A : Type 0} (o : Option A) (P : A → Type 0) → IsSomeAnd o P → (a : A) × (o ≡ Some a) × P a
some-there None P h = absurd h
some-there (Some a) P h = (a, refl, h)

-- ---- what cells stand for

stand-at : (d : Data) (id : ObjId) (c : Cell) → cell_at d id ≡ Some c
    → slice_get (stands d.cells) id.0 ≡ Some (stand c)
stand-at d id c e = slice_get-map stand d.cells id.0 ∙ ap (option_map stand) e

pub stands-for : (d : Data) (id : ObjId) (c : Cell) (s : Stand) → cell_at d id ≡ Some c → stand c ≡ s
    → object_in (names_of d) id ≡ stood (names_of d) id.0 (Some s)
stands-for d id c s e h = ap (stood (names_of d) id.0) (stand-at d id c e ∙ ap Some h)

before-kind : (y : CellKind) (n : ℕ) → kind_stand y ≡ Before n
    → (behind : ObjId) × (shadow : ObjId) × (y ≡ kind.Membrane behind shadow) × (behind.0 ≡ n)
before-kind kind.Plain n h = cc
before-kind kind.Array n h = cc
before-kind (kind.Function code) n h = cc
before-kind (kind.BuiltIn place) n h = cc
before-kind (kind.Fault fault) n h = cc
before-kind (kind.Proxy target handler shape) n h = cc
before-kind (kind.Revoker proxy) n h = cc
before-kind (kind.Membrane behind shadow) n h = (behind, shadow, refl, cc)
before-kind (kind.Shadow shape) n h = cc
before-kind (kind.Collection coll) n h = cc

hidden-kind : (y : CellKind) → kind_stand y ≡ Hidden → is_shadow y ≡ true
hidden-kind kind.Plain h = cc
hidden-kind kind.Array h = cc
hidden-kind (kind.Function code) h = cc
hidden-kind (kind.BuiltIn place) h = cc
hidden-kind (kind.Fault fault) h = cc
hidden-kind (kind.Proxy target handler shape) h = cc
hidden-kind (kind.Revoker proxy) h = cc
hidden-kind (kind.Membrane behind shadow) h = cc
hidden-kind (kind.Shadow shape) h = refl
hidden-kind (kind.Collection coll) h = cc

is-place : (one other : Val) (n place : ℕ) → one ≡ Object n → other ≡ BuiltIn place → one ≡ other → ⊥
is-place one other n place h k e = (let r : Object n ≡ BuiltIn place = sym h ∙ e ∙ k in cc)

-- ---- two of a home

-- a cell that a home may hold a reference to: its own and no shadow where the world isn't joined
pub record MayName (d : Data) (home : Side) (id : ObjId) (c : Cell) : Type 0 where
  pub there : cell_at d id ≡ Some c
  pub own : d.joined ≡ false → (c.home ≡ home) × (is_shadow c.kind ≡ false)

module _ (d : Data) (r : IsReady d) where
  no-membrane : d.joined ≡ true → (id : ObjId) (c : Cell) → cell_at d id ≡ Some c → is_of_membrane c.kind ≡ false
  no-membrane u id c e =
      All-at (λ (y : Cell). is_of_membrane y.kind ≡ false) d.cells id.0 c e (r.formed.joined u).membrane

  pub not-hidden : (home : Side) (id : ObjId) (c : Cell) → MayName d home id c → stand c ≡ Hidden → ⊥
  not-hidden home id c m h = by d.joined refl
    where
      shadow : is_shadow c.kind ≡ true
      shadow = hidden-kind c.kind h

      part : (y : CellKind) → is_shadow y ≡ true → is_of_membrane y ≡ false → ⊥
      part (kind.Shadow shape) s n = true≢false n
      part y s n = true≢false (sym s)

      by : (b : Bool) → d.joined ≡ b → ⊥
      by true u = part c.kind shadow (no-membrane u id c m.there)
      by false u = true≢false (sym shadow ∙ (m.own u).1)

  -- a proxy stands behind no proxy: in a world that isn't joined, and for a home that the object behind is not of
  behind-other : (home : Side) (id : ObjId) (c : Cell) (n : ℕ) → MayName d home id c → stand c ≡ Before n
      → (d.joined ≡ false)
      × (behind : ObjId) × (shadow : ObjId) × IsMembrane d id c.home behind shadow × (behind.0 ≡ n)
  behind-other home id c n m h = by d.joined refl
    where
      k : (behind : ObjId) × (shadow : ObjId) × (c.kind ≡ kind.Membrane behind shadow) × (behind.0 ≡ n)
      k = before-kind c.kind n h

      by : (b : Bool) → d.joined ≡ b → (d.joined ≡ false)
          × (behind : ObjId) × (shadow : ObjId) × IsMembrane d id c.home behind shadow × (behind.0 ≡ n)
      by true u = absurd (true≢false (sym (ap is_of_membrane k.2) ∙ no-membrane u id c m.there))
      by false u = (u, k.0, k.1, record { cell = c; there = m.there; home_is = refl; kind_is = k.2 }, k.3)

  -- two objects of which neither is a proxy
  pub counted-same : (i k : ObjId) (c e : Cell) → cell_at d i ≡ Some c → cell_at d k ≡ Some e → stand c ≡ Counted
      → stand e ≡ Counted → number_at (names_of d) i.0 ≡ number_at (names_of d) k.0 → i ≡ k
  counted-same i k c e p q h j n =
      same-id i k (one-number (stands d.cells) 0 i.0 k.0 (stand-at d i c p ∙ ap Some h) (stand-at d k e q ∙ ap Some j) n)

  -- two built-ins
  place-same : (home : Side) (i k : ObjId) (c e : Cell) (place : ℕ) → MayName d home i c → MayName d home k e
      → stand c ≡ AtPlace place → stand e ≡ AtPlace place → i ≡ k
  place-same home i k c e place p q h j = by d.joined refl
    where
      by : (b : Bool) → d.joined ≡ b → i ≡ k
      by true u =
          r.one_built_in u i k place c e p.there q.there (place-kind c.kind place h) (place-kind e.kind place j)
      by false u =
          (r.contained u).one_for_a_place i k place c e p.there q.there ((p.own u).0 ∙ sym (q.own u).0)
          (place-kind c.kind place h) (place-kind e.kind place j)

  -- two proxies
  before-same : (home : Side) (i k : ObjId) (c e : Cell) (m n : ℕ) → MayName d home i c → MayName d home k e
      → stand c ≡ Before m → stand e ≡ Before n → number_at (names_of d) m ≡ number_at (names_of d) n → i ≡ k
  before-same home i k c e m n p q h j s =
      let x = behind-other home i c m p h in
      let y = behind-other home k e n q j in
      let u : d.joined ≡ false = x.0 in
      let a = some-there (cell_at d x.1) (λ z. stand z ≡ Counted)
      ((r.paired u).behind_is_object i x.1 x.2 c.home x.3) in
      let b = some-there (cell_at d y.1) (λ z. stand z ≡ Counted)
      ((r.paired u).behind_is_object k y.1 y.2 e.home y.3) in
      let o : x.1 ≡ y.1 = counted-same x.1 y.1 a.0 b.0 a.1 b.1 a.2 b.2
      (ap (number_at (names_of d)) x.4 ∙ s ∙ sym (ap (number_at (names_of d)) y.4)) in
      let f : IsMembrane d i c.home y.1 x.2
      = subst (λ (z : ObjId). IsMembrane d i c.home z x.2) o x.3 in
      let g : IsMembrane d k c.home y.1 y.2
      = subst (λ (z : Side). IsMembrane d k z y.1 y.2) ((q.own u).0 ∙ sym (p.own u).0) y.3 in
      (r.paired u).one_for_an_object i k y.1 x.2 y.2 c.home f g

  -- what stands behind a proxy is of another home
  another-home : d.joined ≡ false → (id behind shadow : ObjId) (side : Side) → IsMembrane d id side behind shadow
      → IsSomeAnd (cell_at d behind) (λ z. (same_side z.home side ≡ false) × (is_shadow z.kind ≡ false))
  another-home u id behind shadow side m =
      let t : HasItsTwo d m.cell.home m.cell.kind
      = All-at (λ (z : Cell). HasItsTwo d z.home z.kind) d.cells id.0 m.cell m.there (r.contained u).two_of_proxies in
      let w : HasItsTwo d side (kind.Membrane behind shadow)
      = subst (λ (z : Side). HasItsTwo d z (kind.Membrane behind shadow)) m.home_is
      (subst (λ (z : CellKind). HasItsTwo d m.cell.home z) m.kind_is t) in
      w.0

  -- so no object of the home is one of those
  counted-before : (home : Side) (i k : ObjId) (c e : Cell) (n : ℕ) → MayName d home i c → MayName d home k e
      → stand c ≡ Counted → stand e ≡ Before n → number_at (names_of d) i.0 ≡ number_at (names_of d) n → ⊥
  counted-before home i k c e n p q h j s =
      let y = behind-other home k e n q j in
      let u : d.joined ≡ false = y.0 in
      let b = some-there (cell_at d y.1) (λ z. stand z ≡ Counted)
      ((r.paired u).behind_is_object k y.1 y.2 e.home y.3) in
      let o : i ≡ y.1 = counted-same i y.1 c b.0 p.there b.1 h b.2 (s ∙ sym (ap (number_at (names_of d)) y.4)) in
      let f = some-there (cell_at d y.1) (λ z. (same_side z.home e.home ≡ false) × (is_shadow z.kind ≡ false))
      (another-home u k y.1 y.2 e.home y.3) in
      let g : Some c ≡ Some f.0 = sym p.there ∙ ap (cell_at d) o ∙ f.1 in
      let z : c ≡ f.0 = cc in
      let l : c.home.0 ≡ e.home.0 = ap (λ (side : Side). side.0) ((p.own u).0 ∙ sym (q.own u).0) in
      true≢false (sym (eq-eqb c.home.0 e.home.0 l) ∙ ap (λ (x : Cell). same_side x.home e.home) z ∙ f.2.0)

  names-apart : (home : Side) (i k : ObjId) (c e : Cell) → MayName d home i c → MayName d home k e
      → object_in (names_of d) i ≡ object_in (names_of d) k → i ≡ k
  names-apart home i k c e p q s = by (stand c) refl (stand e) refl
    where
      both : (a b : Stand) → stand c ≡ a → stand e ≡ b → stood (names_of d) i.0 (Some a) ≡ stood (names_of d) k.0 (Some b)
      both a b h j = sym (stands-for d i c a p.there h) ∙ s ∙ stands-for d k e b q.there j

      by : (a : Stand) → stand c ≡ a → (b : Stand) → stand e ≡ b → i ≡ k
      by Hidden h b j = absurd (not-hidden home i c p h)
      by a h Hidden j = absurd (not-hidden home k e q j)
      by Counted h Counted j =
          let n = both Counted Counted h j in
          counted-same i k c e p.there q.there h j cc
      by Counted h (AtPlace place) j = absurd (is-place _ _ (number_at (names_of d) i.0) place refl refl (both Counted (AtPlace place) h j))
      by Counted h (Before n) j =
          let o = both Counted (Before n) h j in
          absurd (counted-before home i k c e n p q h j cc)
      by (AtPlace place) h Counted j = absurd (is-place _ _ (number_at (names_of d) k.0) place refl refl (sym (both (AtPlace place) Counted h j)))
      by (AtPlace place) h (AtPlace other) j =
          let o = both (AtPlace place) (AtPlace other) h j in
          let w : other ≡ place = cc in
          place-same home i k c e place p q h (j ∙ ap AtPlace w)
      by (AtPlace place) h (Before n) j = absurd (is-place _ _ (number_at (names_of d) n) place refl refl (sym (both (AtPlace place) (Before n) h j)))
      by (Before m) h Counted j =
          let o = both (Before m) Counted h j in
          absurd (counted-before home k i e c m q p j h cc)
      by (Before m) h (AtPlace place) j = absurd (is-place _ _ (number_at (names_of d) m) place refl refl (both (Before m) (AtPlace place) h j))
      by (Before m) h (Before n) j =
          let o = both (Before m) (Before n) h j in
          before-same home i k c e m n p q h j cc

  -- ---- each stands for an object

  pub real-kind : (home : Side) (id : ObjId) (c : Cell) → MayName d home id c → IsRealKind d c.kind
  real-kind home id c m = by c.kind refl (behind-counted d r id c m.there)
    where
      by : (y : CellKind) → c.kind ≡ y → BehindCounted d y → IsRealKind d y
      by (kind.Membrane behind shadow) e b =
          let a = some-there (cell_at d behind) (λ z. stand z ≡ Counted) b in
          rw a.1 (ap is_counted a.2)
      by (kind.Shadow shape) e b = absurd (not-hidden home id c m (ap kind_stand e))
      by y e b = tt

-- ---- what a home may hold

pub may-name : (d : Data) (home : Side) (id : ObjId) (c : Cell) → MayHold d home (HeldObject id) → cell_at d id ≡ Some c
    → MayName d home id c
may-name d home id c h e =
    record { there = e; own = λ u. rw e at (All-head (IsOwn d home) id [] (h.own u)) }

module _ (d : Data) (r : IsReady d) (home : Side) where
  pub objects-apart : (i k : ObjId) → MayHold d home (HeldObject i) → MayHold d home (HeldObject k)
      → object_in (names_of d) i ≡ object_in (names_of d) k → i ≡ k
  objects-apart i k h j s =
      let a = there d i h.within in
      let b = there d k j.within in
      names-apart d r home i k a.0 b.0 (may-name d home i a.0 h a.1) (may-name d home k b.0 j b.1) s

  pub values-apart : (x y : Value) → MayHold d home (HeldValue x) → MayHold d home (HeldValue y) → AreApart d x y
  values-apart x y h j = λ i k p q s.
      objects-apart i k (value-object d home i (subst (λ (z : Value). MayHold d home (HeldValue z)) p h))
      (value-object d home k (subst (λ (z : Value). MayHold d home (HeldValue z)) q j)) s

  pub object-real : (id : ObjId) → MayHold d home (HeldObject id) → IsRealAt d id
  object-real id h =
      let a = there d id h.within in
      rw a.1 (real-kind d r home id a.0 (may-name d home id a.0 h a.1))

  pub value-real : (x : Value) → MayHold d home (HeldValue x) → IsReal d x
  value-real v.Undefined h = tt
  value-real v.Null h = tt
  value-real (v.Bool b) h = tt
  value-real (v.Whole z) h = tt
  value-real (v.Text t) h = tt
  value-real (v.Symbol t) h = tt
  value-real (v.Object id) h = object-real id (value-object d home id h)

-- the values of scopes
pub names-real : (d : Data) → IsReady d → HasRealNames d
names-real d r = λ n s l.
    let t : Scope = slice_index_or d.scopes n s in
    let e : slice_get d.scopes n ≡ Some t = slice_get-get_or d.scopes n s l in
    let id : ScopeId = record { 0 = n } in
    let h : HoldsScope d t.home t = scope-held d r t.home id t e (λ u. refl) in
    λ m b k. Maybe-weaker (λ x. MayHold d t.home (HeldValue x)) (IsReal d) (value-real d r t.home)
    (slice_index_or t.names m b).value (h.names m b k).1
