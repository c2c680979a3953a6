-- Worlds whose cells keep their homes and kinds.
use Rattle.std.proofs.Common.{◌≡◌, ◌≢◌, ℕ, zero, suc, List, [], ◌∷◌, slice_get, slice_set, Some, true, false, refl, ap, ◌∙◌, ◌⊎◌, inl, inr}
use Rattle.std.specs.Prelude.{All, IsSomeAnd}
use Rattle.std.proofs.lemmas.List.Elements.{All-weaker}
use Rattle.mb_base.specs.declared.value.ObjId.{ObjId}
use Rattle.mb_base.specs.declared.value.Side.{Side}
use Rattle.mb_world.specs.declared.cell.Cell.{Cell}
use Rattle.mb_world.specs.declared.cell.CellKind.{CellKind}
use Rattle.mb_world.specs.declared.cell.CellKind.TheVariants.{Membrane}
use Rattle.mb_world.specs.Data.{Data, Counted, kind_stand, cell_at, same_side}
use Rattle.mb_world.specs.Contained.{IsOwn, HasItsTwo, IsMembrane, is_shadow}
use Rattle.mb_maps.specs.Crossed.{KeepsCells}
use Rattle.mb_maps.proofs.Lists.{some-get}

-- ---- a list with one element set

pub get-set : {A : Type 0} (xs : List A) (k : ℕ) (x y : A) → slice_get xs k ≡ Some x → slice_get (slice_set xs k y) k ≡ Some y
get-set [] k x y e = cc
get-set (z ∷ zs) zero x y e = refl
get-set (z ∷ zs) (suc k) x y e = get-set zs k x y e

pub get-other : {A : Type 0} (xs : List A) (k i : ℕ) (y : A) → i ≢ k → slice_get (slice_set xs k y) i ≡ slice_get xs i
get-other [] k i y n = refl
get-other (z ∷ zs) zero zero y n = absurd (n refl)
get-other (z ∷ zs) zero (suc i) y n = refl
get-other (z ∷ zs) (suc k) zero y n = refl
get-other (z ∷ zs) (suc k) (suc i) y n = get-other zs k i y (λ e. n (ap suc e))

pub same-or-not : (a b : ℕ) → (a ≡ b) ⊎ (a ≢ b)
same-or-not zero zero = inl refl
same-or-not zero (suc b) = inr (λ e. cc)
same-or-not (suc a) zero = inr (λ e. cc)
same-or-not (suc a) (suc b) = elim (same-or-not a b) [ inl e ↦ inl (ap suc e) | inr n ↦ inr (λ e. n (let f : a ≡ b = cc in f)) ]

-- ---- faces

-- of each cell home and kind stay
abbrev pub KeepsFaces : Data → Data → Type 0
KeepsFaces a b = (id : ObjId) (c : Cell) → cell_at a id ≡ Some c
    → (x : Cell) × (cell_at b id ≡ Some x) × (x.home ≡ c.home) × (x.kind ≡ c.kind)

pub faces-cells : (a b : Data) → KeepsCells a b → KeepsFaces a b
faces-cells a b k id c e = (c, k id c e, refl, refl)

pub faces-same : (a : Data) → KeepsFaces a a
faces-same a id c e = (c, e, refl, refl)

pub faces-then : (a b c : Data) → KeepsFaces a b → KeepsFaces b c → KeepsFaces a c
faces-then a b c k l id x e =
    let q = k id x e in
    let r = l id q.0 q.1 in
    (r.0, r.1, r.2 ∙ q.2, r.3 ∙ q.3)

module _ (a b : Data) (k : KeepsFaces a b) where
  pub faces-some : (P : Side → CellKind → Type 0) (id : ObjId) → IsSomeAnd (cell_at a id) (λ c. P c.home c.kind)
      → IsSomeAnd (cell_at b id) (λ c. P c.home c.kind)
  faces-some P id h =
      let c = some-get (λ (c : Cell). P c.home c.kind) (cell_at a id) h in
      let q = k id c.0 c.1 in
      rw q.1 (rw (q.2, q.3) c.2)

  pub own-moves : (side : Side) (o : ObjId) → IsOwn a side o → IsOwn b side o
  own-moves side o h = faces-some (λ home kind. (home ≡ side) × (is_shadow kind ≡ false)) o h

  pub owns-move : (side : Side) (os : List ObjId) → All (IsOwn a side) os → All (IsOwn b side) os
  owns-move side os h = All-weaker (IsOwn a side) (IsOwn b side) (own-moves side) os h

  pub two-move : (side : Side) (kind : CellKind) → HasItsTwo a side kind → HasItsTwo b side kind
  two-move side (Membrane behind shadow) h = (
    faces-some (λ home kind. (same_side home side ≡ false) × (is_shadow kind ≡ false)) behind h.0,
    faces-some (λ home kind. (home ≡ side) × (is_shadow kind ≡ true)) shadow h.1,
  )
  two-move side kind h = h

  pub counted-moves : (id : ObjId) → IsSomeAnd (cell_at a id) (λ c. kind_stand c.kind ≡ Counted) → IsSomeAnd (cell_at b id) (λ c. kind_stand c.kind ≡ Counted)
  counted-moves id h = faces-some (λ home kind. kind_stand kind ≡ Counted) id h

  pub membrane-moves : (id behind shadow : ObjId) (side : Side) → IsMembrane a id side behind shadow → IsMembrane b id side behind shadow
  membrane-moves id behind shadow side m =
      let q = k id m.cell m.there in
      record { cell = q.0; there = q.1; home_is = q.2 ∙ m.home_is; kind_is = q.3 ∙ m.kind_is }
