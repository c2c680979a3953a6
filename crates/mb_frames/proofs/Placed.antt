-- Worlds in which one cell of a home changed, which is no part of the membrane.
use Rattle.mb_base.specs.declared.value.ObjId.{ObjId}
use Rattle.mb_base.specs.declared.value.Side.{Side}
use Rattle.mb_frames.proofs.AfterCalls.{CellOwn, cells-own, jobs-own, owns, same-side, scopes-own, still}
use Rattle.mb_frames.proofs.Changing.{paired-from, stand-kept}
use Rattle.mb_frames.proofs.Owning.{ids-own}
use Rattle.mb_frames.proofs.Scoped.{filter-set}
use Rattle.mb_frames.specs.Wholeness.{KeepsCell, KeepsKind, KeptWorld}
use Rattle.mb_world.proofs.Grow.{All-at}
use Rattle.mb_world.proofs.Worlds.{Grows-set}
use Rattle.mb_world.specs.Contained.{Contained, HasItsTwo, IsOfTable, IsOwn, Paired, in_cell}
use Rattle.mb_world.specs.Data.{Data, cell_at, same_side, set_cell}
use Rattle.mb_world.specs.Formed.{is_of_membrane}
use Rattle.mb_world.specs.Grows.{Grows}
use Rattle.mb_world.specs.Ids.{CellIn, HasItsIds, ObjIn}
use Rattle.mb_world.specs.declared.cell.Cell.{Cell}
use Rattle.mb_world.specs.declared.cell.CellKind.{CellKind}
use Rattle.mb_world.specs.declared.cell.CellKind.TheVariants as kind
use Rattle.std.proofs.Common.{List, None, Some, [], ap, false, inl, inr, not, refl, slice_get, slice_set, subst, sym, true, true≢false, zero, suc, ℕ, ◌∙◌, ◌∷◌, ◌≡◌, ◌⊎◌}
use Rattle.std.proofs.lemmas.List.Elements.{All-set}
use Rattle.std.specs.Prelude.{All}

-- ---- lists in which one changed

pub set-forth : {A : Type 0} (xs : List A) (k : ℕ) (x y : A) (n : ℕ) (z : A) → slice_get xs k ≡ Some x
    → slice_get xs n ≡ Some z
    → ((z ≡ x) × (slice_get (slice_set xs k y) n ≡ Some y)) ⊎ (slice_get (slice_set xs k y) n ≡ Some z)
set-forth [] k x y n z e h = inr h
set-forth (u ∷ us) zero x y zero z e h = inl (cc, refl)
set-forth (u ∷ us) zero x y (suc n) z e h = inr h
set-forth (u ∷ us) (suc k) x y zero z e h = inr h
set-forth (u ∷ us) (suc k) x y (suc n) z e h = set-forth us k x y n z e h

set-back : {A : Type 0} (xs : List A) (k : ℕ) (x y : A) (n : ℕ) (z : A) → slice_get xs k ≡ Some x
    → slice_get (slice_set xs k y) n ≡ Some z
    → (w : A) × (slice_get xs n ≡ Some w) × ((z ≡ w) ⊎ ((w ≡ x) × (z ≡ y)))
set-back [] k x y n z e h = (z, h, inl refl)
set-back (u ∷ us) zero x y zero z e h = (x, e, inr (refl, cc))
set-back (u ∷ us) zero x y (suc n) z e h = (z, h, inl refl)
set-back (u ∷ us) (suc k) x y zero z e h = (z, h, inl refl)
set-back (u ∷ us) (suc k) x y (suc n) z e h = set-back us k x y n z e h

-- ---- kinds

pub part-kept : (k later : CellKind) → KeepsKind k later → is_of_membrane k ≡ false → is_of_membrane later ≡ false
part-kept kind.Plain later h s = rw h s
part-kept kind.Array later h s = rw h s
part-kept (kind.Function code) later h s = rw h s
part-kept (kind.BuiltIn n) later h s = rw h s
part-kept (kind.Fault e) later h s = rw h s
part-kept (kind.Proxy None handler shape) later h s = rw h s
part-kept (kind.Proxy (Some target) handler shape) later h s = elim h [ inl r ↦ rw r refl | inr r ↦ rw r refl ]
part-kept (kind.Revoker proxy) later h s = rw h s
part-kept (kind.Membrane behind shadow) later h s = rw h s
part-kept (kind.Shadow shape) later h s = rw h s
part-kept (kind.Collection coll) later h s = rw h s

table-kept : (k later : CellKind) → KeepsKind k later → IsOfTable k → IsOfTable later
table-kept kind.Plain later h s = rw h s
table-kept kind.Array later h s = rw h s
table-kept (kind.Function code) later h s = rw h s
table-kept (kind.BuiltIn n) later h s = rw h s
table-kept (kind.Fault e) later h s = rw h s
table-kept (kind.Proxy None handler shape) later h s = rw h s
table-kept (kind.Proxy (Some target) handler shape) later h s = elim h [ inl r ↦ rw r tt | inr r ↦ rw r tt ]
table-kept (kind.Revoker proxy) later h s = rw h s
table-kept (kind.Membrane behind shadow) later h s = rw h s
table-kept (kind.Shadow shape) later h s = rw h s
table-kept (kind.Collection coll) later h s = rw h s

place-back : (k later : CellKind) (place : ℕ) → KeepsKind k later → later ≡ kind.BuiltIn place → k ≡ kind.BuiltIn place
place-back kind.Plain later place h s = sym h ∙ s
place-back kind.Array later place h s = sym h ∙ s
place-back (kind.Function code) later place h s = sym h ∙ s
place-back (kind.BuiltIn n) later place h s = sym h ∙ s
place-back (kind.Fault e) later place h s = sym h ∙ s
place-back (kind.Proxy None handler shape) later place h s = sym h ∙ s
place-back (kind.Proxy (Some target) handler shape) later place h s = elim h [ inl r ↦ sym r ∙ s | inr r ↦ cc ]
place-back (kind.Revoker proxy) later place h s = sym h ∙ s
place-back (kind.Membrane behind shadow) later place h s = sym h ∙ s
place-back (kind.Shadow shape) later place h s = sym h ∙ s
place-back (kind.Collection coll) later place h s = sym h ∙ s

none-of-two : (d : Data) (home : Side) (k : CellKind) → is_of_membrane k ≡ false → HasItsTwo d home k
none-of-two d home kind.Plain h = tt
none-of-two d home kind.Array h = tt
none-of-two d home (kind.Function code) h = tt
none-of-two d home (kind.BuiltIn n) h = tt
none-of-two d home (kind.Fault e) h = tt
none-of-two d home (kind.Proxy target handler shape) h = tt
none-of-two d home (kind.Revoker proxy) h = tt
none-of-two d home (kind.Membrane behind shadow) h = absurd (true≢false h)
none-of-two d home (kind.Shadow shape) h = tt
none-of-two d home (kind.Collection coll) h = tt

-- ---- worlds

module _ (d : Data) (i : HasItsIds d) (id : ObjId) (x y : Cell) (e : cell_at d id ≡ Some x)
    (m : is_of_membrane x.kind ≡ false) (k : KeepsCell d (set_cell d id y) x y) where
  pub set-grows : Grows d (set_cell d id y)
  set-grows = Grows-set d id x y e (stand-kept x.kind y.kind k.kind)

  pub set-cells : (n : ObjId) (z : Cell) → cell_at d n ≡ Some z
      → (w : Cell) × (cell_at (set_cell d id y) n ≡ Some w) × KeepsCell d (set_cell d id y) z w
  set-cells n z u = elim (set-forth d.cells id.0 x y n.0 z e u) [
    | inl r ↦ (y, r.1, subst (λ (w : Cell). KeepsCell d (set_cell d id y) w y) (sym r.0) k)
    | inr r ↦ (z, r, still d (set_cell d id y) set-grows z (All-at (CellIn d) d.cells n.0 z u i.cells_in))
  ]

  pub set-parts : (n : ObjId) (z : Cell) → is_of_membrane z.kind ≡ true
      → (cell_at d n ≡ Some z → cell_at (set_cell d id y) n ≡ Some z)
      × (cell_at (set_cell d id y) n ≡ Some z → cell_at d n ≡ Some z)
  set-parts n z t = (
    λ u. elim (set-forth d.cells id.0 x y n.0 z e u) [
      | inl r ↦ absurd (true≢false (sym t ∙ ap (λ (w : Cell). is_of_membrane w.kind) r.0 ∙ m))
      | inr r ↦ r
    ],
    λ u.
        let b = set-back d.cells id.0 x y n.0 z e u in
        elim b.2 [
          | inl r ↦ b.1 ∙ ap Some (sym r)
          | inr r ↦ absurd (true≢false (sym t ∙ ap (λ (w : Cell). is_of_membrane w.kind) r.1
              ∙ part-kept x.kind y.kind k.kind m))
        ],
  )

  -- a built-in was one before
  pub set-place : (n : ObjId) (z : Cell) (place : ℕ) → cell_at (set_cell d id y) n ≡ Some z → z.kind ≡ kind.BuiltIn place
      → (w : Cell) × (cell_at d n ≡ Some w) × (z.home ≡ w.home) × (w.kind ≡ kind.BuiltIn place)
  set-place n z place u q =
      let b = set-back d.cells id.0 x y n.0 z e u in
      elim b.2 [
        | inl r ↦ (b.0, b.1, ap (λ (w : Cell). w.home) r, sym (ap (λ (w : Cell). w.kind) r) ∙ q)
        | inr r ↦ (
          b.0,
          b.1,
          ap (λ (w : Cell). w.home) r.1 ∙ k.home ∙ sym (ap (λ (w : Cell). w.home) r.0),
          ap (λ (w : Cell). w.kind) r.0
              ∙ place-back x.kind y.kind place k.kind (sym (ap (λ (w : Cell). w.kind) r.1) ∙ q),
        )
      ]

module _ (home : Side) (d : Data) (i : HasItsIds d) (c : Contained d) (p : Paired d) (id : ObjId) (x y : Cell)
    (e : cell_at d id ≡ Some x) (h : x.home ≡ home) (m : is_of_membrane x.kind ≡ false)
    (k : KeepsCell d (set_cell d id y) x y) where
  set-own : All (IsOwn d home) (in_cell y) → All (ObjIn d) (in_cell y) → CellOwn (set_cell d id y) y
  set-own o q =
      let r : y.home ≡ home = k.home ∙ h in
      record {
        own = subst (λ (s : Side). All (IsOwn (set_cell d id y) s) (in_cell y)) (sym r)
            (ids-own d (set_cell d id y) (owns d (set_cell d id y) (set-cells d i id x y e m k)) home (in_cell y) q o);
        two = none-of-two (set_cell d id y) y.home y.kind (part-kept x.kind y.kind k.kind m);
        table = table-kept x.kind y.kind k.kind (All-at (λ (w : Cell). IsOfTable w.kind) d.cells id.0 x e c.of_table);
      }

  pub set-kept : All (IsOwn d home) (in_cell y) → All (ObjIn d) (in_cell y) → KeptWorld home d (set_cell d id y)
  set-kept o q =
      let all : All (CellOwn (set_cell d id y)) (slice_set d.cells id.0 y)
      = All-set (CellOwn (set_cell d id y)) d.cells id.0 y (set-own o q)
      (cells-own d (set_cell d id y) (set-cells d i id x y e m k) i c) in
      record {
        contained = record {
          cells_own = λ u v w. (all u v w).own;
          two_of_proxies = λ u v w. (all u v w).two;
          scopes_own = scopes-own d (set_cell d id y) (set-cells d i id x y e m k) i c;
          jobs_own = jobs-own d (set_cell d id y) (set-cells d i id x y e m k) i c;
          of_table = λ u v w. (all u v w).table;
          one_for_a_place = λ a b place f g u v w s t.
              let l = set-place d i id x y e m k a f place u s in
              let r = set-place d i id x y e m k b g place v t in
              c.one_for_a_place a b place l.0 r.0 l.1 r.1 (sym l.2 ∙ w ∙ r.2) l.3 r.3;
        };
        paired = paired-from d (set_cell d id y) i (set-parts d i id x y e m k) (set-cells d i id x y e m k) (set-grows d i id x y e m k) p refl refl;
        rules = refl;
        entries = refl;
        revoked = refl;
        joined = refl;
        membrane = (set-parts d i id x y e m k);
        resolves = (set-grows d i id x y e m k);
        opposite = rw (filter-set (λ (w : ℕ × Cell). not (same_side w.1.home home)) 0 d.cells id.0 x y e
            (λ n. rw h (ap not (same-side home))) (λ n. rw (k.home, h) (ap not (same-side home)))) refl;
        cells = (set-cells d i id x y e m k);
      }
