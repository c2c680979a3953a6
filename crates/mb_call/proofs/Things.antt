-- The objects of the graph that references name, in a ready world.
use Rattle.std.proofs.Common.{◌≡◌, ◌∙◌, List, None, Option, Some, ap, false, option_map, refl, sym, true, true≢false, ℕ}
use Rattle.std.proofs.lemmas.Option.{slice_get-map}
use Rattle.std.specs.Prelude.{IsSomeAnd}
use Rattle.mb_base.specs.declared.value.ObjId.{ObjId}
use Rattle.mb_base.specs.declared.value.Side.{Side}
use Rattle.mb_base.specs.declared.value.Value.TheVariants as v
use Rattle.mb_frames.proofs.AfterCalls.{no-part}
use Rattle.mb_frames.proofs.Apartness.{object-real}
use Rattle.mb_frames.proofs.Changing.{there}
use Rattle.mb_frames.proofs.HeldAs.{stands-as}
use Rattle.mb_frames.proofs.Renewing.{counted-kind}
use Rattle.mb_frames.proofs.Standard.{is-standard}
use Rattle.mb_frames.specs.Held.{HeldObject}
use Rattle.mb_frames.specs.Ready.{IsReady, MayHold}
use Rattle.mb_frames.specs.Real.{IsReal, IsRealKind}
use Rattle.mb_ordinary.proofs.InTheGraph.{of-numbered}
use Rattle.mb_ordinary.specs.Objects.{IsOrdinary, is_ordinary}
use Rattle.mb_ordinary.specs.Walks.{real}
use Rattle.mb_world.specs.Data.{AtPlace, Before, Counted, Data, Hidden, Stand, cell_at, is_counted, is_object_cell}
use Rattle.mb_world.specs.Data.{kind_stand, stand}
use Rattle.mb_world.specs.Formed.{is_of_membrane}
use Rattle.mb_world.specs.Graph.{Item, Thing}
use Rattle.mb_world.specs.Ids.{ObjIn}
use Rattle.mb_world.specs.Image.{Image, names_of, object_at, object_in, object_of, owner_by, stood, thing_in}
use Rattle.mb_world.specs.Objects.{thing_at}
use Rattle.mb_world.specs.declared.cell.Cell.{Cell}
use Rattle.mb_world.specs.declared.cell.CellKind.{CellKind}
use Rattle.mb_world.specs.declared.cell.CellKind.TheVariants as kind

-- ---- a cell that is no part of the membrane

module _ (d : Data) (r : IsReady d) (id : ObjId) (c : Cell) (e : cell_at d id ≡ Some c) where
  built-in-thing : (log : List Item) (place : ℕ) → c.kind ≡ kind.BuiltIn place
      → object_at d id ≡ thing_at (Image d log) (object_in (names_of d) id)
  built-in-thing log place k =
      ap (option_map (object_of (names_of d))) e
      ∙ ap (λ (y : CellKind). let t : Thing = record (thing_in (names_of d) c) { owner = owner_by y c.home } in
      Some t) k
      ∙ is-standard d r id c place e k
      ∙ sym (ap (thing_at (Image d log)) (stands-as d id c e place (ap kind_stand k)))

  pub cell-thing : is_of_membrane c.kind ≡ false → (log : List Item)
      → thing_at (Image d log) (object_in (names_of d) id) ≡ Some (object_of (names_of d) c)
  cell-thing m log = sym (by c.kind refl m) ∙ ap (option_map (object_of (names_of d))) e
    where
      by : (y : CellKind) → c.kind ≡ y → is_of_membrane y ≡ false
          → object_at d id ≡ thing_at (Image d log) (object_in (names_of d) id)
      by (kind.BuiltIn place) q n = built-in-thing log place q
      by y q n = of-numbered d id c log e (ap (λ (k : CellKind). is_counted (kind_stand k)) q
          ∙ ap is_counted (counted-kind y n refl))

-- ---- one that a home may hold

ordinary-kind : (d : Data) (y : CellKind) → IsRealKind d y → is_ordinary y ≡ true → is_of_membrane y ≡ false
ordinary-kind d (kind.Membrane behind shadow) k o = absurd (true≢false (sym o))
ordinary-kind d (kind.Shadow shape) k o = absurd k
ordinary-kind d y k o = refl

module _ (d : Data) (r : IsReady d) (home : Side) (id : ObjId) (h : MayHold d home (HeldObject id)) where
  pub no-membrane : (c : Cell) → cell_at d id ≡ Some c → is_ordinary c.kind ≡ true → is_of_membrane c.kind ≡ false
  no-membrane c e o = ordinary-kind d c.kind (rw e at (object-real d r home id h)) o

  -- what a method is performed on
  pub thing-there : IsOrdinary (cell_at d id) → (log : List Item)
      → thing_at (Image d log) (object_in (names_of d) id) ≡ object_at d id
  thing-there o log =
      let c = there d id h.within in
      cell-thing d r id c.0 c.1 (no-membrane c.0 c.1 (rw c.1 at o)) log
      ∙ sym (ap (option_map (object_of (names_of d))) c.1)

-- ---- what stands behind a membrane proxy

-- the object that a reference stands for, which is no part of the membrane
pub record Behind (d : Data) (x : ObjId) : Type 0 where
  pub cell : Cell
  pub there : cell_at d (real d x) ≡ Some cell
  pub no_part : is_of_membrane cell.kind ≡ false
  pub same : object_in (names_of d) x ≡ object_in (names_of d) (real d x)

counted : (s : Stand) → is_counted s ≡ true → s ≡ Counted
counted Counted h = refl
counted (AtPlace place) h = absurd (true≢false (sym h))
counted (Before behind) h = absurd (true≢false (sym h))
counted Hidden h = absurd (true≢false (sym h))

module _ (d : Data) where
  stands-by : (id : ObjId) (c : Cell) (s : Stand) → cell_at d id ≡ Some c → stand c ≡ s
      → object_in (names_of d) id ≡ stood (names_of d) id.0 (Some s)
  stands-by id c s e q =
      ap (stood (names_of d) id.0) (slice_get-map stand d.cells id.0 ∙ ap (option_map stand) e ∙ ap Some q)

  itself : (x : ObjId) (c : Cell) → cell_at d x ≡ Some c → real d x ≡ x → is_of_membrane c.kind ≡ false → Behind d x
  itself x c e q m = record {
    cell = c;
    there = ap (cell_at d) q ∙ e;
    no_part = m;
    same = ap (object_in (names_of d)) (sym q);
  }

  behind : (x b s : ObjId) (c : Cell) → cell_at d x ≡ Some c → c.kind ≡ kind.Membrane b s → (o : Option Cell)
      → cell_at d b ≡ o → IsSomeAnd o (λ y. is_object_cell y ≡ true) → Behind d x
  behind x b s c e k None q h = absurd h
  behind x b s c e k (Some y) q h =
      let i : real d x ≡ b = rw (e, k) refl in
      record {
        cell = y;
        there = ap (cell_at d) i ∙ q;
        no_part = no-part y.kind h;
        same = stands-by x c (Before b.0) e (ap kind_stand k) ∙ sym (stands-by b y Counted q (counted (stand y) h))
            ∙ ap (object_in (names_of d)) (sym i);
      }

  pub real-there : (x : ObjId) → ObjIn d x → IsReal d (v.Object x) → Behind d x
  real-there x i h =
      let c = there d x i in
      by c.0 c.1 c.0.kind refl (rw c.1 at h)
    where
      by : (c : Cell) → cell_at d x ≡ Some c → (y : CellKind) → c.kind ≡ y → IsRealKind d y → Behind d x
      by c e (kind.Membrane b s) k w = behind x b s c e k (cell_at d b) refl w
      by c e (kind.Shadow shape) k w = absurd w
      by c e y k w = itself x c e (rw (e, k) refl) (rw k refl)
