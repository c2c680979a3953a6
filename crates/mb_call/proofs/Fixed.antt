-- A built-in is fixed: what a method makes of it is what it was.
use Rattle.std.proofs.Common.{◌≡◌, ◌∙◌, ◌∷◌, List, None, Ok, Option, Some, [], ap, false, option_map, refl, slice_get}
use Rattle.std.proofs.Common.{slice_set, subst, suc, sym, zero, ℕ}
use Rattle.mb_base.specs.declared.value.ObjId.{ObjId}
use Rattle.mb_base.specs.declared.value.Side.{Side}
use Rattle.mb_call.proofs.Altering.{part-altered}
use Rattle.mb_desc.specs.declared.descriptor.Full.{Full}
use Rattle.mb_frames.proofs.HeldAs.{stands-as}
use Rattle.mb_frames.proofs.Passed.{Part-by, Part-sure}
use Rattle.mb_frames.proofs.Readying.{changed-same}
use Rattle.mb_frames.proofs.Renewing.{counted-kind}
use Rattle.mb_frames.proofs.Standard.{is-standard}
use Rattle.mb_frames.specs.Passing.{Part}
use Rattle.mb_frames.specs.Ready.{Changed, IsReady, is_built_in}
use Rattle.mb_frames.specs.Stepping.{Sure}
use Rattle.mb_frames.specs.declared.frame.Move.{Move}
use Rattle.mb_growth.proofs.BuiltIns.{IsStill, still-all, still-found}
use Rattle.mb_model.specs.Operations.Makings.{alter, altered}
use Rattle.mb_model.specs.Task.{Answer, Nothing}
use Rattle.mb_model.specs.Writing.{Row}
use Rattle.mb_world.specs.Data.{Data, cell_at, change_cell, is_counted, kind_stand, set_cell, stand}
use Rattle.mb_world.specs.Formed.{as_standard, is_of_membrane}
use Rattle.mb_world.specs.Graph.{Graph, Thing}
use Rattle.mb_world.specs.Image.{Image, names_of, object_in, thing_in}
use Rattle.mb_world.specs.Intrinsics.{Intrinsic, intrinsic}
use Rattle.mb_world.specs.Key.{PropertyKey}
use Rattle.mb_world.specs.Objects.{find_property, own_property, thing_at}
use Rattle.mb_world.specs.Standard.{properties_of, standard}
use Rattle.mb_world.specs.Value.{BuiltIn, Val}
use Rattle.mb_world.specs.declared.cell.Cell.{Cell}
use Rattle.mb_world.specs.declared.cell.CellKind.{CellKind}
use Rattle.mb_world.specs.declared.cell.CellKind.TheVariants as kind

set-there : {A : Type 0} (xs : List A) (i : ℕ) (x : A) → slice_get xs i ≡ Some x → slice_set xs i x ≡ xs
set-there [] i x e = refl
set-there (y ∷ ys) zero x e = (let q : y ≡ x = cc in ap (λ z. z ∷ ys) (sym q))
set-there (y ∷ ys) (suc i) x e = ap (λ zs. y ∷ zs) (set-there ys i x e)

-- a cell that becomes what it was
pub change-none : (d : Data) (id : ObjId) (c : Cell) (F : Cell → Cell) → cell_at d id ≡ Some c → F c ≡ c
    → change_cell d id F ≡ d
change-none d id c F e q =
    let i : change_cell d id F ≡ set_cell d id (F c) = rw e refl in
    i ∙ ap (set_cell d id) q
    ∙ ap (λ (cs : List Cell). let y : Data = record d { cells = cs } in y) (set-there d.cells id.0 c e)

altered-fixed : (o : Val) (place : ℕ) (f : Thing → Thing) (t : Option Thing) (g : Graph) → o ≡ BuiltIn place
    → altered o f t g ≡ g
altered-fixed o place f None g e = refl
altered-fixed o place f (Some t) g e = rw e refl

-- ---- the properties of a built-in

module _ (d : Data) (r : IsReady d) (id : ObjId) (c : Cell) (there : cell_at d id ≡ Some c) (place : ℕ)
    (k : c.kind ≡ kind.BuiltIn place) where
  properties-by : (o : Option Intrinsic) → Some (as_standard (thing_in (names_of d) c)) ≡ option_map (standard place) o
      → (key : PropertyKey) (f : Full Val) → find_property key (thing_in (names_of d) c).properties ≡ Some f → IsStill f
  properties-by None e key f q = cc
  properties-by (Some i) e key f q =
      let w : as_standard (thing_in (names_of d) c) ≡ standard place i = cc in
      let p : (thing_in (names_of d) c).properties ≡ properties_of i = ap (λ (t : Thing). t.properties) w in
      still-found key (properties_of i) f (still-all i) (sym (ap (find_property key) p) ∙ q)

  -- none can be configured, and none written
  pub built-in-still : (key : PropertyKey) (f : Full Val) → own_property key (thing_in (names_of d) c) ≡ Some f
      → IsStill f
  built-in-still key f q = properties-by (intrinsic place) (is-standard d r id c place there k) key f q

-- ---- what is no built-in changes, and a built-in doesn't

module _ (d : Data) (r : IsReady d) (home : Side) (id : ObjId) (c : Cell) (there : cell_at d id ≡ Some c)
    (membrane : is_of_membrane c.kind ≡ false) (F : Cell → Cell)
    (fixed : (place : ℕ) → c.kind ≡ kind.BuiltIn place → F c ≡ c) where
  pub part-changed : stand (F c) ≡ stand c → (m : Move) (u : ℕ) (f : Thing → Thing) (p : Answer → Graph → Row)
      → (is_built_in c.kind ≡ false → thing_in (names_of d) (F c) ≡ f (thing_in (names_of d) c))
      → Sure home (change_cell d id F) (p Nothing) m
      → Part home (Ok m) d (change_cell d id F) u u (alter (object_in (names_of d) id) f p)
  part-changed same m u f p e h = by c.kind refl
    where
      still : (place : ℕ) → c.kind ≡ kind.BuiltIn place → change_cell d id F ≡ d
      still place q = change-none d id c F there (fixed place q)

      by : (y : CellKind) → c.kind ≡ y → Part home (Ok m) d (change_cell d id F) u u
          (alter (object_in (names_of d) id) f p)
      by (kind.BuiltIn place) q =
          subst (λ (x : Data). Part home (Ok m) d x u u (alter (object_in (names_of d) id) f p)) (sym (still place q))
          (Part-by home (Ok m) d d u u (alter (object_in (names_of d) id) f p) (p Nothing)
          (λ log. ap (p Nothing) (altered-fixed (object_in (names_of d) id) place f
          (thing_at (Image d log) (object_in (names_of d) id)) (Image d log)
          (stands-as d id c there place (ap kind_stand q))))
          (Part-sure home d u (p Nothing) m (subst (λ (x : Data). Sure home x (p Nothing) m) (still place q) h)))
      by y q =
          part-altered d id c F there same
          (ap is_counted (counted-kind c.kind membrane (rw q refl))) home m u f p (e (rw q refl)) r.ids h

  pub kept-changed : (is_built_in c.kind ≡ false → Changed home d (change_cell d id F))
      → Changed home d (change_cell d id F)
  kept-changed h = by c.kind refl
    where
      by : (y : CellKind) → c.kind ≡ y → Changed home d (change_cell d id F)
      by (kind.BuiltIn place) q = rw (change-none d id c F there (fixed place q)) (changed-same home d r)
      by y q = h (rw q refl)
