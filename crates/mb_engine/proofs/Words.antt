-- What the line of an uncaught throw says of an object: its kind, of a membrane proxy that of the one behind.
use Rattle.std.proofs.Common.{List, None, Option, Some, [], ap, option_map, refl, slice_get, sym, true, true≢false, ℕ}
use Rattle.std.proofs.Common.{◌∙◌, ◌≡◌, ◌≢◌}
use Rattle.std.proofs.lemmas.Option.{slice_get-map}
use Rattle.mb_base.specs.declared.value.ObjId.{ObjId}
use Rattle.mb_frames.specs.Ready.{IsReady}
use Rattle.mb_frames.specs.Real.{IsRealKind}
use Rattle.mb_model.specs.Story.{kind_text, thing_text, thrown_text}
use Rattle.mb_world.proofs.AfterCalls.{of-cell}
use Rattle.mb_world.specs.Data.{AtPlace, Before, Counted, Data, Hidden, Stand, cell_at, is_counted, is_object_cell}
use Rattle.mb_world.specs.Data.{kind_stand, stand}
use Rattle.mb_world.specs.Graph.{Graph, Item}
use Rattle.mb_world.specs.Image.{Image, Names, kind_in, names_of, object_in, stood}
use Rattle.mb_world.specs.Intrinsics.{Intrinsic, intrinsic}
use Rattle.mb_world.specs.Objects.{thing_at}
use Rattle.mb_world.specs.Standard.{standard}
use Rattle.mb_world.specs.declared.cell.Cell.{Cell}
use Rattle.mb_world.specs.declared.cell.CellKind.{CellKind}
use Rattle.mb_world.specs.declared.cell.CellKind.TheVariants as k

counted-is : (s : Stand) → is_counted s ≡ true → s ≡ Counted
counted-is Counted h = refl
counted-is (AtPlace place) h = absurd (true≢false (sym h))
counted-is (Before behind) h = absurd (true≢false (sym h))
counted-is Hidden h = absurd (true≢false (sym h))

built-in-word : (place : ℕ) (i : Option Intrinsic) → i ≢ None
    → thing_text (option_map (standard place) i) ≡ kind_text (kind_in (record { texts = []; stands = [] }) [] k.Plain)
built-in-word place None h = absurd (h refl)
built-in-word place (Some i) h = refl

stood-thrown : (g : Graph) (n : Names) (i : ℕ) (s : Option Stand)
    → thrown_text g (stood n i s) ≡ thing_text (thing_at g (stood n i s))
stood-thrown g n i (Some Counted) = refl
stood-thrown g n i (Some (AtPlace place)) = refl
stood-thrown g n i (Some (Before behind)) = refl
stood-thrown g n i (Some Hidden) = refl
stood-thrown g n i None = refl

-- no object has a primitive's text
pub object-thrown : (g : Graph) (n : Names) (id : ObjId)
    → thrown_text g (object_in n id) ≡ thing_text (thing_at g (object_in n id))
object-thrown g n id = stood-thrown g n id.0 (slice_get n.stands id.0)

module _ (d : Data) (log : List Item) where
  own-word : (id : ObjId) (c : Cell) → cell_at d id ≡ Some c → is_object_cell c ≡ true
      → thing_text (thing_at (Image d log) (object_in (names_of d) id))
      ≡ kind_text (kind_in (names_of d) c.slots c.kind)
  own-word id c e o = ap thing_text (of-cell d id c log e o)

  stood-as : (id : ObjId) (c : Cell) → cell_at d id ≡ Some c
      → object_in (names_of d) id ≡ stood (names_of d) id.0 (Some (stand c))
  stood-as id c e = ap (stood (names_of d) id.0) (slice_get-map stand d.cells id.0 ∙ ap (option_map stand) e)

  counted : (id : ObjId) (c : Cell) (kind : CellKind) → cell_at d id ≡ Some c → c.kind ≡ kind
      → is_counted (kind_stand kind) ≡ true
      → thing_text (thing_at (Image d log) (object_in (names_of d) id))
      ≡ kind_text (kind_in (names_of d) c.slots c.kind)
  counted id c kind e q h = own-word id c e (ap (λ y. is_counted (kind_stand y)) q ∙ h)

  pub real-word : IsReady d → (id : ObjId) (c : Cell) (kind : CellKind) → cell_at d id ≡ Some c → c.kind ≡ kind
      → IsRealKind d kind → ((behind shadow : ObjId) → kind ≡ k.Membrane behind shadow → ⊥)
      → thing_text (thing_at (Image d log) (object_in (names_of d) id))
      ≡ kind_text (kind_in (names_of d) c.slots c.kind)
  real-word r id c (k.BuiltIn place) e q real m =
      ap (λ v. thing_text (thing_at (Image d log) v))
      (stood-as id c e ∙ ap (λ y. stood (names_of d) id.0 (Some (kind_stand y))) q)
      ∙ built-in-word place (intrinsic place) (r.of_table id place c e q)
      ∙ sym (ap (λ y. kind_text (kind_in (names_of d) c.slots y)) q)
  real-word r id c (k.Membrane behind shadow) e q real m = absurd (m behind shadow refl)
  real-word r id c (k.Shadow shape) e q real m = absurd real
  real-word r id c k.Plain e q real m = counted id c k.Plain e q refl
  real-word r id c k.Array e q real m = counted id c k.Array e q refl
  real-word r id c (k.Function code) e q real m = counted id c (k.Function code) e q refl
  real-word r id c (k.Fault kind) e q real m = counted id c (k.Fault kind) e q refl
  real-word r id c (k.Proxy target handler shape) e q real m = counted id c (k.Proxy target handler shape) e q refl
  real-word r id c (k.Revoker proxy) e q real m = counted id c (k.Revoker proxy) e q refl
  real-word r id c (k.Collection coll) e q real m = counted id c (k.Collection coll) e q refl

  pub behind-word : (id behind shadow : ObjId) (c b : Cell) → cell_at d id ≡ Some c → c.kind ≡ k.Membrane behind shadow
      → cell_at d behind ≡ Some b → is_object_cell b ≡ true
      → thing_text (thing_at (Image d log) (object_in (names_of d) id))
      ≡ kind_text (kind_in (names_of d) b.slots b.kind)
  behind-word id behind shadow c b e q g o =
      ap (λ v. thing_text (thing_at (Image d log) v))
      (stood-as id c e ∙ ap (λ y. stood (names_of d) id.0 (Some (kind_stand y))) q
      ∙ sym (stood-as behind b g ∙ ap (stood (names_of d) behind.0) (ap Some (counted-is (stand b) o))))
      ∙ own-word behind b g o
