-- IsArray (ECMA-262 7.2.2): what references name, and what an object's kind answers.
use Rattle.std.proofs.Common.{◌≡◌, ◌∙◌, Bool, List, Option, Some, [], ap, false, not, option_map, refl, subst, sym}
use Rattle.std.proofs.Common.{true, true≢false, ℕ}
use Rattle.std.specs.Prelude.{IfSome, IsSomeAnd}
use Rattle.mb_base.specs.declared.value.ObjId.{ObjId}
use Rattle.mb_base.specs.declared.value.Value.TheVariants as v
use Rattle.mb_call.proofs.Things.{Behind, cell-thing, real-there}
use Rattle.mb_call.specs.machine.Standing.{IsNumbered, is_named, real}
use Rattle.mb_frames.proofs.Apartness.{object-real}
use Rattle.mb_frames.proofs.HeldCells.{cell-held}
use Rattle.mb_frames.specs.Found.{HoldsKind}
use Rattle.mb_frames.specs.Held.{HeldObject}
use Rattle.mb_frames.specs.Ready.{IsReady, MayHold}
use Rattle.mb_frames.specs.Real.{IsReal}
use Rattle.mb_model.specs.Operations.Calls.{array_kind, array_thing_is}
use Rattle.mb_model.specs.Writing.{Row, unless_type_error}
use Rattle.mb_world.specs.Data.{Data, cell_at}
use Rattle.mb_world.specs.Formed.{is_of_membrane}
use Rattle.mb_world.specs.Graph.{Graph, Item, Thing}
use Rattle.mb_world.specs.Ids.{ObjIn}
use Rattle.mb_world.specs.Image.{Image, kind_in, names_of, object_at, object_in, object_of}
use Rattle.mb_world.specs.Objects.{thing_at}
use Rattle.mb_world.specs.View.{is_cut}
use Rattle.mb_world.specs.declared.cell.Cell.{Cell}
use Rattle.mb_world.specs.declared.cell.CellKind.{CellKind}
use Rattle.mb_world.specs.declared.cell.Shape.{Shape}
use Rattle.mb_world.specs.declared.cell.CellKind.TheVariants as kind

-- ---- what a reference names

named : (k : CellKind) → is_of_membrane k ≡ false → is_named k ≡ true
named (kind.Membrane behind shadow) h = absurd (true≢false h)
named (kind.Shadow shape) h = absurd (true≢false h)
named kind.Plain h = refl
named kind.Array h = refl
named (kind.Function code) h = refl
named (kind.BuiltIn place) h = refl
named (kind.Fault which) h = refl
named (kind.Proxy target handler shape) h = refl
named (kind.Revoker proxy) h = refl
named (kind.Collection coll) h = refl

module _ (d : Data) (r : IsReady d) (x : ObjId) (i : ObjIn d x) (h : IsReal d (v.Object x)) where
  behind : Behind d x
  behind = real-there d x i h

  pub real-thing : (log : List Item) → thing_at (Image d log) (object_in (names_of d) x) ≡ object_at d (real d x)
  real-thing log =
      ap (thing_at (Image d log)) behind.same
      ∙ cell-thing d r (real d x) behind.cell behind.there behind.no_part log
      ∙ sym (ap (option_map (object_of (names_of d))) behind.there)

  pub real-numbered : IsNumbered d (real d x)
  real-numbered = subst (λ (o : Option Cell). IsSomeAnd o (λ c. is_named c.kind ≡ true)) (sym behind.there)
      (named behind.cell.kind behind.no_part)

-- the target of a script-made Proxy
module _ (d : Data) (r : IsReady d) (id : ObjId) (c : Cell) (e : cell_at d id ≡ Some c) (target : ObjId)
    (handler : Option ObjId) (shape : Shape) (k : c.kind ≡ kind.Proxy (Some target) handler shape) where
  held : MayHold d c.home (HeldObject target)
  held = (subst (HoldsKind d c.home) k (cell-held d r id c e c.home (λ u. refl)).kind).0

  pub target-numbered : IsNumbered d (real d target)
  target-numbered = real-numbered d r target held.within (object-real d r c.home target held)

  pub target-thing : (log : List Item)
      → thing_at (Image d log) (object_in (names_of d) target) ≡ object_at d (real d target)
  target-thing log = real-thing d r target held.within (object-real d r c.home target held) log

-- ---- an object

module _ (d : Data) (s : ℕ) (log : List Item) (k : Bool → Graph → Row) (id : ObjId) (c : Cell)
    (e : cell_at d id ≡ Some c) where
  abbrev g : Graph
  g = Image d log

  abbrev t : Thing
  t = object_of (names_of d) c

  shown : object_at d id ≡ Some t
  shown = ap (option_map (object_of (names_of d))) e

  cut-is : (b : Bool) → IfSome (object_at d id) (λ y. b ≡ is_cut (Image d []) s y) → b ≡ is_cut g s t
  cut-is b h = subst (λ (o : Option Thing). IfSome o (λ y. b ≡ is_cut (Image d []) s y)) shown h

  -- where it isn't cut off, its kind answers
  pub thing-kind : (y : CellKind) → c.kind ≡ y → IfSome (object_at d id) (λ z. false ≡ is_cut (Image d []) s z)
      → array_thing_is s (object_at d id) k g ≡ array_kind s (kind_in (names_of d) c.slots y) k g
  thing-kind y q h =
      ap (λ (o : Option Thing). array_thing_is s o k g) shown
      ∙ ap (λ (b : Bool). unless_type_error s (not b) (λ a. array_kind s t.kind k) g) (sym (cut-is false h))
      ∙ ap (λ (z : CellKind). array_kind s (kind_in (names_of d) c.slots z) k g) q
