-- What can be called and what constructs, of the cells behind ids.
use Rattle.std.proofs.Common.{Bool, List, None, Option, Some, [], ap, option_map, refl, map, slice_get, sym, true}
use Rattle.std.proofs.Common.{true≢false, ℕ, ◌∙◌, ◌≡◌}
use Rattle.mb_base.specs.declared.value.ObjId.{ObjId}
use Rattle.mb_base.specs.declared.value.Value.{Value}
use Rattle.mb_world.proofs.AfterCalls.{of-cell}
use Rattle.mb_world.specs.declared.cell.Cell.{Cell}
use Rattle.mb_world.specs.declared.cell.CellKind.{CellKind}
use Rattle.mb_world.specs.declared.cell.CellKind.TheVariants as k
use Rattle.mb_world.specs.declared.cell.Shape.{Shape}
use Rattle.mb_world.specs.Data.{AtPlace, Before, Counted, Data, Hidden, Stand, cell_at, is_counted, is_object_cell}
use Rattle.mb_world.specs.Data.{kind_stand, stand}
use Rattle.mb_frames.specs.Real.{IsRealKind}
use Rattle.mb_parts.specs.machine.Marks.{mark_of}
use Rattle.mb_world.specs.Graph.{Item, Kind, Standard}
use Rattle.mb_world.specs.Image.{Image, Names, kind_in, names_of, object_in, stood}
use Rattle.mb_world.specs.Intrinsics.{Intrinsic, intrinsic, intrinsics}
use Rattle.mb_world.specs.Objects.{intrinsic_is, kind_calls, kind_constructs, shape_calls, shape_constructs, thing_at}
use Rattle.mb_world.specs.Objects.{thing_is}
use Rattle.mb_world.specs.Standard.{calls, constructs, standard, standard_at}
use Rattle.std.proofs.lemmas.Option.{slice_get-map}

pub proxy-calls : (n : Names) (target handler : Option ObjId) (shape : Shape)
    → kind_calls (kind_in n [] (k.Proxy target handler shape)) ≡ shape_calls shape
proxy-calls n (Some t) (Some h) shape = refl
proxy-calls n (Some t) None shape = refl
proxy-calls n None h shape = refl

pub proxy-constructs : (n : Names) (target handler : Option ObjId) (shape : Shape)
    → kind_constructs (kind_in n [] (k.Proxy target handler shape)) ≡ shape_constructs shape
proxy-constructs n (Some t) (Some h) shape = refl
proxy-constructs n (Some t) None shape = refl
proxy-constructs n None h shape = refl

-- ---- the table of built-ins

mark-is : (test : Intrinsic → Bool) (i : Option Intrinsic) → mark_of (option_map test i) ≡ intrinsic_is test i
mark-is test None = refl
mark-is test (Some i) = refl

pub table-is : (test : Intrinsic → Bool) (place : ℕ) → mark_of (slice_get (map test intrinsics) place)
    ≡ intrinsic_is test (intrinsic place)
table-is test place = ap mark_of (slice_get-map test intrinsics place) ∙ mark-is test (slice_get intrinsics place)

counted-is : (s : Stand) → is_counted s ≡ true → s ≡ Counted
counted-is Counted h = refl
counted-is (AtPlace place) h = absurd (true≢false (sym h))
counted-is (Before behind) h = absurd (true≢false (sym h))
counted-is Hidden h = absurd (true≢false (sym h))

proxy-same : (n : Names) (slots : List (Option (Value × Value))) (target handler : Option ObjId) (shape : Shape)
    → kind_calls (kind_in n slots (k.Proxy target handler shape))
    ≡ kind_calls (kind_in n [] (k.Proxy target handler shape))
proxy-same n slots (Some t) (Some h) shape = refl
proxy-same n slots (Some t) None shape = refl
proxy-same n slots None h shape = refl

proxy-makes : (n : Names) (slots : List (Option (Value × Value))) (target handler : Option ObjId) (shape : Shape)
    → kind_constructs (kind_in n slots (k.Proxy target handler shape))
    ≡ kind_constructs (kind_in n [] (k.Proxy target handler shape))
proxy-makes n slots (Some t) (Some h) shape = refl
proxy-makes n slots (Some t) None shape = refl
proxy-makes n slots None h shape = refl

-- ---- tests that read no slots and take a built-in by the table

pub record OfKind (test : Kind → Bool) : Type 0 where
  pub slots : (n : Names) (slots : List (Option (Value × Value))) (kind : CellKind) →
      test (kind_in n slots kind) ≡ test (kind_in n [] kind)
  pub built_in : (place : ℕ) → thing_is test (standard_at place) ≡ test (Standard place)

calls-slots : (n : Names) (slots : List (Option (Value × Value))) (kind : CellKind) →
    kind_calls (kind_in n slots kind) ≡ kind_calls (kind_in n [] kind)
calls-slots n slots k.Plain = refl
calls-slots n slots k.Array = refl
calls-slots n slots (k.Function code) = refl
calls-slots n slots (k.BuiltIn place) = refl
calls-slots n slots (k.Fault kind) = refl
calls-slots n slots (k.Proxy target handler shape) = proxy-same n slots target handler shape
calls-slots n slots (k.Revoker proxy) = refl
calls-slots n slots (k.Membrane behind shadow) = refl
calls-slots n slots (k.Shadow shape) = refl
calls-slots n slots (k.Collection coll) = refl

constructs-slots : (n : Names) (slots : List (Option (Value × Value))) (kind : CellKind) →
    kind_constructs (kind_in n slots kind) ≡ kind_constructs (kind_in n [] kind)
constructs-slots n slots k.Plain = refl
constructs-slots n slots k.Array = refl
constructs-slots n slots (k.Function code) = refl
constructs-slots n slots (k.BuiltIn place) = refl
constructs-slots n slots (k.Fault kind) = refl
constructs-slots n slots (k.Proxy target handler shape) = proxy-makes n slots target handler shape
constructs-slots n slots (k.Revoker proxy) = refl
constructs-slots n slots (k.Membrane behind shadow) = refl
constructs-slots n slots (k.Shadow shape) = refl
constructs-slots n slots (k.Collection coll) = refl

calls-built_in : (place : ℕ) (i : Option Intrinsic) → intrinsic place ≡ i
    → thing_is kind_calls (option_map (standard place) i) ≡ intrinsic_is calls (intrinsic place)
calls-built_in place None e = sym (ap (intrinsic_is calls) e)
calls-built_in place (Some i) e = refl

constructs-built_in : (place : ℕ) (i : Option Intrinsic) → intrinsic place ≡ i
    → thing_is kind_constructs (option_map (standard place) i) ≡ intrinsic_is constructs (intrinsic place)
constructs-built_in place None e = sym (ap (intrinsic_is constructs) e)
constructs-built_in place (Some i) e = refl

pub calls-kind : OfKind kind_calls
calls-kind = record { slots = calls-slots; built_in = λ place. calls-built_in place (intrinsic place) refl }

pub constructs-kind : OfKind kind_constructs
constructs-kind = record {
  slots = constructs-slots;
  built_in = λ place. constructs-built_in place (intrinsic place) refl;
}

-- ---- what an id names

module _ (test : Kind → Bool) (t : OfKind test) (d : Data) (log : List Item) where
  own-kind : (id : ObjId) (c : Cell) → cell_at d id ≡ Some c → is_object_cell c ≡ true
      → thing_is test (thing_at (Image d log) (object_in (names_of d) id)) ≡ test (kind_in (names_of d) [] c.kind)
  own-kind id c e o = ap (thing_is test) (of-cell d id c log e o) ∙ t.slots (names_of d) c.slots c.kind

  stood-as : (id : ObjId) (c : Cell) → cell_at d id ≡ Some c → object_in (names_of d) id ≡ stood (names_of d) id.0
      (Some (stand c))
  stood-as id c e = ap (stood (names_of d) id.0) (slice_get-map stand d.cells id.0 ∙ ap (option_map stand) e)

  pub real-kind : (id : ObjId) (c : Cell) (kind : CellKind) → cell_at d id ≡ Some c → c.kind ≡ kind → IsRealKind d kind
      → ((b s : ObjId) → kind ≡ k.Membrane b s → ⊥)
      → thing_is test (thing_at (Image d log) (object_in (names_of d) id)) ≡ test (kind_in (names_of d) [] c.kind)
  real-kind id c (k.BuiltIn place) e q r m =
      ap (λ v. thing_is test (thing_at (Image d log) v))
      (stood-as id c e ∙ ap (λ x. stood (names_of d) id.0 (Some (kind_stand x))) q)
      ∙ t.built_in place ∙ sym (ap (λ x. test (kind_in (names_of d) [] x)) q)
  real-kind id c (k.Membrane b s) e q r m = absurd (m b s refl)
  real-kind id c (k.Shadow shape) e q r m = absurd r
  real-kind id c k.Plain e q r m = own-kind id c e (ap (λ x. is_counted (kind_stand x)) q)
  real-kind id c k.Array e q r m = own-kind id c e (ap (λ x. is_counted (kind_stand x)) q)
  real-kind id c (k.Function code) e q r m = own-kind id c e (ap (λ x. is_counted (kind_stand x)) q)
  real-kind id c (k.Fault kind) e q r m = own-kind id c e (ap (λ x. is_counted (kind_stand x)) q)
  real-kind id c (k.Proxy target handler shape) e q r m = own-kind id c e (ap (λ x. is_counted (kind_stand x)) q)
  real-kind id c (k.Revoker proxy) e q r m = own-kind id c e (ap (λ x. is_counted (kind_stand x)) q)
  real-kind id c (k.Collection coll) e q r m = own-kind id c e (ap (λ x. is_counted (kind_stand x)) q)

  pub behind-kind : (id behind shadow : ObjId) (c b : Cell) → cell_at d id ≡ Some c → c.kind ≡ k.Membrane behind shadow
      → cell_at d behind ≡ Some b → is_object_cell b ≡ true
      → thing_is test (thing_at (Image d log) (object_in (names_of d) id)) ≡ test (kind_in (names_of d) [] b.kind)
  behind-kind id behind shadow c b e q g o =
      ap (λ v. thing_is test (thing_at (Image d log) v))
      (stood-as id c e ∙ ap (λ x. stood (names_of d) id.0 (Some (kind_stand x))) q
      ∙ sym (stood-as behind b g ∙ ap (stood (names_of d) behind.0) (ap Some (counted-is (stand b) o))))
      ∙ own-kind behind b g o
