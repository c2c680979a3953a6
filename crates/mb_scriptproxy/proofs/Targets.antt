-- What may be a Proxy's target, and the shape that it gives.
use Rattle.std.proofs.Common.{◌∙◌, ◌≡◌, Bool, List, None, Option, Some, [], ap, false, not, option_map, refl, sym, true}
use Rattle.std.proofs.Common.{true≢false, ℕ}
use Rattle.std.proofs.lemmas.Option.{slice_get-map}
use Rattle.std.specs.Prelude.{IsSomeAnd, if◌then◌else◌}
use Rattle.mb_base.specs.declared.value.ObjId.{ObjId}
use Rattle.mb_base.specs.declared.value.Side.{Side}
use Rattle.mb_base.specs.declared.value.Value.{Value}
use Rattle.mb_call.proofs.Things.{cell-thing}
use Rattle.mb_frames.proofs.Apartness.{object-real}
use Rattle.mb_frames.proofs.Changing.{there}
use Rattle.mb_frames.specs.Held.{HeldObject}
use Rattle.mb_frames.specs.Ready.{IsReady, MayHold}
use Rattle.mb_frames.specs.Real.{IsRealKind}
use Rattle.mb_parts.proofs.Shaping.{OfKind}
use Rattle.mb_scriptproxy.specs.machine.Making.{is_array_kind}
use Rattle.mb_world.proofs.AfterCalls.{thing-at}
use Rattle.mb_world.specs.Data.{AtPlace, Before, Counted, Data, Hidden, Stand, cell_at, is_counted, is_object_cell}
use Rattle.mb_world.specs.Data.{kind_stand, stand}
use Rattle.mb_world.specs.Formed.{is_of_membrane}
use Rattle.mb_world.specs.Graph as graph
use Rattle.mb_world.specs.Graph.{Item, Kind, Thing}
use Rattle.mb_world.specs.Image.{Image, Names, kind_in, names_of, object_in, object_of, stood}
use Rattle.mb_world.specs.Intrinsics.{Intrinsic, intrinsic}
use Rattle.mb_world.specs.Objects.{is_proxy_kind, kind_calls, kind_constructs, shape_of_kind, shape_of_thing, thing_at}
use Rattle.mb_world.specs.Objects.{thing_is}
use Rattle.mb_world.specs.Standard.{standard}
use Rattle.mb_world.specs.Value.{Val}
use Rattle.mb_world.specs.declared.cell.Cell.{Cell}
use Rattle.mb_world.specs.declared.cell.CellKind.{CellKind}
use Rattle.mb_world.specs.declared.cell.CellKind.TheVariants as kind
use Rattle.mb_world.specs.declared.cell.Shape.{Shape}
use Rattle.mb_world.specs.declared.cell.Shape.TheVariants as shape

-- ---- tests of kinds

proxy-slots : (n : Names) (slots : List (Option (Value × Value))) (y : CellKind)
    → is_proxy_kind (kind_in n slots y) ≡ is_proxy_kind (kind_in n [] y)
proxy-slots n slots (kind.Proxy (Some a) (Some b) s) = refl
proxy-slots n slots (kind.Proxy (Some a) None s) = refl
proxy-slots n slots (kind.Proxy None b s) = refl
proxy-slots n slots y = refl

array-slots : (n : Names) (slots : List (Option (Value × Value))) (y : CellKind)
    → is_array_kind (kind_in n slots y) ≡ is_array_kind (kind_in n [] y)
array-slots n slots (kind.Proxy (Some a) (Some b) s) = refl
array-slots n slots (kind.Proxy (Some a) None s) = refl
array-slots n slots (kind.Proxy None b s) = refl
array-slots n slots y = refl

proxy-built_in : (place : ℕ) (i : Option Intrinsic)
    → thing_is is_proxy_kind (option_map (standard place) i) ≡ is_proxy_kind (graph.Standard place)
proxy-built_in place None = refl
proxy-built_in place (Some i) = refl

array-built_in : (place : ℕ) (i : Option Intrinsic)
    → thing_is is_array_kind (option_map (standard place) i) ≡ is_array_kind (graph.Standard place)
array-built_in place None = refl
array-built_in place (Some i) = refl

pub proxy-kind : OfKind is_proxy_kind
proxy-kind = record { slots = proxy-slots; built_in = λ place. proxy-built_in place (intrinsic place) }

pub array-kind : OfKind is_array_kind
array-kind = record { slots = array-slots; built_in = λ place. array-built_in place (intrinsic place) }

pub no-proxy-in : (n : Names) (y : CellKind)
    → ((target handler : Option ObjId) (s : Shape) → y ≡ kind.Proxy target handler s → ⊥)
    → is_proxy_kind (kind_in n [] y) ≡ false
no-proxy-in n (kind.Proxy target handler s) h = absurd (h target handler s refl)
no-proxy-in n y h = refl

pub a-proxy-in : (n : Names) (target handler : Option ObjId) (s : Shape)
    → is_proxy_kind (kind_in n [] (kind.Proxy target handler s)) ≡ true
a-proxy-in n (Some a) (Some b) s = refl
a-proxy-in n (Some a) None s = refl
a-proxy-in n None b s = refl

pub no-array-in : (n : Names) (y : CellKind) → (y ≡ kind.Array → ⊥) → is_array_kind (kind_in n [] y) ≡ false
no-array-in n kind.Array h = absurd (h refl)
no-array-in n (kind.Proxy (Some a) (Some b) s) h = refl
no-array-in n (kind.Proxy (Some a) None s) h = refl
no-array-in n (kind.Proxy None b s) h = refl
no-array-in n y h = refl

-- ---- an object that a home may hold is there

counted-is : (s : Stand) → is_counted s ≡ true → s ≡ Counted
counted-is Counted h = refl
counted-is (AtPlace place) h = absurd (true≢false (sym h))
counted-is (Before behind) h = absurd (true≢false (sym h))
counted-is Hidden h = absurd (true≢false (sym h))

module _ (d : Data) (r : IsReady d) (home : Side) (log : List Item) where
  stood-as : (id : ObjId) (c : Cell) → cell_at d id ≡ Some c
      → object_in (names_of d) id ≡ stood (names_of d) id.0 (Some (stand c))
  stood-as id c e = ap (stood (names_of d) id.0) (slice_get-map stand d.cells id.0 ∙ ap (option_map stand) e)

  abbrev IsThere : Val → Type 0
  IsThere x = (t : Thing) × (thing_at (Image d log) x ≡ Some t)

  behind-there : (id behind shadow : ObjId) (c : Cell) → cell_at d id ≡ Some c
      → c.kind ≡ kind.Membrane behind shadow → (o : Option Cell) → cell_at d behind ≡ o
      → IsSomeAnd o (λ b. is_object_cell b ≡ true) → IsThere (object_in (names_of d) id)
  behind-there id behind shadow c e q None g k = absurd k
  behind-there id behind shadow c e q (Some b) g k =
      let same : object_in (names_of d) id ≡ object_in (names_of d) behind
      = stood-as id c e
      ∙ ap (λ (y : CellKind). stood (names_of d) id.0 (Some (kind_stand y))) q
      ∙ sym (stood-as behind b g ∙ ap (λ (s : Stand). stood (names_of d) behind.0 (Some s)) (counted-is (stand b) k)) in
      rw same (_, thing-at d behind b log g k)

  pub is-there : (id : ObjId) → MayHold d home (HeldObject id)
      → (t : Thing) × (thing_at (Image d log) (object_in (names_of d) id) ≡ Some t)
  is-there id h =
      let a = there d id h.within in
      by a.0 a.1 a.0.kind refl (rw a.1 at (object-real d r home id h))
    where
      by : (c : Cell) → cell_at d id ≡ Some c → (y : CellKind) → c.kind ≡ y → IsRealKind d c.kind
          → IsThere (object_in (names_of d) id)
      by c e (kind.Membrane b s) q k = behind-there id b s c e q (cell_at d b) refl (rw q at k)
      by c e (kind.Shadow s) q k = absurd (rw q at k)
      by c e y q k = (object_of (names_of d) c, cell-thing d r id c e (ap is_of_membrane q) log)

-- ---- what may be a target

pub able-is : (o : Option Thing) → (t : Thing) × (o ≡ Some t) → (b : Bool) → thing_is is_proxy_kind o ≡ b
    → thing_is (λ y. not (is_proxy_kind y)) o ≡ not b
able-is None p b h = (let q = p.1 in cc)
able-is (Some t) p b h = ap not h

-- ---- its shape

pub shape-is : (o : Option Thing) (a b c : Bool) → thing_is (λ y. not (is_proxy_kind y)) o ≡ true
    → thing_is is_array_kind o ≡ a → thing_is kind_constructs o ≡ b → thing_is kind_calls o ≡ c
    → shape_of_thing o
    ≡ (if a then shape.Array else if b then shape.Constructs else if c then shape.Calls else shape.Plain)
shape-is None a b c p h i j = absurd (true≢false (sym p))
shape-is (Some t) a b c p h i j = rw (← h, ← i, ← j) (by t.kind p)
  where
    by : (y : Kind) → not (is_proxy_kind y) ≡ true
        → shape_of_kind y
        ≡ (if is_array_kind y then shape.Array else if kind_constructs y then shape.Constructs
        else if kind_calls y then shape.Calls else shape.Plain)
    by graph.Array q = refl
    by (graph.Proxy x z s) q = absurd (true≢false (sym q))
    by (graph.Gone s) q = absurd (true≢false (sym q))
    by y q = refl
