-- An object that is changed in place, and elements that are stored.
use Rattle.mb_world.proofs.Images.{value-grows}
use Rattle.mb_frames.specs.Passing.{TextsGrew}
use Rattle.mb_frames.proofs.Steps.{Grew-then}
use Rattle.std.proofs.Common.{◌-◌, ◌≡◌, ◌∙◌, Bool, List, None, Option, Some, ap, arith, false, option_map, refl, sym}
use Rattle.std.proofs.Common.{true, ℕ, subst}
use Rattle.std.specs.Prelude.{if◌then◌else◌}
use Rattle.mb_array.specs.Define.{changes, left, meant, table_in, with_table}
use Rattle.mb_base.specs.declared.value.Key.{Key}
use Rattle.mb_base.specs.declared.value.ObjId.{ObjId}
use Rattle.mb_base.specs.declared.value.Side.{Side}
use Rattle.mb_base.specs.declared.value.Value.{Value}
use Rattle.mb_desc.specs.Descriptors.{descriptor_of}
use Rattle.mb_desc.specs.declared.descriptor.Desc.{Desc}
use Rattle.mb_parts.proofs.Writing.{Grew-texts}
use Rattle.mb_parts.specs.Standing.{Acts}
use Rattle.mb_parts.specs.Storing.{opened}
use Rattle.mb_frames.proofs.Entries.{entries-grow}
use Rattle.mb_frames.specs.Going.{WentOn, paying}
use Rattle.mb_frames.specs.Stepping.{Grew}
use Rattle.mb_model.specs.Objects.Methods.{store_element, stored_in}
use Rattle.mb_model.specs.Task.{Answer}
use Rattle.mb_ordinary.specs.Objects.{object_of, owner_by}
use Rattle.mb_world.proofs.AfterCalls.{of-cell}
use Rattle.mb_world.specs.Arrays.{array_defined_at, array_length, defined, defined_by_kind, element_as, element_defined}
use Rattle.mb_world.specs.Arrays.{element_stored, index_key}
use Rattle.mb_world.specs.Data.{Data, cell_at, change_cell, is_object_cell}
use Rattle.mb_world.specs.Graph.{Item, Thing}
use Rattle.mb_world.specs.Ids.{HasItsIds, ObjIn, ValueIn}
use Rattle.mb_world.specs.Image.{Image, Names, Resolve, kind_in, key_in, names_of, object_in, thing_in}
use Rattle.mb_world.specs.Key.{PropertyKey, index_of_key}
use Rattle.mb_world.specs.Ordinary.{Becomes as BecomesThing, Defined, Faulty, Refused, validated}
use Rattle.mb_world.specs.Property.{open_property}
use Rattle.mb_world.specs.Value.{Val}
use Rattle.mb_world.specs.declared.cell.Cell.{Cell}
use Rattle.mb_world.specs.declared.cell.CellKind.{CellKind}
use Rattle.mb_world.specs.declared.cell.CellKind.TheVariants as kind
use Rattle.mb_parts.proofs.ObjectChanged.{cell-changed, Grew-changed, changed-is, Acts-changed, IsSettled, answer_by}
use Rattle.mb_parts.proofs.ObjectChanged.{settled-is}

-- ---- what storing an element makes

abbrev pub IsNoFault : Defined → Type 0
IsNoFault (Faulty kind) = ⊥
IsNoFault m = Unit {0}

pub no-fault : (t : Thing) (key : PropertyKey) (d : Desc Val) (i : ℕ) (n : ℕ × Bool) → IsNoFault
    (element_defined t key d i n)
no-fault t key d i n = by _
  where
    as-element : (o : Option _) → IsNoFault (element_as t key i n o)
    as-element None = tt
    as-element (Some p) = tt

    by : (b : Bool) → IsNoFault (if b then Refused else element_as t key i n (validated t key d))
    by true = tt
    by false = as-element (validated t key d)

-- ---- an array

pub owned : (n : Names) (c : Cell) → c.kind ≡ kind.Array → object_of n c ≡ thing_in n c
owned n c e = ap (λ (x : CellKind). let t : Thing = record (thing_in n c) { owner = owner_by x c.home } in t) e

module _ (d : Data) (id : ObjId) (c : Cell) (there : cell_at d id ≡ Some c) (array : c.kind ≡ kind.Array)
    (key : Key) (place : ℕ) (x : Value) (spelled : key_in (names_of d) key ≡ index_key place)
    (index : index_of_key (key_in (names_of d) key) ≡ Some place) where
  abbrev m : Defined
  m = element_stored (thing_in (names_of d) c) place (Resolve (names_of d) x)

  abbrev given : Desc Val
  given = descriptor_of (open_property (Resolve (names_of d) x))

  -- the definition is that of an element
  pub meant-element : meant d id key (opened x) ≡ element_stored (thing_in (names_of d) c) place
      (Resolve (names_of d) x)
  meant-element =
      let n = names_of d in
      let t = thing_in n c in
      rw there refl
      ∙ ap (λ (y : Thing). defined y (key_in n key) given) (owned n c array)
      ∙ ap (λ (y : CellKind). defined_by_kind (kind_in n c.slots y) t (key_in n key) given) array
      ∙ ap (array_defined_at t (key_in n key) given) index
      ∙ ap (λ (y : PropertyKey). element_defined t y given place (array_length t)) spelled

  module _ (d' : Data)
      (cell : option_map (object_of (names_of d)) (cell_at d' id) ≡ option_map (left (meant d id key (opened x)))
      (option_map (object_of (names_of d)) (cell_at d id)))
      (rest : d' ≡ change_cell d id (with_table (table_in (cell_at d' id))))
      (unchanged : changes (meant d id key (opened x)) ≡ false → d' ≡ d) where
    abbrev F : Cell → Cell
    F = with_table (table_in (cell_at d' id))

    counted : is_object_cell c ≡ true
    counted = rw array refl

    now-there : cell_at d' id ≡ Some (F c)
    now-there = ap (λ (y : Data). cell_at y id) rest ∙ cell-changed d id c F there refl counted

    settled-by : (o : Defined) → meant d id key (opened x) ≡ o → IsNoFault o → (log : List Item)
        → IsSettled o (object_in (names_of d) id) (Image d log) (Image d' log)
    settled-by Refused e h log = ap (λ (y : Data). Image y log) (unchanged (ap changes e))
    settled-by (BecomesThing t b) e h log =
        let q : Some (object_of (names_of d) (F c)) ≡ Some t
        = ap (option_map (object_of (names_of d))) (sym now-there) ∙ cell
        ∙ ap (λ (y : Defined). option_map (left y) (option_map (object_of (names_of d)) (cell_at d id))) e
        ∙ ap (λ (y : Option Cell). option_map (left (BecomesThing t b)) (option_map (object_of (names_of d)) y))
        there in
        let r : object_of (names_of d) (F c) ≡ t = cc in
        ap (λ (y : Data). Image y log) rest
        ∙ changed-is d id c F there refl counted t (sym (owned (names_of d) (F c) array) ∙ r) log
    settled-by (Faulty kind) e h log = absurd h

    pub element-settled : (log : List Item)
        → IsSettled m (object_in (names_of d) id) (Image d log) (Image d' log)
    element-settled log =
        let t = thing_in (names_of d) c in
        settled-by m meant-element (no-fault t (index_key place) given place (array_length t)) log

    pub element-went : (s : ℕ) → HasItsIds d → d'.entries ≡ d.entries
        → WentOn Answer d d' 0 0 (store_element s (object_in (names_of d) id) place (Resolve (names_of d) x))
        (answer_by m)
    element-went s i entries = record {
      units = 0;
      paid = omega arith;
      same = λ k log.
          ap (λ (o : Option Thing). stored_in s (object_in (names_of d) id) place (Resolve (names_of d) x) o k
          (Image d log))
          (of-cell d id c log there counted)
          ∙ settled-is s (object_in (names_of d) id) m (Image d log) (Image d' log) (element-settled log) k;
      trace = entries-grow d d' grown.grows i entries;
      grew = grown;
    }
      where
        grown : Grew d d'
        grown = rw rest (Grew-changed d id c F there refl counted)

-- ---- after texts were added

-- texts were added, and then the element was stored
pub then-stored : (d d1 d2 : Data) (home : ℕ) (id : ObjId) (place : ℕ) (x : Value) (a : Answer) → TextsGrew d d1
    → ObjIn d id
    → ValueIn d x
    → WentOn Answer d1 d2 0 0 (store_element home (object_in (names_of d1) id) place (Resolve (names_of d1) x)) a
    → WentOn Answer d d2 0 0 (store_element home (object_in (names_of d) id) place (Resolve (names_of d) x)) a
then-stored d d1 d2 home id place x a t o i q =
    let g = Grew-texts d d1 t in
    let u : q.units ≡ 0 = omega (arith, q.paid) in
    let e : object_in (names_of d1) id ≡ object_in (names_of d) id = g.grows.same_object id o in
    let y : Resolve (names_of d1) x ≡ Resolve (names_of d) x = value-grows d d1 g.grows x i in
    record {
      units = 0;
      paid = omega arith;
      same = λ c log.
          ap (λ (z : Val). store_element home z place (Resolve (names_of d) x) c (Image d log)) (sym e)
          ∙ ap (λ (z : Val). store_element home (object_in (names_of d1) id) place z c (Image d log)) (sym y)
          ∙ ap (store_element home (object_in (names_of d1) id) place (Resolve (names_of d1) x) c)
          (sym (t.becomes.image log))
          ∙ q.same c log
          ∙ ap (λ n. paying n (Image d1 log) (c a (Image d2 log))) u;
      trace = q.trace ∙ t.trace;
      grew = Grew-then d d1 d2 g q.grew;
    }

-- ---- an array in which an element was stored

module _ (d d2 : Data) (id : ObjId) (c : Cell) (there : cell_at d id ≡ Some c) (counted : is_object_cell c ≡ true)
    (rest : d2 ≡ change_cell d id (with_table (table_in (cell_at d2 id)))) where
  pub entries-stay : d2.entries ≡ d.entries
  entries-stay = ap (λ (y : Data). y.entries) rest ∙ rw there refl

  pub Acts-stored : (home : Side) → HasItsIds d2 → Acts d home → Acts d2 home
  Acts-stored home h a =
      subst (λ (y : Data). Acts y home) (sym rest)
      (Acts-changed d id c (with_table (table_in (cell_at d2 id))) there refl counted home refl
      (subst HasItsIds rest h) a)
