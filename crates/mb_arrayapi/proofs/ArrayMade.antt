-- An array that a row makes: its length is set before anything else is done with it.
use Rattle.std.proofs.Common.{◌<◌, ◌^◌, ◌∙◌, ◌∷◌, ◌≡◌, Bool, List, None, Option, Some, [], ap, arith, false, length}
use Rattle.std.proofs.Common.{nat_le, nat_lt, option_map, pos, refl, sym, true, ℕ}
use Rattle.std.proofs.Math.Seq.{set-append_seam}
use Rattle.std.proofs.lemmas.Bool.Decides.{nat_tests}
use Rattle.std.proofs.lemmas.List.Elements.{All-nil}
use Rattle.std.specs.List.{IsDistinct}
use Rattle.std.specs.Map.{keys_of}
use Rattle.std.specs.Prelude.{All, if◌then◌else◌}
use Rattle.mb_array.specs.Define.{HoldsKnown, changes, known_values, left, meant, on_object, table_in, told, with_table}
use Rattle.mb_arrayapi.specs.machine.Making.{Made, value_alone}
use Rattle.mb_base.specs.declared.value.Key.{Key}
use Rattle.mb_base.specs.declared.value.ObjId.{ObjId}
use Rattle.mb_base.specs.declared.value.Side.{Side}
use Rattle.mb_base.specs.declared.value.Value.{Value}
use Rattle.mb_base.specs.declared.value.Value.TheVariants as v
use Rattle.mb_call.proofs.Settling.{answer-changed}
use Rattle.mb_desc.specs.Validate.{Validate}
use Rattle.mb_desc.specs.declared.descriptor.Desc.{Desc}
use Rattle.mb_parts.proofs.Fresh.{array-thing, bare-may}
use Rattle.mb_parts.proofs.Storing.{entries-stay, owned}
use Rattle.mb_frames.proofs.Entries.{entries-grow}
use Rattle.mb_frames.proofs.HeldAs.{made-held}
use Rattle.mb_frames.proofs.HeldLess.{array-object}
use Rattle.mb_frames.proofs.Leaving.{holds-still}
use Rattle.mb_frames.proofs.Readying.{changed-then}
use Rattle.mb_frames.proofs.Renewing.{made-changed}
use Rattle.mb_frames.proofs.Steps.{Grew-then}
use Rattle.mb_frames.proofs.Throwing.{last-there}
use Rattle.mb_frames.specs.Going.{WentOn}
use Rattle.mb_frames.specs.Held.{HeldArray, HeldDesc, HeldPrototype}
use Rattle.mb_frames.specs.Passing.{TextsGrew}
use Rattle.mb_frames.specs.Ready.{Changed, IsReady, MayHold}
use Rattle.mb_frames.specs.Stepping.{Grew}
use Rattle.mb_model.specs.Operations.Makings.{altered, array_thing}
use Rattle.mb_model.specs.Writing.{make, with_object}
use Rattle.mb_ordinary.specs.Objects.{object_of}
use Rattle.mb_parts.proofs.ObjectChanged.{Grew-changed, cell-changed, changed-is}
use Rattle.mb_parts.proofs.Texting.{texts-changed}
use Rattle.mb_parts.proofs.Writing.{Grew-texts}
use Rattle.mb_props.specs.Table.{same_key}
use Rattle.mb_text.specs.Texts.{AreDistinct}
use Rattle.mb_world.proofs.AfterCalls.{of-cell, of-made}
use Rattle.mb_world.proofs.Images.{value-grows}
use Rattle.mb_world.specs.Arrays.{defined, length_as, length_key, length_within}
use Rattle.mb_world.specs.Contained.{IsOwn}
use Rattle.mb_world.specs.Data.{Data, cell_at, change_cell, is_object_cell, made, obj_id}
use Rattle.mb_world.specs.Formed.{InRange}
use Rattle.mb_world.specs.Graph.{Graph, Item, Thing}
use Rattle.mb_world.specs.Ids.{HasItsIds, KeyIn}
use Rattle.mb_world.specs.Image.{Image, Resolve, key_in, names_of, object_in, thing_in}
use Rattle.mb_world.specs.Key.{PropertyKey}
use Rattle.mb_world.specs.Laws.{OfObject}
use Rattle.mb_world.specs.Objects.{thing_at}
use Rattle.mb_world.specs.Ordinary.{Becomes, Defined, ordinary_defined, validated}
use Rattle.mb_world.specs.Value.{Object, Val, Whole}
use Rattle.mb_world.specs.declared.cell.Cell.{Cell}
use Rattle.mb_world.specs.declared.cell.CellKind.TheVariants as kind

-- ---- in the graph

-- the last object becomes another
pub altered-last : (g : Graph) (t u : Thing)
    → altered (Object (length g.objects)) (λ x. u) (thing_at (with_object t g) (Object (length g.objects)))
    (with_object t g) ≡ with_object u g
altered-last g t u =
    ap (λ (o : Option Thing). altered (Object (length g.objects)) (λ x. u) o (with_object t g)) (last-there g.objects t)
    ∙ ap (λ (ts : List Thing). let r : Graph = record g { objects = ts } in r) (set-append_seam g.objects t [] u)

-- a value alone
abbrev alone : Val → Desc Val
alone x = record { value = Some x; writable = None; get = None; set = None; enumerable = None; configurable = None }

-- the length of a new array is set
length-set : (s : ℕ) (p : Val) (n : ℕ) → n < 2 ^ 32
    → defined (array_thing s p 0 []) length_key (alone (Whole (pos n))) ≡ Becomes (array_thing s p n []) true
unfolding Validate
length-set s p n h =
    let t : Thing = array_thing s p 0 [] in
    let x : Desc Val = alone (Whole (pos n)) in
    let e : nat_le n 4294967295 ≡ true = grind (arith, nat_tests) in
    let z : nat_le 0 n ≡ true = grind (arith, nat_tests) in
    ap (λ (b : Bool). length_within t x (if b then Some n else None)) e
    ∙ ap (λ (b : Bool).
    let o : Defined =
    if b then ordinary_defined t length_key x else length_as t n false (validated t length_key x) in o) z

-- ---- the array is made, and texts are added

module _ (d : Data) (home : Side) (r : IsReady d) (i : home.0 < d.sides) (proto : Value)
    (h : MayHold d home (HeldPrototype proto)) (id : ObjId) (number : id.0 ≡ length d.cells) where
  abbrev d1 : Data
  d1 = made d home kind.Array proto None

  abbrev p : Val
  p = Resolve (names_of d) proto

  abbrev first : Thing
  first = array_thing home.0 p 0 []

  its-world : OfObject d home kind.Array proto None
  its-world = of-made d home kind.Array proto None r.ids refl

  pub first-changed : Changed home d d1
  first-changed =
      made-changed home d kind.Array proto None r i
      (bare-may d home kind.Array proto refl tt tt h (All-nil InRange) (λ u. All-nil (IsOwn d home)))

  pub first-held : MayHold d1 home (HeldArray id)
  first-held = (made-held d home kind.Array proto None id refl number).array refl refl

  first-grew : Grew d d1
  first-grew = record { grows = its-world.becomes.grows; programs = refl; sides = refl; joined = refl }

  first-image : (log : List Item) → Image d1 log ≡ with_object first (Image d log)
  first-image log =
      its-world.becomes.image log
      ∙ ap (λ (t : Thing). with_object t (Image d log))
      (array-thing d home proto p (value-grows d d1 its-world.becomes.grows proto h.within))

  first-number : (log : List Item) → object_in (names_of d1) id ≡ Object (length (Image d log).objects)
  first-number log = ap (λ (n : ℕ). object_in (names_of d1) (obj_id n)) number ∙ its-world.number log

  module _ (d2 : Data) (t : TextsGrew d1 d2) where
    texts-kept : Changed home d1 d2
    texts-kept = texts-changed home d1 d2 t first-changed.ready

    pub second-changed : Changed home d d2
    second-changed = changed-then home d d1 d2 first-changed texts-kept

    pub second-held : MayHold d2 home (HeldArray id)
    second-held = (holds-still home d1 d2 first-changed.ready texts-kept (HeldArray id ∷ []) (first-held, tt)).0

    second-image : (log : List Item) → Image d2 log ≡ with_object first (Image d log)
    second-image log = t.becomes.image log ∙ first-image log

    second-number : (log : List Item) → object_in (names_of d2) id ≡ Object (length (Image d log).objects)
    second-number log = t.becomes.grows.same_object id first-held.within ∙ first-number log

    second-grew : Grew d d2
    second-grew = Grew-then d d1 d2 first-grew (Grew-texts d1 d2 t)

    -- ---- its length is set

    module _ (c : Cell) (there : cell_at d2 id ≡ Some c) (array : c.kind ≡ kind.Array) (key : Key) (k : KeyIn d2 key)
        (spelled : key_in (names_of d2) key ≡ length_key) (n : ℕ) (small : n < 2 ^ 32) where
      abbrev given : Desc Value
      given = value_alone (v.Whole (pos n))

      abbrev second : Thing
      second = array_thing home.0 p n []

      counted : is_object_cell c ≡ true
      counted = rw array refl

      thing-is : thing_in (names_of d2) c ≡ first
      thing-is =
          let e : Some (thing_in (names_of d2) c) ≡ Some first
          = sym (of-cell d2 id c [] there counted)
          ∙ ap (λ (g : Graph). thing_at g (object_in (names_of d2) id)) (second-image [])
          ∙ ap (λ (x : Val). thing_at (with_object first (Image d [])) x) (second-number [])
          ∙ last-there (Image d []).objects first in
          cc

      pub meant-is : meant d2 id key given ≡ Becomes second true
      meant-is =
          ap (on_object defined (names_of d2) key given) there
          ∙ ap (λ (y : Thing). defined y (key_in (names_of d2) key) (alone (Whole (pos n))))
          (owned (names_of d2) c array ∙ thing-is)
          ∙ ap (λ (y : PropertyKey). defined first y (alone (Whole (pos n)))) spelled
          ∙ length-set home.0 p n small

      module _ (d3 : Data)
          (cell : option_map (object_of (names_of d2)) (cell_at d3 id)
          ≡ option_map (left (meant d2 id key given)) (option_map (object_of (names_of d2)) (cell_at d2 id)))
          (rest : d3 ≡ change_cell d2 id (with_table (table_in (cell_at d3 id)))) where
        abbrev F : Cell → Cell
        F = with_table (table_in (cell_at d3 id))

        now-there : cell_at d3 id ≡ Some (F c)
        now-there = ap (λ (y : Data). cell_at y id) rest ∙ cell-changed d2 id c F there refl counted

        after-is : thing_in (names_of d2) (F c) ≡ second
        after-is =
            let q : Some (object_of (names_of d2) (F c)) ≡ Some second
            = ap (option_map (object_of (names_of d2))) (sym now-there) ∙ cell
            ∙ ap (λ (y : Defined). option_map (left y) (option_map (object_of (names_of d2)) (cell_at d2 id))) meant-is
            ∙ ap (λ (y : Option Cell). option_map (left (Becomes second true))
            (option_map (object_of (names_of d2)) y)) there in
            let e : object_of (names_of d2) (F c) ≡ second = cc in
            sym (owned (names_of d2) (F c) array) ∙ e

        third-image : (log : List Item) → Image d3 log ≡ with_object second (Image d log)
        third-image log =
            ap (λ (y : Data). Image y log) rest
            ∙ changed-is d2 id c F there refl counted second after-is log
            ∙ ap (λ (g : Graph). altered (object_in (names_of d2) id) (λ x. second)
            (thing_at g (object_in (names_of d2) id)) g) (second-image log)
            ∙ ap (λ (x : Val). altered x (λ y. second) (thing_at (with_object first (Image d log)) x)
            (with_object first (Image d log))) (second-number log)
            ∙ altered-last (Image d log) first second

        third-grew : Grew d2 d3
        third-grew = rw rest (Grew-changed d2 id c F there refl counted)

        pub array-made : Made d d3 home.0 p n [] id
        array-made = record {
          grew = Grew-then d d2 d3 second-grew third-grew;
          trace = entries-grow d2 d3 third-grew.grows second-changed.ready.ids
              (entries-stay d2 d3 id c there counted rest)
              ∙ t.trace ∙ entries-grow d d1 its-world.becomes.grows r.ids refl;
          image = third-image;
          number = λ log. third-grew.grows.same_object id second-held.within ∙ second-number log;
        }

        pub length-changed : (u : AreDistinct d2.texts) (distinct : IsDistinct same_key (keys_of c.props))
            (g : MayHold d2 home (HeldDesc given)) (unchanged : changes (meant d2 id key given) ≡ false → d3 ≡ d2)
            (objects : All (HoldsKnown (known_values (table_in (cell_at d2 id)) given)) (table_in (cell_at d3 id)))
            (ids : HasItsIds d3) → Changed home d2 d3
        length-changed u distinct g unchanged objects ids =
            answer-changed d2 d3 second-changed.ready home id (array-object d2 home id second-held) c there u distinct
            key k given g (rw array refl) (rw array refl) cell rest unchanged objects ids true (ap told meant-is)

-- a length alone may be held
pub alone-held : (d : Data) (home : Side) (n : ℕ) → n < 2 ^ 32
    → MayHold d home (HeldDesc (value_alone (v.Whole (pos n))))
alone-held d home n h =
    let e : nat_lt n (2 ^ 53) ≡ true = grind (arith, nat_tests) in
    record {
      within = record { value_in = tt; get_in = tt; set_in = tt };
      sound = (refl, record { get = tt; set = tt; wholes = (e, tt) });
      own = λ u. All-nil (IsOwn d home);
    }

-- ---- the array that was made is given

pub made-went : (d d' : Data) (s : ℕ) (p : Val) (n : ℕ) (xs : List Val) (id : ObjId) → Made d d' s p n xs id
    → WentOn Val d d' 0 0 (make (array_thing s p n xs)) (object_in (names_of d') id)
made-went d d' s p n xs id q = record {
  units = 0;
  paid = omega arith;
  same = λ k log.
      ap (λ (x : Val). k x (with_object (array_thing s p n xs) (Image d log))) (sym (q.number log))
      ∙ ap (k (object_in (names_of d') id)) (sym (q.image log));
  trace = q.trace;
  grew = q.grew;
}
