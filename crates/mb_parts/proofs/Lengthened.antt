-- An array of a home in which an element was stored: the world stays ready.
use Rattle.std.proofs.Common.{length, ◌++◌, ◌+◌, ◌-◌, ◌<◌, ◌^◌, ◌≡◌, ◌∙◌, ◌∷◌, Bool, List, None, Option, Some, ap}
use Rattle.std.proofs.Common.{arith, false, map, nat_le, option_map, pos, refl, subst, sym, true, ℕ}
use Rattle.std.specs.Prelude.{All, max}
use Rattle.std.specs.List.{IsDistinct, flat_map}
use Rattle.std.specs.Map.{keys_of, lookup}
use Rattle.indexmap.specs.IndexMap.{insert_entry}
use Rattle.std.proofs.lemmas.Bool.Decides.{nat_tests}
use Rattle.std.proofs.lemmas.List.Elements.{All-append, All-head, All-weaker}
use Rattle.mb_array.specs.Define.{HoldsKnown, changes, known_values, left, meant, table_in, with_table}
use Rattle.mb_base.specs.declared.value.Key.{Key}
use Rattle.mb_base.specs.declared.value.Key.TheVariants as k
use Rattle.mb_base.specs.declared.value.ObjId.{ObjId}
use Rattle.mb_base.specs.declared.value.Side.{Side}
use Rattle.mb_base.specs.declared.value.StrId.{StrId}
use Rattle.mb_base.specs.declared.value.Value.{Value}
use Rattle.mb_base.specs.declared.value.Value.TheVariants as v
use Rattle.mb_desc.specs.Descriptors.{descriptor_of}
use Rattle.mb_desc.specs.Validate.{Validate}
use Rattle.mb_desc.specs.Values.{equal}
use Rattle.mb_desc.specs.View.{View}
use Rattle.mb_desc.specs.declared.descriptor.Desc.{Desc}
use Rattle.mb_desc.specs.declared.descriptor.Full.{Full}
use Rattle.mb_desc.specs.declared.descriptor.Full.TheVariants.{Datum}
use Rattle.mb_parts.proofs.Opened.{opened-held}
use Rattle.mb_parts.proofs.Storing.{IsNoFault, meant-element, no-fault, owned}
use Rattle.mb_parts.specs.Storing.{opened}
use Rattle.mb_frames.proofs.HeldCells.{cell-held, reads-home}
use Rattle.mb_frames.proofs.HeldLess.{array-object, key-held, value-datum, whole-held}
use Rattle.mb_frames.specs.Held.{HeldArray, HeldFull, HeldKey, HeldObject, HeldValue}
use Rattle.mb_frames.specs.Ready.{Changed, IsReady, MayHold}
use Rattle.mb_frames.specs.Wholeness.{cell_view, key_sort}
use Rattle.mb_ordinary.proofs.Accepting.{compares-there, validate-map}
use Rattle.mb_ordinary.proofs.Cells.{found-in, maybe-in}
use Rattle.mb_ordinary.specs.Definitions.{DescIn, TellsApart, compared, desc_values, property_values}
use Rattle.mb_props.specs.Table.{found, same_key}
use Rattle.mb_props.specs.Table.{insert_entry as insert_own}
use Rattle.mb_frames.proofs.Readying.{changed-same}
use Rattle.mb_frames.proofs.Opened.{parts-flat}
use Rattle.mb_text.specs.Index.{index_of}
use Rattle.mb_text.specs.Texts.{AreDistinct}
use Rattle.mb_view.proofs.Lengths.{element-allowed}
use Rattle.mb_view.specs.Arrays.{element_defined as element_changes}
use Rattle.mb_view.specs.Changes.{changed_by}
use Rattle.mb_view.specs.Views.{Evolves}
use Rattle.mb_world.proofs.Arrays.{length-no-index}
use Rattle.mb_world.proofs.Grow.{All-at}
use Rattle.mb_world.proofs.SameKeys.{find-found, key-equal, key-same, own-equal, own-same, put-insert}
use Rattle.mb_world.proofs.Values.{value-same}
use Rattle.mb_world.proofs.Worlds.{All-insert}
use Rattle.mb_world.specs.Arrays.{array_length, element_stored, index_key, length_in, length_key, with_length}
use Rattle.mb_world.specs.Data.{Data, cell_at, change_cell, is_object_cell, property_in as property_in_world}
use Rattle.mb_world.specs.Formed.{FormedCell, HasLength, IsArray, IsBelow, full_values}
use Rattle.mb_world.specs.Graph.{Property, Thing}
use Rattle.mb_world.specs.Ids.{CellIn, HasItsIds, KeyIn, PropertyIn}
use Rattle.mb_world.specs.Image.{Names, Resolve, object_of, full_in, key_in, names_of, property_in, thing_in}
use Rattle.mb_world.specs.Key as graph
use Rattle.mb_world.specs.Key.{Named, PropertyKey, index_of_key}
use Rattle.mb_world.specs.Objects.{find_property, put_property, with_property}
use Rattle.mb_world.specs.Ordinary.{Becomes as BecomesThing, Defined, Faulty, Refused, validated}
use Rattle.mb_world.specs.Property.{open_property}
use Rattle.mb_world.specs.Value.{Undefined, Val, Whole, same_value}
use Rattle.mb_world.specs.declared.cell.Cell.{Cell}
use Rattle.mb_world.specs.declared.cell.CellKind.{CellKind}
use Rattle.mb_world.specs.declared.cell.CellKind.TheVariants as kind
use Rattle.mb_parts.proofs.HeldEach.{desc-each, full-each, tells-apart}
use Rattle.mb_parts.proofs.TableChanged.{table-changed}
use Rattle.mb_parts.proofs.Validated.{accepted-held}
use Rattle.mb_parts.proofs.Viewing.{changes-evolve, find-pairs, names-distinct, pairs, put-pairs, view-pairs}
use Rattle.mb_parts.proofs.Viewing.{with_props}
use Rattle.mb_parts.proofs.ObjectChanged.{cell-changed}
use Rattle.mb_parts.proofs.Lengths.{LengthFirst, below-more, length-first, max-above, max-first, max-left, max-limit}
use Rattle.mb_parts.proofs.Lengths.{max-more, place_of, stored-as}
use Rattle.mb_parts.proofs.Tables.{find-put, keys-same, property-back, put-there, tables-same}

-- ---- an array of a home

module _ (d : Data) (r : IsReady d) (home : Side) (id : ObjId) (c : Cell) (u : AreDistinct d.texts)
    (there : cell_at d id ≡ Some c)
    (array : c.kind ≡ kind.Array) (at : c.home ≡ home) (distinct : IsDistinct same_key (keys_of c.props)) (t : StrId)
    (i : ℕ)
    (x : Value) (key_there : KeyIn d (k.Text t i)) (o : MayHold d home (HeldArray id))
    (h : MayHold d home (HeldValue x))
    (spelled : key_in (names_of d) (k.Text t i) ≡ index_key i) (small : i < 2 ^ 32 - 1) where
  abbrev n : Names
  n = names_of d

  abbrev key : Key
  key = k.Text t i

  abbrev K : PropertyKey
  K = index_key i

  abbrev D : Desc Val
  D = descriptor_of (open_property (Resolve n x))

  abbrev t0 : Thing
  t0 = thing_in n c

  abbrev P0 : List Property
  P0 = map (property_in n) c.props

  its-form : FormedCell d c
  its-form = All-at (FormedCell d) d.cells id.0 c there r.formed.cells

  its-ids : CellIn d c
  its-ids = All-at (CellIn d) d.cells id.0 c there r.ids.cells_in

  is-array : IsArray d kind.Array c
  is-array = subst (λ (y : CellKind). IsArray d y c) array its-form.array

  pub first : LengthFirst d c.props
  first = length-first d c.props is-array.1

  abbrev lkey : Key
  lkey = k.Text first.text first.place

  abbrev L : ℕ
  L = first.length

  abbrev w : Bool
  w = first.writable

  lkey-there : KeyIn d lkey
  lkey-there = (All-head (PropertyIn d) (lkey, Datum (v.Whole (pos L)) w false false) first.rest
      (subst (All (PropertyIn d)) first.shape its-ids.props_in)).0

  lplace : first.place ≡ 2 ^ 32 - 1
  lplace = lkey-there.1 ∙ ap index_of first.units ∙ length-no-index

  lname : key_in n lkey ≡ length_key
  lname = ap Named first.units

  length-found : find_property length_key (map (property_in n) c.props) ≡ Some
      (Datum (Whole (pos first.length)) first.writable false false)
  length-found =
      let s : graph.same_key (key_in n lkey) length_key ≡ true = ap (λ z. graph.same_key z length_key) lname
      ∙ key-same length_key in
      ap (λ ps. find_property length_key (map (property_in n) ps)) first.shape ∙ rw s refl

  pub len : array_length (thing_in (names_of d) c) ≡ (first.length, first.writable)
  len = ap length_in length-found

  not-length : lkey ≡ key → ⊥
  not-length e = (let z : first.place ≡ i = ap place_of e in omega (arith, z, lplace, small))

  other : graph.same_key length_key (index_key i) ≡ false
  other = by (graph.same_key length_key K) refl
    where
      by : (b : Bool) → graph.same_key length_key K ≡ b → graph.same_key length_key K ≡ false
      by false e = e
      by true e = absurd (not-length (keys-same d u lkey key lkey-there key_there (lname ∙ key-equal length_key K e
          ∙ sym spelled)))

  another : graph.same_key (index_key i) length_key ≡ false
  another = by (graph.same_key K length_key) refl
    where
      by : (b : Bool) → graph.same_key K length_key ≡ b → graph.same_key K length_key ≡ false
      by false e = e
      by true e = absurd (not-length (keys-same d u lkey key lkey-there key_there
          (lname ∙ sym (key-equal K length_key e) ∙ sym spelled)))

  no-length : same_key key lkey ≡ false
  no-length = by (same_key key lkey) refl
    where
      by : (b : Bool) → same_key key lkey ≡ b → same_key key lkey ≡ false
      by false e = e
      by true e = absurd (not-length (sym (own-equal key lkey e)))

  abbrev V : Option (Full Value)
  V = Validate equal v.Undefined c.extensible (found c.props key) (opened x)

  object : MayHold d home (HeldObject id)
  object = array-object d home id o

  -- what the definition accepts, in the world and in its image
  accepts : validated (thing_in (names_of d) c) (index_key i) (descriptor_of (open_property (Resolve (names_of d) x)))
      ≡ option_map (full_in (names_of d)) (Validate equal v.Undefined c.extensible (found c.props (k.Text t i))
      (opened x))
  accepts =
      let y : DescIn d (opened x) = record { value_in = h.within; get_in = tt; set_in = tt } in
      let a : TellsApart d (compared d id key (opened x))
      = tells-apart d r home id key (opened x) object (desc-each d home (opened x) (opened-held d home x h)) in
      let b : TellsApart d (desc_values (opened x) ++ property_values (found c.props key))
      = subst (λ (q : Option (Full Value)). TellsApart d (desc_values (opened x) ++ property_values q))
      (ap (property_in_world key) there) a in
      ap (λ z. Validate same_value Undefined c.extensible (find_property z P0) D) (sym spelled)
      ∙ ap (λ q. Validate same_value Undefined c.extensible q D) (find-found d u c.props key its-ids.props_in key_there)
      ∙ validate-map n (opened x) c.extensible (found c.props key)
      (compares-there d u (opened x) y (found c.props key)
      (maybe-in d (found c.props key) (found-in d c.props key its-ids.props_in)) b)

  abbrev HH : Key × Full Value → Type 0
  HH p = MayHold d home (HeldKey p.0) × MayHold d home (HeldFull p.1)

  properties : All (λ p. MayHold d home (HeldKey p.0) × MayHold d home (HeldFull p.1)) c.props
  properties = (cell-held d r id c there home (reads-home d home id c object there)).properties

  known-all : All (λ y. MayHold d home (HeldValue y)) (known_values c.props (opened x))
  known-all =
      All-append (λ y. MayHold d home (HeldValue y)) (flat_map (λ p. full_values p.1) c.props) (desc_values (opened x))
      (parts-flat (λ y. MayHold d home (HeldValue y)) (λ (p : Key × Full Value). full_values p.1) c.props
      (All-weaker HH (λ p. All (λ y. MayHold d home (HeldValue y)) (full_values p.1))
      (λ p q. full-each d home p.1 q.1) c.props properties))
      (desc-each d home (opened x) (opened-held d home x h))

  module _ (full : Full Value) (valid : V ≡ Some full) (open_ : nat_le L i ≡ true → w ≡ true) where
    abbrev m : ℕ
    m = max L (i + 1)

    abbrev lfull : Full Value
    lfull = Datum (v.Whole (pos m)) w false false

    abbrev lf : Full Val
    lf = Datum (Whole (pos m)) w false false

    abbrev p : Full Val
    p = full_in n full

    abbrev qs : List (Key × Full Value)
    qs = insert_own (insert_own c.props key full) lkey lfull

    m-limit : m < 2 ^ 32
    m-limit = max-limit L i (2 ^ 32) first.limit (omega (arith, small))

    full-held : MayHold d home (HeldFull full)
    full-held = accepted-held d home r id c key (opened x) full there object (opened-held d home x h) (rw there valid)

    lfull-held : MayHold d home (HeldFull lfull)
    lfull-held = value-datum d home (v.Whole (pos m)) w false false
        (whole-held d home (pos m) (let z = m-limit in grind (arith, nat_tests)))

    once-held : All HH (insert_own c.props key full)
    once-held = All-insert HH c.props key full (key-held d home key key_there, full-held) (λ q y. (y.0, full-held))
        properties

    held : All HH qs
    held = All-insert HH (insert_own c.props key full) lkey lfull (key-held d home lkey lkey-there, lfull-held)
        (λ q y. (y.0, lfull-held)) once-held

    image : map (property_in n) qs ≡ put_property length_key lf (put_property K p P0)
    image =
        put-insert d u (insert_own c.props key full) lkey lfull
        (All-weaker HH (PropertyIn d) (λ q y. (y.0.within, y.1.within)) (insert_own c.props key full) once-held)
        lkey-there
        ∙ ap (put_property (key_in n lkey) lf) (put-insert d u c.props key full its-ids.props_in key_there)
        ∙ ap (λ z. put_property z lf (put_property (key_in n key) p P0)) lname
        ∙ ap (λ z. put_property length_key lf (put_property z p P0)) spelled

    accepted-there : validated t0 K D ≡ Some p
    accepted-there = accepts ∙ ap (option_map (full_in n)) valid

    view-is : (ps : List Property) → map (property_in n) qs ≡ ps → (cell_view n (with_props qs c)).properties ≡ pairs ps
    view-is ps e = view-pairs n qs ∙ ap pairs e

    put-view : pairs (put_property K p P0) ≡ insert_entry graph.same_key (cell_view n c).properties K p
    put-view = put-pairs K p P0 ∙ ap (λ zs. insert_entry graph.same_key zs K p) (sym (view-pairs n c.props))

    changed : cell_view n (with_props qs c)
        ≡ changed_by graph.same_key (element_changes graph.same_key length_key (λ a. Whole (pos a)) K D p i L w)
        (cell_view n c)
    changed = by (nat_le L i) refl
      where
        by : (b : Bool) → nat_le L i ≡ b → cell_view n (with_props qs c)
            ≡ changed_by graph.same_key (element_changes graph.same_key length_key (λ a. Whole (pos a)) K D p i L w)
            (cell_view n c)
        by true e =
            let z : (cell_view n (with_props qs c)).properties
            ≡ insert_entry graph.same_key (insert_entry graph.same_key (cell_view n c).properties K p) length_key
            (Datum (Whole (pos (i + 1))) w false false)
            = view-is (put_property length_key lf (put_property K p P0)) image ∙ put-pairs length_key lf
            (put_property K p P0)
            ∙ ap (λ zs. insert_entry graph.same_key zs length_key lf) put-view
            ∙ ap (λ a. insert_entry graph.same_key (insert_entry graph.same_key (cell_view n c).properties K p)
            length_key (Datum (Whole (pos a)) w false false)) (max-more L i e) in
            rw e (ap (λ zs. let y : View PropertyKey Val = record (cell_view n c) { properties = zs } in y) z)
        by false e =
            let s : lf ≡ Datum (Whole (pos L)) w false false =
            ap (λ a. let f : Full Val = Datum (Whole (pos a)) w false false in f) (max-left L i e) in
            let y : put_property length_key lf (put_property K p P0) ≡ put_property K p P0
            = put-there length_key lf (put_property K p P0) (find-put K length_key p P0 another ∙ length-found
            ∙ ap Some (sym s)) in
            let z : (cell_view n (with_props qs c)).properties
            ≡ insert_entry graph.same_key (cell_view n c).properties K p
            = view-is (put_property K p P0) (image ∙ y) ∙ put-view in
            rw e (ap (λ zs. let f : View PropertyKey Val = record (cell_view n c) { properties = zs } in f) z)

    evolves : Evolves graph.same_key key_sort (cell_view n c) (cell_view n (with_props qs c))
    evolves =
        let has : lookup (graph.same_key length_key) (cell_view n c).properties
        ≡ Some (Datum (Whole (pos L)) w false false)
        = ap (lookup (graph.same_key length_key)) (view-pairs n c.props) ∙ find-pairs length_key P0 ∙ length-found in
        let value : Validate same_value Undefined c.extensible (lookup (graph.same_key K) (cell_view n c).properties) D
        ≡ Some p
        = ap (λ q. Validate same_value Undefined c.extensible q D)
        (ap (lookup (graph.same_key K)) (view-pairs n c.props) ∙ find-pairs K P0)
        ∙ accepted-there in
        changes-evolve n c (element_changes graph.same_key length_key (λ a. Whole (pos a)) K D p i L w)
        (with_props qs c)
        (names-distinct d u c.props its-ids.props_in distinct)
        (element-allowed graph.same_key (λ a. true) key-equal key-same same_value Undefined value-same length_key
        (λ a. Whole (pos a))
        (cell_view n c) K D p i L w has other open_ refl value)
        changed

    shape : qs ≡ (lkey, lfull) ∷ insert_own first.rest key full
    shape = ap (λ zs. insert_own (insert_own zs key full) lkey lfull) first.shape ∙ rw (no-length, own-same lkey) refl

    stays-array : IsArray d c.kind (with_props qs c)
    stays-array =
        subst (λ (y : CellKind). IsArray d y (with_props qs c)) (sym array) (
          is-array.0,
          subst (HasLength d) (sym shape) (
            first.units,
            m-limit,
            All-insert (λ q. IsBelow m q.0) first.rest key full (λ z. max-above L i) (λ q y. y)
                (All-weaker (λ q. IsBelow L q.0) (λ q. IsBelow m q.0) (λ q y. below-more L m (max-first L i) q.0 y)
                first.rest first.below),
          ),
        )

    pub stored-changed : (ps : List (Key × Full Value)) → All (PropertyIn d) ps → All
        (HoldsKnown (known_values c.props (opened x))) ps
        → map (property_in (names_of d)) ps ≡ put_property length_key (Datum (Whole (pos (max first.length (i + 1))))
        first.writable false false)
        (put_property (index_key i) (full_in (names_of d) full) (map (property_in (names_of d)) c.props))
        → Changed home d (change_cell d id (with_table ps))
    stored-changed ps a b e =
        let s : qs ≡ ps = sym (tables-same d u r home (known_values c.props (opened x)) known-all ps qs a b held
        (e ∙ sym image)) in
        subst (λ zs. Changed home d (change_cell d id (with_table zs))) s
        (table-changed d r home id c there (λ u. at) (rw array refl) (rw array refl) qs held evolves stays-array)

  module _ (index : index_of_key (key_in (names_of d) (k.Text t i)) ≡ Some i) (d' : Data)
      (cell : option_map (object_of (names_of d)) (cell_at d' id)
      ≡ option_map (left (meant d id (k.Text t i) (opened x))) (option_map (object_of (names_of d)) (cell_at d id)))
      (rest : d' ≡ change_cell d id (with_table (table_in (cell_at d' id))))
      (unchanged : changes (meant d id (k.Text t i) (opened x)) ≡ false → d' ≡ d)
      (objects : All (HoldsKnown (known_values (table_in (cell_at d id)) (opened x))) (table_in (cell_at d' id)))
      (ids : HasItsIds d') where
    abbrev F : Cell → Cell
    F = with_table (table_in (cell_at d' id))

    abbrev rs : List (Key × Full Value)
    rs = table_in (cell_at d' id)

    counted : is_object_cell c ≡ true
    counted = rw array refl

    set-there : cell_at (change_cell d id F) id ≡ Some (F c)
    set-there = cell-changed d id c F there refl counted

    table-in : All (PropertyIn d) rs
    table-in =
        let i : HasItsIds (change_cell d id F) = subst HasItsIds rest ids in
        All-weaker (PropertyIn (change_cell d id F)) (PropertyIn d) (property-back d id c F there) rs
        (All-at (CellIn (change_cell d id F)) (change_cell d id F).cells id.0 (F c) set-there i.cells_in).props_in

    table-known : All (HoldsKnown (known_values c.props (opened x))) rs
    table-known = subst (λ zs. All (HoldsKnown (known_values zs (opened x))) rs) (ap table_in there) objects

    by-full : (T : Thing) (q : Full Val) → thing_in (names_of d) (F c) ≡ T
        → validated (thing_in (names_of d) c) (index_key i) (descriptor_of (open_property (Resolve (names_of d) x)))
        ≡ Some q
        → T ≡ with_length (max first.length (i + 1)) first.writable
        (with_property (index_key i) q (thing_in (names_of d) c))
        → (nat_le first.length i ≡ true → first.writable ≡ true) → (o : Option (Full Value)) → V ≡ o → Changed home d d'
    by-full T q a b e f None g = (let z : None ≡ Some q = ap (option_map (full_in n)) (sym g) ∙ sym accepts ∙ b in cc)
    by-full T q a b e f (Some full) g =
        let z : Some (full_in n full) ≡ Some q = ap (option_map (full_in n)) (sym g) ∙ sym accepts ∙ b in
        let y : full_in n full ≡ q = cc in
        let s : map (property_in n) rs
        ≡ put_property length_key (Datum (Whole (pos (max L (i + 1)))) w false false)
        (put_property K (full_in n full) P0)
        = ap (λ (t : Thing). t.properties) (a ∙ e)
        ∙ ap (λ z. put_property length_key (Datum (Whole (pos (max L (i + 1)))) w false false) (put_property K z P0))
        (sym y) in
        subst (Changed home d) (sym rest) (stored-changed full g f rs table-in table-known s)

    by-defined : (m : Defined) → meant d id key (opened x) ≡ m → IsNoFault m → Changed home d d'
    by-defined Refused e f = rw (unchanged (ap changes e)) (changed-same home d r)
    by-defined (BecomesThing T b) e f =
        let there' : cell_at d' id ≡ Some (F c) = ap (λ (y : Data). cell_at y id) rest ∙ set-there in
        let q : Some (object_of n (F c)) ≡ Some T
        = ap (option_map (object_of n)) (sym there') ∙ cell
        ∙ ap (λ (y : Defined). option_map (left y) (option_map (object_of n) (cell_at d id))) e
        ∙ ap (λ (y : Option Cell). option_map (left (BecomesThing T b)) (option_map (object_of n) y)) there in
        let s : object_of n (F c) ≡ T = cc in
        let a : thing_in n (F c) ≡ T = sym (owned n (F c) array) ∙ s in
        let z = stored-as t0 i L w (Resolve n x) T b len
        (sym (meant-element d id c there array key i x spelled index) ∙ e) in
        by-full T z.0 a z.1 z.2 z.3 V refl
    by-defined (Faulty kind) e f = absurd f

    pub element-changed : Changed home d d'
    element-changed =
        by-defined (element_stored t0 i (Resolve n x)) (meant-element d id c there array key i x spelled index)
        (no-fault t0 (index_key i) (descriptor_of (open_property (Resolve n x))) i (array_length t0))
