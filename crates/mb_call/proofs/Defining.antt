-- What a definition leaves (ECMA-262 10.1.6, 10.4.2.1): the world stays ready, and the row goes on.
use Rattle.std.proofs.Common.{◌≡◌, ◌∙◌, Bool, List, None, Ok, Option, Some, ap, false, flat_map, map, refl, subst, sym}
use Rattle.std.proofs.Common.{true, ℕ}
use Rattle.std.proofs.lemmas.List.Elements.{All-append, All-weaker}
use Rattle.std.specs.List.{IsDistinct}
use Rattle.std.specs.Map.{keys_of}
use Rattle.std.specs.Prelude.{All}
use Rattle.mb_array.specs.Define.{HoldsKnown, known_values}
use Rattle.mb_base.specs.declared.value.Key.{Key}
use Rattle.mb_base.specs.declared.value.ObjId.{ObjId}
use Rattle.mb_base.specs.declared.value.Side.{Side}
use Rattle.mb_base.specs.declared.value.Value.{Value}
use Rattle.mb_call.proofs.Deleting.{plain-object-of}
use Rattle.mb_call.proofs.Evolved.{things-evolve, view-is}
use Rattle.mb_call.proofs.Fixed.{built-in-still, kept-changed, part-changed}
use Rattle.mb_call.proofs.Remade.{remade, thing-length}
use Rattle.mb_call.proofs.Wholes.{one-kind}
use Rattle.mb_desc.proofs.Fixed.{fixed_is_kept}
use Rattle.mb_desc.specs.Descriptors.{IsOfOneKind}
use Rattle.mb_desc.specs.Laws.{KeepsFixed}
use Rattle.mb_desc.specs.Validate.{Validate}
use Rattle.mb_desc.specs.declared.descriptor.Desc.{Desc}
use Rattle.mb_desc.specs.declared.descriptor.Full.{Full}
use Rattle.mb_desc.specs.declared.descriptor.Full.TheVariants.{Accessor, Datum}
use Rattle.mb_frames.proofs.HeldCells.{cell-held, reads-home}
use Rattle.mb_frames.proofs.Opened.{parts-flat}
use Rattle.mb_frames.proofs.Passed.{Part-by}
use Rattle.mb_frames.proofs.Standard.{is-fixed}
use Rattle.mb_frames.specs.Held.{HeldDesc, HeldFull, HeldKey, HeldObject, HeldValue}
use Rattle.mb_frames.specs.Passing.{Part}
use Rattle.mb_frames.specs.Ready.{Changed, IsReady, MayHold}
use Rattle.mb_frames.specs.Stepping.{Sure}
use Rattle.mb_frames.specs.Wholeness.{cell_view, key_sort}
use Rattle.mb_frames.specs.declared.frame.Move.{Move}
use Rattle.mb_growth.proofs.Arrays.{definitions-move}
use Rattle.mb_growth.proofs.BuiltIns.{IsStill}
use Rattle.mb_growth.specs.Objects.{HasLength, IsFormed, as_view, is_array, sort_of}
use Rattle.mb_model.specs.Meaning.{finished}
use Rattle.mb_model.specs.Objects.Methods.{settled}
use Rattle.mb_model.specs.Operations.Makings.{alter}
use Rattle.mb_model.specs.Writing.{yes_or_no}
use Rattle.mb_ordinary.specs.Definitions.{desc_values}
use Rattle.mb_ordinary.specs.Objects.{is_ordinary}
use Rattle.mb_parts.proofs.HeldEach.{desc-each, full-each}
use Rattle.mb_parts.proofs.TableChanged.{table-changed}
use Rattle.mb_parts.proofs.Tables.{put-there, tables-same}
use Rattle.mb_parts.proofs.Viewing.{names-distinct, with_props}
use Rattle.mb_props.specs.Table.{same_key}
use Rattle.mb_text.specs.Texts.{AreDistinct}
use Rattle.mb_view.specs.Views.{Evolves}
use Rattle.mb_view.specs.Views as views
use Rattle.mb_world.proofs.Grow.{All-at}
use Rattle.mb_world.proofs.Values.{value-equal}
use Rattle.mb_world.specs.Arrays.{defined, defined_by_kind}
use Rattle.mb_world.specs.Data.{Data, cell_at, change_cell}
use Rattle.mb_world.specs.Formed.{IsArray, full_values, is_of_membrane}
use Rattle.mb_world.specs.Graph.{Thing}
use Rattle.mb_world.specs.Ids.{CellIn, KeyIn, PropertyIn}
use Rattle.mb_world.specs.Image.{Image, Resolve, desc_in, key_in, kind_in, names_of, object_in, object_of, property_in}
use Rattle.mb_world.specs.Key as graph
use Rattle.mb_world.specs.Key.{PropertyKey}
use Rattle.mb_world.specs.Objects.{own_property, put_property, with_property}
use Rattle.mb_world.specs.Ordinary.{Becomes, defined_as, validated}
use Rattle.mb_world.specs.Value.{Undefined, Val, same_value}
use Rattle.mb_world.specs.declared.cell.Cell.{Cell}
use Rattle.mb_world.specs.declared.cell.CellKind.{CellKind}
use Rattle.mb_world.specs.declared.cell.CellKind.TheVariants as kind

-- ---- a fixed property that a definition accepts stays

kept-still : (f p : Full Val) → IsStill f → KeepsFixed f p → p ≡ f
kept-still (Datum x w e c) (Datum y v a b) s k =
    let z : (v ≡ false) × (y ≡ x) = k.2 s.1 in
    let i : a ≡ e = k.0 in
    let j : b ≡ c = k.1 in
    let l : v ≡ w = z.0 ∙ sym s.1 in
    let o : y ≡ x = z.1 in
    cc
kept-still (Datum x w e c) (Accessor y z a b) s k = absurd k
kept-still (Accessor x y e c) p s k = k

closed-none : (desc : Desc Val) → Validate same_value Undefined false None desc ≡ None
unfolding Validate
closed-none desc = refl

module _ (d : Data) (r : IsReady d) (home : Side) (id : ObjId) (h : MayHold d home (HeldObject id)) (c : Cell)
    (there : cell_at d id ≡ Some c) (u : AreDistinct d.texts) (distinct : IsDistinct same_key (keys_of c.props))
    (key : Key) (i : KeyIn d key) (given : Desc Value) (g : MayHold d home (HeldDesc given))
    (ordinary : is_ordinary c.kind ≡ true) (membrane : is_of_membrane c.kind ≡ false) where
  abbrev H : Key × Full Value → Type 0
  H p = MayHold d home (HeldKey p.0) × MayHold d home (HeldFull p.1)

  abbrev t : Thing
  t = object_of (names_of d) c

  abbrev name : PropertyKey
  name = key_in (names_of d) key

  abbrev asked : Desc Val
  asked = desc_in (Resolve (names_of d)) given

  own : d.joined ≡ false → c.home ≡ home
  own = reads-home d home id c h there

  was-in : All (PropertyIn d) c.props
  was-in = (All-at (CellIn d) d.cells id.0 c there r.ids.cells_in).props_in

  was : All H c.props
  was = (cell-held d r id c there home own).properties

  -- what stands in the table, and in the descriptor
  known-held : All (λ x. MayHold d home (HeldValue x)) (known_values c.props given)
  known-held =
      let P : Value → Type 0 = λ x. MayHold d home (HeldValue x) in
      All-append P (flat_map (λ p. full_values p.1) c.props) (desc_values given)
      (parts-flat P (λ (p : Key × Full Value). full_values p.1) c.props
      (All-weaker H (λ p. All P (full_values p.1)) (λ p k. full-each d home p.1 k.1) c.props was))
      (desc-each d home given g)

  one : IsOfOneKind asked
  one = one-kind (names_of d) given g.sound.0

  -- ---- the object is formed

  has-length : (y : CellKind) → c.kind ≡ y → is_array (kind_in (names_of d) c.slots y) ≡ true → HasLength t
  has-length kind.Array e a = thing-length d r home id h c there u distinct key i given g was e
  has-length kind.Plain e a = cc
  has-length (kind.Function code) e a = cc
  has-length (kind.BuiltIn place) e a = cc
  has-length (kind.Fault fault) e a = cc
  has-length (kind.Proxy (Some x) (Some y) shape) e a = cc
  has-length (kind.Proxy (Some x) None shape) e a = cc
  has-length (kind.Proxy None y shape) e a = cc
  has-length (kind.Revoker proxy) e a = cc
  has-length (kind.Membrane behind shadow) e a = cc
  has-length (kind.Shadow shape) e a = cc
  has-length (kind.Collection coll) e a = cc

  formed : IsFormed t
  formed = record {
    distinct = subst (views.HasDistinctKeys graph.same_key) (sym (view-is (names_of d) c))
        (names-distinct d u c.props was-in distinct);
    array = has-length c.kind refl;
  }

  -- ---- what it becomes

  module _ (after : Thing) (b : Bool) (e : defined t name asked ≡ Becomes after b) (ps : List (Key × Full Value))
      (is : object_of (names_of d) (with_props ps c) ≡ after) (inside : All (PropertyIn d) ps)
      (known : All (HoldsKnown (known_values c.props given)) ps) where
    properties-are : map (property_in (names_of d)) ps ≡ after.properties
    properties-are = ap (λ (x : Thing). x.properties) is

    table-held : All H ps × IsArray d c.kind (with_props ps c)
    table-held =
        let m = remade d r home id h c there u distinct key i given g was ordinary after b e in
        let s : ps ≡ m.table
        = tables-same d u r home (known_values c.props given) known-held ps m.table inside known m.held
        (properties-are ∙ sym m.same) in
        subst (λ (xs : List (Key × Full Value)). All H xs × IsArray d c.kind (with_props xs c)) (sym s)
        (m.held, m.array)

    evolves : Evolves graph.same_key key_sort (cell_view (names_of d) c) (cell_view (names_of d) (with_props ps c))
    evolves =
        things-evolve (names_of d) (names_of d) c (with_props ps c)
        (subst (λ (x : Thing). Evolves graph.same_key sort_of (as_view t) (as_view x)) (sym is)
        (definitions-move t after name asked b formed one e).1.evolves)

    -- ---- a built-in stays as it is

    still-there : (place : ℕ) → c.kind ≡ kind.BuiltIn place → (p : Full Val) → validated t name asked ≡ Some p
        → (o : Option (Full Val)) → own_property name t ≡ o → own_property name t ≡ Some p
    still-there place q p v None s =
        let x : Validate same_value Undefined false None asked ≡ Some p
        = subst (λ (y : Bool). Validate same_value Undefined y None asked ≡ Some p) (is-fixed d r id c place there q)
        (ap (λ (o : Option (Full Val)). Validate same_value Undefined c.extensible o asked) (sym s) ∙ v) in
        let z : None ≡ Some p = sym (closed-none asked) ∙ x in
        cc
    still-there place q p v (Some f) s =
        let w = built-in-still d r id c there place q name f s in
        let x : Validate same_value Undefined c.extensible (Some f) asked ≡ Some p
        = ap (λ (o : Option (Full Val)). Validate same_value Undefined c.extensible o asked) (sym s) ∙ v in
        let k = fixed_is_kept same_value Undefined value-equal c.extensible f asked p one w.0 x in
        s ∙ ap Some (sym (kept-still f p w k))

    still-as : (place : ℕ) → c.kind ≡ kind.BuiltIn place → (o : Option (Full Val)) → validated t name asked ≡ o
        → defined_as t name o ≡ Becomes after b → t.properties ≡ after.properties
    still-as place q None v z = cc
    still-as place q (Some p) v z =
        let w : with_property name p t ≡ after = cc in
        let x : put_property name p t.properties ≡ t.properties
        = put-there name p t.properties (still-there place q p v (own_property name t) refl) in
        sym x ∙ ap (λ (y : Thing). y.properties) w

    still-table : (place : ℕ) → c.kind ≡ kind.BuiltIn place → with_props ps c ≡ c
    still-table place q =
        let z : defined_as t name (validated t name asked) ≡ Becomes after b
        = subst (λ (y : CellKind). defined_by_kind (kind_in (names_of d) c.slots y) t name asked
        ≡ Becomes after b) q e in
        let x : map (property_in (names_of d)) c.props ≡ after.properties
        = still-as place q (validated t name asked) refl z in
        ap (λ (xs : List (Key × Full Value)). with_props xs c)
        (tables-same d u r home (known_values c.props given) known-held ps c.props inside known was
        (properties-are ∙ sym x))

    -- ---- the row, and the world

    pub defined-part : (m : Move) (f : ℕ) → Sure home (change_cell d id (with_props ps)) (yes_or_no b finished) m
        → Part home (Ok m) d (change_cell d id (with_props ps)) f f
        (settled home.0 (object_in (names_of d) id) (defined t name asked) finished)
    defined-part m f s =
        let o : Val = object_in (names_of d) id in
        Part-by home (Ok m) d (change_cell d id (with_props ps)) f f (settled home.0 o (defined t name asked) finished)
        (alter o (λ x. after) (λ a. yes_or_no b finished))
        (λ log. ap (λ z. settled home.0 o z finished (Image d log)) e)
        (part-changed d r home id c there membrane (with_props ps) still-table refl m f (λ x. after)
        (λ a. yes_or_no b finished) (λ n. sym (plain-object-of (names_of d) (with_props ps c) n) ∙ is) s)

    pub defined-changed : Changed home d (change_cell d id (with_props ps))
    defined-changed =
        kept-changed d r home id c there membrane (with_props ps) still-table
        (λ n. table-changed d r home id c there own membrane n ps table-held.0 evolves table-held.1)
