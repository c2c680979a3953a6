-- Objects that take any property: a property is put, and the world stays ready.
use Rattle.mb_base.specs.declared.value.Key.{Key}
use Rattle.mb_base.specs.declared.value.ObjId.{ObjId}
use Rattle.mb_base.specs.declared.value.Side.{Side}
use Rattle.mb_base.specs.declared.value.Value.{Value}
use Rattle.mb_desc.specs.Descriptors.{is_configurable}
use Rattle.mb_desc.specs.View.{View}
use Rattle.mb_desc.specs.declared.descriptor.Full.{Full}
use Rattle.mb_desc.specs.declared.descriptor.Full.TheVariants.{Accessor, Datum}
use Rattle.mb_frames.proofs.AfterCalls.{no-part}
use Rattle.mb_frames.proofs.Leaving.{holds-still}
use Rattle.mb_frames.proofs.Parts.{each-part, left-part, right-part}
use Rattle.mb_frames.proofs.Putting.{get-set}
use Rattle.mb_frames.proofs.Readying.{changed-then, text-changed}
use Rattle.mb_frames.proofs.Renewing.{written-changed}
use Rattle.mb_frames.proofs.Worlds.{kind-same}
use Rattle.mb_frames.specs.Held.{HeldFull}
use Rattle.mb_frames.specs.Making.{IsOpen}
use Rattle.mb_frames.specs.Ready.{Changed, IsReady, IsWritten, MayHold, is_built_in}
use Rattle.mb_frames.specs.Wholeness.{cell_view, key_sort}
use Rattle.mb_text.specs.Texts.{with_text}
use Rattle.mb_view.specs.Views.{Evolves, property_of}
use Rattle.mb_world.proofs.Grow.{All-at}
use Rattle.mb_world.proofs.Worlds.{All-insert}
use Rattle.mb_world.specs.Contained.{IsOwn, in_cell, in_full, in_kind, in_option, in_pair, in_value}
use Rattle.mb_world.specs.Data.{Data, cell_at, change_cell, is_array, is_counted, kind_stand, put_in, set_cell, with_texts}
use Rattle.mb_world.specs.Formed.{FormedCell, HasItsCallables, HasItsSlots, InRange, IsArray, cell_values, full_values, kind_values, pair_values}
use Rattle.mb_world.specs.Ids.{CellIn, KeyIn, PropertyIn}
use Rattle.mb_world.specs.Image.{Names, full_in, key_in, names_of}
use Rattle.mb_world.specs.Key.{PropertyKey, same_key}
use Rattle.mb_world.specs.Value.{Val}
use Rattle.mb_world.specs.declared.cell.Cell.{Cell}
use Rattle.mb_world.specs.declared.cell.CellKind.{CellKind}
use Rattle.mb_world.specs.declared.cell.CellKind.TheVariants as kind
use Rattle.std.proofs.Common.{List, Some, [], false, refl, slice_index_or, subst, sym, true, true≢false, ℕ, ◌++◌, ◌∙◌, ◌∷◌, ◌≡◌}
use Rattle.std.proofs.lemmas.List.Elements.{All-append, All-cons, All-head, All-map, All-nil, All-tail}
use Rattle.std.proofs.lemmas.Map.Entries.{All-lookup}
use Rattle.std.specs.List.{AllByRecursion, flat_map}
use Rattle.std.specs.Map.{lookup}
use Rattle.std.specs.Prelude.{All, IfSome}

-- ---- lists

module _ {X : Type 0} (P : X → Type 0) where
  pub parts-flat : {A : Type 0} (f : A → List X) (ys : List A) → All (λ y. All P (f y)) ys → All P (flat_map f ys)
  parts-flat f [] h = All-nil P
  parts-flat f (y ∷ ys) h =
      All-append P (f y) (flat_map f ys) (All-head (λ z. All P (f z)) y ys h)
      (parts-flat f ys (All-tail (λ z. All P (f z)) y ys h))

  -- what stands in properties of which one was put
  pub flat-put : (f : Full Value → List X) (c : Cell) (key : Key) (full : Full Value)
      → All P (flat_map (λ p. f p.1) c.props) → All P (f full) → All P (flat_map (λ p. f p.1) (put_in key full c).props)
  flat-put f c key full h k =
      parts-flat (λ (p : Key × Full Value). f p.1) (put_in key full c).props
      (All-insert (λ (p : Key × Full Value). All P (f p.1)) c.props key full k (λ p i. k)
      (each-part P (λ (p : Key × Full Value). f p.1) c.props h))

pub all-of : {X : Type 0} (P : X → Type 0) (xs : List X) → AllByRecursion P xs → All P xs
all-of P [] h = All-nil P
all-of P (x ∷ xs) h = All-cons P x xs h.0 (all-of P xs h.1)

-- ---- a view of which no property is fixed, and that is extensible, is followed by any

configurable-in : (n : Names) (full : Full Value) → is_configurable full ≡ true → is_configurable (full_in n full) ≡ true
configurable-in n (Datum x w e c) h = h
configurable-in n (Accessor g s e c) h = h

module _ (n : Names) (c : Cell) (x : c.extensible ≡ true) (h : All (λ p. is_configurable p.1 ≡ true) c.props) where
  none-closed : (cell_view n c).extensible ≡ false → ⊥
  none-closed e = true≢false (sym x ∙ e)

  none-fixed : (key : PropertyKey) (property : Full Val) → property_of same_key (cell_view n c) key ≡ Some property
      → is_configurable property ≡ false → ⊥
  none-fixed key property e f =
      let a : All (λ (p : PropertyKey × Full Val). is_configurable p.1 ≡ true) (cell_view n c).properties
      = All-map (λ (p : PropertyKey × Full Val). is_configurable p.1 ≡ true)
      (λ (p : Key × Full Value). (key_in n p.0, full_in n p.1)) c.props
      (λ i p l. configurable-in n (slice_index_or c.props i p).1 (h i p l)) in
      let q : IfSome (lookup (same_key key) (cell_view n c).properties) (λ (y : Full Val). is_configurable y ≡ true)
      = All-lookup (λ (y : Full Val). is_configurable y ≡ true) (same_key key) (cell_view n c).properties a in
      true≢false (sym (rw e at q) ∙ f)

  pub open-evolves : (new : View PropertyKey Val) → Evolves same_key key_sort (cell_view n c) new
  open-evolves new = record {
    facts = record {
      properties = λ key property e f. absurd (none-fixed key property e f);
      closed = λ e. absurd (none-closed e);
      prototype = λ e. absurd (none-closed e);
      absent = λ e key h. absurd (none-closed e);
    };
    order = record {
      texts = record { closed = λ e. absurd (none-closed e); fixed = λ key t f. absurd (none-fixed key f.0 f.1 f.2) };
      symbols = record { closed = λ e. absurd (none-closed e); fixed = λ key t f. absurd (none-fixed key f.0 f.1 f.2) };
    };
  }

-- ---- a property is put

no-place : (k : CellKind) → is_counted (kind_stand k) ≡ true → is_built_in k ≡ false
no-place (kind.BuiltIn place) h = absurd (true≢false (sym h))
no-place k h = refl

array-put : (d : Data) (k : CellKind) (e : Cell) → is_array k ≡ false → IsArray d k e
array-put d kind.Array e h = absurd (true≢false h)
array-put d k e h = tt

slots-put : (d : Data) (k : CellKind) (c : Cell) (key : Key) (full : Full Value) → HasItsSlots d k c
    → HasItsSlots d k (put_in key full c)
slots-put d (kind.Collection coll) c key full h = h
slots-put d k c key full h = h

module _ (d : Data) (home : Side) (id : ObjId) (o : IsOpen d home id) (key : Key) (full : Full Value) where
  abbrev after : Cell
  after = put_in key full o.cell

  pub open-put : (d' : Data) → is_configurable full ≡ true → cell_at d' id ≡ Some after → IsOpen d' home id
  open-put d' h e = record {
    cell = after;
    there = e;
    home_is = o.home_is;
    counted = o.counted;
    no_array = o.no_array;
    extensible = o.extensible;
    configurable = All-insert (λ (p : Key × Full Value). is_configurable p.1 ≡ true) o.cell.props key full h (λ p k. h)
        o.configurable;
  }

  module _ (r : IsReady d) (key-in : KeyIn d key) (held : MayHold d home (HeldFull full)) where
    was-formed : FormedCell d o.cell
    was-formed = All-at (FormedCell d) d.cells id.0 o.cell o.there r.formed.cells

    was-in : CellIn d o.cell
    was-in = All-at (CellIn d) d.cells id.0 o.cell o.there r.ids.cells_in

    was-own : d.joined ≡ false → All (IsOwn d home) (in_cell o.cell)
    was-own u =
        subst (λ (s : Side). All (IsOwn d s) (in_cell o.cell)) o.home_is
        (All-at (λ (c : Cell). All (IsOwn d c.home) (in_cell c)) d.cells id.0 o.cell o.there (r.contained u).cells_own)

    after-in : CellIn d after
    after-in = record {
      home_in = was-in.home_in;
      kind_in = was-in.kind_in;
      proto_in = was-in.proto_in;
      props_in = All-insert (PropertyIn d) o.cell.props key full (key-in, held.within) (λ p k. (k.0, held.within))
          was-in.props_in;
      label_in = was-in.label_in;
      slots_in = was-in.slots_in;
    }

    after-wholes : All InRange (cell_values after)
    after-wholes =
        let ks : List Value = kind_values o.cell.kind in
        let ps : List Value = flat_map (λ p. full_values p.1) o.cell.props in
        let qs : List Value = flat_map (λ p. full_values p.1) after.props in
        let ss : List Value = flat_map pair_values o.cell.slots in
        let h : All InRange (ks ++ (o.cell.proto ∷ ps)) = left-part InRange (ks ++ (o.cell.proto ∷ ps)) ss was-formed.wholes in
        let t : All InRange (o.cell.proto ∷ ps) = right-part InRange ks (o.cell.proto ∷ ps) h in
        All-append InRange (ks ++ (o.cell.proto ∷ qs)) ss
        (All-append InRange ks (o.cell.proto ∷ qs) (left-part InRange ks (o.cell.proto ∷ ps) h)
        (All-cons InRange o.cell.proto qs (All-head InRange o.cell.proto ps t)
        (flat-put InRange full_values o.cell key full (All-tail InRange o.cell.proto ps t)
        (all-of InRange (full_values full) held.sound.wholes))))
        (right-part InRange (ks ++ (o.cell.proto ∷ ps)) ss was-formed.wholes)

    after-own : d.joined ≡ false → All (IsOwn d home) (in_cell after)
    after-own u =
        let P : ObjId → Type 0 = IsOwn d home in
        let ks : List ObjId = in_kind o.cell.kind ++ in_value o.cell.proto in
        let ps : List ObjId = flat_map (λ p. in_full p.1) o.cell.props in
        let qs : List ObjId = flat_map (λ p. in_full p.1) after.props in
        let ss : List ObjId = flat_map (in_option in_pair) o.cell.slots in
        let w : All P ((ks ++ ps) ++ ss) = was-own u in
        let h : All P (ks ++ ps) = left-part P (ks ++ ps) ss w in
        All-append P (ks ++ qs) ss
        (All-append P ks qs (left-part P ks ps h)
        (flat-put P in_full o.cell key full (right-part P ks ps h) (held.own u)))
        (right-part P (ks ++ ps) ss w)

    after-formed : FormedCell d after
    after-formed = record {
      home = was-formed.home;
      wholes = after-wholes;
      prototype = was-formed.prototype;
      callables = All-insert (λ (p : Key × Full Value). HasItsCallables d p.1) o.cell.props key full held.sound.callables
          (λ p k. held.sound.callables) was-formed.callables;
      array = array-put d o.cell.kind after o.no_array;
      slots = slots-put d o.cell.kind o.cell key full was-formed.slots;
      kind = was-formed.kind;
    }

    put-written : IsWritten d home id o.cell after
    put-written = record {
      home_is = λ u. o.home_is;
      membrane = no-part o.cell.kind o.counted;
      no_built_in = no-place o.cell.kind o.counted;
      keeps = record {
        home = refl;
        label = refl;
        kind = kind-same o.cell.kind;
        evolves = open-evolves (names_of d) o.cell o.extensible o.configurable
            (cell_view (names_of (set_cell d id after)) after);
      };
      cell_in = after-in;
      formed = after-formed;
      own = after-own;
    }

    pub put-changed : (d' : Data) → d' ≡ change_cell d id (put_in key full) → Changed home d d'
    put-changed d' e = rw (e, o.there) (written-changed home d id o.cell after r o.there put-written)

-- a text is added where it is new, and then a property of it is put
module _ (home : Side) (d d1 : Data) (units : List ℕ) (id : ObjId) (o : IsOpen d home id) (key : Key) (full : Full Value)
    (e : d1 ≡ with_texts d (with_text d.texts units)) where
  open-named : IsOpen d1 home id
  open-named = record {
    cell = o.cell;
    there = rw e o.there;
    home_is = o.home_is;
    counted = o.counted;
    no_array = o.no_array;
    extensible = o.extensible;
    configurable = o.configurable;
  }

  pub named-changed : IsReady d → Changed home d d1
  named-changed r = rw e (text-changed home d r units)

  pub named-put-changed : (d' : Data) → d' ≡ change_cell d1 id (put_in key full) → KeyIn d1 key → IsReady d
      → MayHold d home (HeldFull full) → Changed home d d'
  named-put-changed d' q i r h =
      let k : Changed home d d1 = named-changed r in
      changed-then home d d1 d' k
      (put-changed d1 home id open-named key full k.ready i (holds-still home d d1 r k (HeldFull full ∷ []) (h, tt)).0 d' q)

  pub named-put-open : (d' : Data) → d' ≡ change_cell d1 id (put_in key full) → is_configurable full ≡ true
      → IsOpen d' home id
  named-put-open d' q h =
      open-put d1 home id open-named key full d' h
      (rw (q, open-named.there) (get-set d1.cells id.0 open-named.cell (put_in key full open-named.cell) open-named.there))
