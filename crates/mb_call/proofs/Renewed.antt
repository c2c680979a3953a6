-- An object whose prototype, properties and flag change: the world stays ready.
use Rattle.std.proofs.Common.{◌++◌, ◌≡◌, ◌∷◌, ◌∙◌, Bool, List, Some, false, refl, subst, sym, true, true≢false}
use Rattle.std.specs.Prelude.{All}
use Rattle.std.specs.List.{flat_map}
use Rattle.std.proofs.lemmas.List.Elements.{All-append, All-cons, All-weaker}
use Rattle.mb_base.specs.declared.value.Key.{Key}
use Rattle.mb_base.specs.declared.value.ObjId.{ObjId}
use Rattle.mb_base.specs.declared.value.Side.{Side}
use Rattle.mb_base.specs.declared.value.Value.{Value}
use Rattle.mb_desc.specs.declared.descriptor.Full.{Full}
use Rattle.mb_frames.proofs.HeldCells.{cell-held, reads-home}
use Rattle.mb_frames.proofs.HeldLess.{prototype-value}
use Rattle.mb_frames.proofs.Opened.{all-of, parts-flat}
use Rattle.mb_frames.proofs.Parts.{left-part, right-part}
use Rattle.mb_frames.proofs.Renewing.{written-changed}
use Rattle.mb_frames.proofs.Worlds.{kind-same}
use Rattle.mb_frames.specs.Found.{HoldsCell}
use Rattle.mb_frames.specs.Held.{HeldFull, HeldKey, HeldObject, HeldPrototype}
use Rattle.mb_frames.specs.Ready.{Changed, IsReady, IsWritten, MayHold, is_built_in}
use Rattle.mb_frames.specs.Wholeness.{cell_view, key_sort}
use Rattle.mb_ordinary.proofs.Cells.{same-names}
use Rattle.mb_view.proofs.Sorted.{sorted-refl}
use Rattle.mb_view.specs.Views.{Evolves}
use Rattle.mb_world.proofs.Grow.{All-at}
use Rattle.mb_world.specs.Contained.{IsOwn, in_cell, in_full, in_kind, in_option, in_pair, in_value}
use Rattle.mb_world.specs.Data.{Data, cell_at, change_cell, closed, set_cell, with_proto}
use Rattle.mb_world.specs.Formed.{FormedCell, HasItsCallables, HasItsSlots, InRange, IsArray, cell_values, full_values}
use Rattle.mb_world.specs.Formed.{is_of_membrane, kind_values, pair_values}
use Rattle.mb_world.specs.Ids.{CellIn, PropertyIn}
use Rattle.mb_world.specs.Image.{Names, names_of}
use Rattle.mb_world.specs.Key.{same_key}
use Rattle.mb_world.specs.declared.cell.Cell.{Cell}
use Rattle.mb_world.specs.declared.cell.CellKind.{CellKind}
use Rattle.mb_world.specs.declared.cell.CellKind.TheVariants as kind

-- the cell with another prototype, flag and table
abbrev pub renewed : Value → Bool → List (Key × Full Value) → Cell → Cell
renewed proto extensible props c = record c { proto = proto; extensible = extensible; props = props }

-- ---- a view of which the prototype or the flag is another

module _ (n : Names) (c : Cell) where
  pub proto-evolves : (p : Value) → c.extensible ≡ true
      → Evolves same_key key_sort (cell_view n c) (cell_view n (renewed p c.extensible c.props c))
  proto-evolves p x =
      let e = sorted-refl same_key key_sort (cell_view n c) in
      record {
        facts = record {
          properties = e.facts.properties;
          closed = e.facts.closed;
          prototype = λ h. absurd (true≢false (sym x ∙ h));
          absent = e.facts.absent;
        };
        order = record {
          texts = record { closed = e.order.texts.closed; fixed = e.order.texts.fixed };
          symbols = record { closed = e.order.symbols.closed; fixed = e.order.symbols.fixed };
        };
      }

  pub closed-evolves : Evolves same_key key_sort (cell_view n c) (cell_view n (renewed c.proto false c.props c))
  closed-evolves =
      let e = sorted-refl same_key key_sort (cell_view n c) in
      record {
        facts = record {
          properties = e.facts.properties;
          closed = λ h. refl;
          prototype = e.facts.prototype;
          absent = e.facts.absent;
        };
        order = record {
          texts = record { closed = e.order.texts.closed; fixed = e.order.texts.fixed };
          symbols = record { closed = e.order.symbols.closed; fixed = e.order.symbols.fixed };
        };
      }

-- ---- a cell that is renewed

slots-still : (d : Data) (k : CellKind) (c : Cell) (p : Value) (x : Bool) (ps : List (Key × Full Value))
    → HasItsSlots d k c → HasItsSlots d k (renewed p x ps c)
slots-still d (kind.Collection coll) c p x ps h = h
slots-still d k c p x ps h = h

module _ (d : Data) (r : IsReady d) (home : Side) (id : ObjId) (c : Cell) (there : cell_at d id ≡ Some c)
    (home_is : d.joined ≡ false → c.home ≡ home) (membrane : is_of_membrane c.kind ≡ false)
    (no_built_in : is_built_in c.kind ≡ false) (proto : Value) (extensible : Bool) (ps : List (Key × Full Value))
    (front : MayHold d home (HeldPrototype proto))
    (held : All (λ p. MayHold d home (HeldKey p.0) × MayHold d home (HeldFull p.1)) ps)
    (evolves : Evolves same_key key_sort (cell_view (names_of d) c)
    (cell_view (names_of d) (renewed proto extensible ps c)))
    (array : IsArray d c.kind (renewed proto extensible ps c)) where
  abbrev after : Cell
  after = renewed proto extensible ps c

  abbrev H : Key × Full Value → Type 0
  H p = MayHold d home (HeldKey p.0) × MayHold d home (HeldFull p.1)

  was-formed : FormedCell d c
  was-formed = All-at (FormedCell d) d.cells id.0 c there r.formed.cells

  was-in : CellIn d c
  was-in = All-at (CellIn d) d.cells id.0 c there r.ids.cells_in

  was-own : d.joined ≡ false → All (IsOwn d home) (in_cell c)
  was-own u =
      subst (λ (s : Side). All (IsOwn d s) (in_cell c)) (home_is u)
      (All-at (λ (x : Cell). All (IsOwn d x.home) (in_cell x)) d.cells id.0 c there (r.contained u).cells_own)

  after-in : CellIn d after
  after-in = record {
    home_in = was-in.home_in;
    kind_in = was-in.kind_in;
    proto_in = front.within;
    props_in = All-weaker H (PropertyIn d) (λ p h. (h.0.within, h.1.within)) ps held;
    label_in = was-in.label_in;
    slots_in = was-in.slots_in;
  }

  after-wholes : All InRange (cell_values after)
  after-wholes =
      let ks : List Value = kind_values c.kind in
      let os : List Value = flat_map (λ p. full_values p.1) c.props in
      let qs : List Value = flat_map (λ p. full_values p.1) ps in
      let ss : List Value = flat_map pair_values c.slots in
      All-append InRange (ks ++ (proto ∷ qs)) ss
      (All-append InRange ks (proto ∷ qs)
      (left-part InRange ks (c.proto ∷ os) (left-part InRange (ks ++ (c.proto ∷ os)) ss was-formed.wholes))
      (All-cons InRange proto qs (prototype-value d home proto front).sound
      (parts-flat InRange (λ (p : Key × Full Value). full_values p.1) ps
      (All-weaker H (λ p. All InRange (full_values p.1))
      (λ p k. all-of InRange (full_values p.1) k.1.sound.wholes) ps held))))
      (right-part InRange (ks ++ (c.proto ∷ os)) ss was-formed.wholes)

  after-own : d.joined ≡ false → All (IsOwn d home) (in_cell after)
  after-own u =
      let P : ObjId → Type 0 = IsOwn d home in
      let is : List ObjId = in_kind c.kind in
      let ks : List ObjId = is ++ in_value c.proto in
      let os : List ObjId = flat_map (λ p. in_full p.1) c.props in
      let ls : List ObjId = is ++ in_value proto in
      let qs : List ObjId = flat_map (λ p. in_full p.1) ps in
      let ss : List ObjId = flat_map (in_option in_pair) c.slots in
      let w : All P ((ks ++ os) ++ ss) = was-own u in
      All-append P (ls ++ qs) ss
      (All-append P ls qs
      (All-append P is (in_value proto)
      (left-part P is (in_value c.proto) (left-part P ks os (left-part P (ks ++ os) ss w))) (front.own u))
      (parts-flat P (λ (p : Key × Full Value). in_full p.1) ps
      (All-weaker H (λ p. All P (in_full p.1)) (λ p k. k.1.own u) ps held)))
      (right-part P (ks ++ os) ss w)

  after-formed : FormedCell d after
  after-formed = record {
    home = was-formed.home;
    wholes = after-wholes;
    prototype = front.sound;
    callables = All-weaker H (λ p. HasItsCallables d p.1) (λ p k. k.1.sound.callables) ps held;
    array = array;
    slots = slots-still d c.kind c proto extensible ps was-formed.slots;
    kind = was-formed.kind;
  }

  set-is : change_cell d id (renewed proto extensible ps) ≡ set_cell d id after
  set-is = rw there refl

  same : names_of (set_cell d id after) ≡ names_of d
  same = subst (λ (y : Data). names_of y ≡ names_of d) set-is
      (same-names d id c (renewed proto extensible ps) there refl)

  written : IsWritten d home id c after
  written = record {
    home_is = home_is;
    membrane = membrane;
    no_built_in = no_built_in;
    keeps = record {
      home = refl;
      label = refl;
      kind = kind-same c.kind;
      evolves = subst (λ (n : Names). Evolves same_key key_sort (cell_view (names_of d) c) (cell_view n after))
          (sym same) evolves;
    };
    cell_in = after-in;
    formed = after-formed;
    own = after-own;
  }

  pub renewed-changed : Changed home d (set_cell d id after)
  renewed-changed = written-changed home d id c after r there written

-- ---- [[SetPrototypeOf]] and [[PreventExtensions]] (ECMA-262 10.1.2, 10.1.4)

array-still : (d : Data) (k : CellKind) (c : Cell) (p : Value) (x : Bool) → IsArray d k c
    → IsArray d k (renewed p x c.props c)
array-still d kind.Array c p x h = h
array-still d k c p x h = h

module _ (d : Data) (r : IsReady d) (home : Side) (id : ObjId) (h : MayHold d home (HeldObject id)) (c : Cell)
    (there : cell_at d id ≡ Some c) (membrane : is_of_membrane c.kind ≡ false)
    (no_built_in : is_built_in c.kind ≡ false) where
  its-array : IsArray d c.kind c
  its-array = (All-at (FormedCell d) d.cells id.0 c there r.formed.cells).array

  its-holds : HoldsCell d home c
  its-holds = cell-held d r id c there home (reads-home d home id c h there)

  pub proto-changed : (p : Value) → c.extensible ≡ true → MayHold d home (HeldPrototype p)
      → Changed home d (change_cell d id (with_proto p))
  proto-changed p x front =
      let e : change_cell d id (with_proto p) ≡ set_cell d id (renewed p c.extensible c.props c) = rw there refl in
      subst (Changed home d) (sym e)
      (renewed-changed d r home id c there
      (reads-home d home id c h there) membrane no_built_in p c.extensible c.props front
      its-holds.properties (proto-evolves (names_of d) c p x) (array-still d c.kind c p c.extensible its-array))

  pub closed-changed : Changed home d (change_cell d id closed)
  closed-changed =
      let e : change_cell d id closed ≡ set_cell d id (renewed c.proto false c.props c) = rw there refl in
      subst (Changed home d) (sym e)
      (renewed-changed d r home id c there (reads-home d home id c h there) membrane no_built_in c.proto false c.props
      its-holds.prototype its-holds.properties (closed-evolves (names_of d) c)
      (array-still d c.kind c c.proto false its-array))
