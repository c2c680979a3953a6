-- An object of a home that has other properties: the world stays ready.
use Rattle.std.proofs.Common.{◌++◌, ◌≡◌, ◌∷◌, List, Some, false, refl, subst, sym}
use Rattle.std.proofs.lemmas.List.Elements.{All-append, All-cons, All-head, All-weaker}
use Rattle.std.specs.List.{flat_map}
use Rattle.std.specs.Prelude.{All}
use Rattle.mb_base.specs.declared.value.Key.{Key}
use Rattle.mb_base.specs.declared.value.ObjId.{ObjId}
use Rattle.mb_base.specs.declared.value.Side.{Side}
use Rattle.mb_base.specs.declared.value.Value.{Value}
use Rattle.mb_desc.specs.declared.descriptor.Full.{Full}
use Rattle.mb_frames.proofs.Opened.{all-of, parts-flat}
use Rattle.mb_frames.proofs.Parts.{left-part, right-part}
use Rattle.mb_frames.proofs.Renewing.{written-changed}
use Rattle.mb_frames.proofs.Worlds.{kind-same}
use Rattle.mb_frames.specs.Held.{HeldFull, HeldKey}
use Rattle.mb_frames.specs.Ready.{Changed, IsReady, IsWritten, MayHold, is_built_in}
use Rattle.mb_frames.specs.Wholeness.{cell_view, key_sort}
use Rattle.mb_ordinary.proofs.Cells.{same-names}
use Rattle.mb_parts.proofs.Viewing.{with_props}
use Rattle.mb_view.specs.Views.{Evolves}
use Rattle.mb_world.proofs.Grow.{All-at}
use Rattle.mb_world.specs.Contained.{IsOwn, in_cell, in_full, in_kind, in_option, in_pair, in_value}
use Rattle.mb_world.specs.Data.{Data, cell_at, change_cell, set_cell}
use Rattle.mb_world.specs.Formed.{FormedCell, HasItsCallables, HasItsSlots, InRange, IsArray, cell_values, full_values}
use Rattle.mb_world.specs.Formed.{is_of_membrane, kind_values, pair_values}
use Rattle.mb_world.specs.Ids.{CellIn, PropertyIn}
use Rattle.mb_world.specs.Image.{Names, names_of}
use Rattle.mb_world.specs.Key as graph
use Rattle.mb_world.specs.declared.cell.Cell.{Cell}
use Rattle.mb_world.specs.declared.cell.CellKind.TheVariants as kind
use Rattle.mb_world.specs.declared.cell.CellKind.{CellKind}

-- ---- a cell with other properties

slots-still : (d : Data) (k : CellKind) (c : Cell) (ps : List (Key × Full Value)) → HasItsSlots d k c → HasItsSlots d
    k (with_props ps c)
slots-still d kind.Plain c ps h = h
slots-still d kind.Array c ps h = h
slots-still d (kind.Function code) c ps h = h
slots-still d (kind.BuiltIn place) c ps h = h
slots-still d (kind.Fault fault) c ps h = h
slots-still d (kind.Proxy target handler shape) c ps h = h
slots-still d (kind.Revoker proxy) c ps h = h
slots-still d (kind.Membrane behind shadow) c ps h = h
slots-still d (kind.Shadow shape) c ps h = h
slots-still d (kind.Collection coll) c ps h = h

module _ (d : Data) (r : IsReady d) (home : Side) (id : ObjId) (c : Cell) (there : cell_at d id ≡ Some c)
    (home_is : d.joined ≡ false → c.home ≡ home)
    (membrane : is_of_membrane c.kind ≡ false) (no_built_in : is_built_in c.kind ≡ false) (ps : List (Key × Full Value))
    (held : All (λ p. MayHold d home (HeldKey p.0) × MayHold d home (HeldFull p.1)) ps)
    (evolves : Evolves graph.same_key key_sort (cell_view (names_of d) c) (cell_view (names_of d) (with_props ps c)))
    (array : IsArray d c.kind (with_props ps c)) where
  abbrev after : Cell
  after = with_props ps c

  abbrev H : Key × Full Value → Type 0
  H p = MayHold d home (HeldKey p.0) × MayHold d home (HeldFull p.1)

  was-formed : FormedCell d c
  was-formed = All-at (FormedCell d) d.cells id.0 c there r.formed.cells

  was-in : CellIn d c
  was-in = All-at (CellIn d) d.cells id.0 c there r.ids.cells_in

  was-own : d.joined ≡ false → All (IsOwn d home) (in_cell c)
  was-own u =
      subst (λ (s : Side). All (IsOwn d s) (in_cell c)) (home_is u)
      (All-at (λ (x : Cell). All (IsOwn d x.home) (in_cell x)) d.cells id.0 c there (r.contained u).cells_own)

  after-in : CellIn d after
  after-in = record {
    home_in = was-in.home_in;
    kind_in = was-in.kind_in;
    proto_in = was-in.proto_in;
    props_in = All-weaker H (PropertyIn d) (λ p h. (h.0.within, h.1.within)) ps held;
    label_in = was-in.label_in;
    slots_in = was-in.slots_in;
  }

  after-wholes : All InRange (cell_values after)
  after-wholes =
      let ks : List Value = kind_values c.kind in
      let os : List Value = flat_map (λ p. full_values p.1) c.props in
      let qs : List Value = flat_map (λ p. full_values p.1) ps in
      let ss : List Value = flat_map pair_values c.slots in
      let h : All InRange (ks ++ (c.proto ∷ os)) = left-part InRange (ks ++ (c.proto ∷ os)) ss was-formed.wholes in
      let t : All InRange (c.proto ∷ os) = right-part InRange ks (c.proto ∷ os) h in
      All-append InRange (ks ++ (c.proto ∷ qs)) ss
      (All-append InRange ks (c.proto ∷ qs) (left-part InRange ks (c.proto ∷ os) h)
      (All-cons InRange c.proto qs (All-head InRange c.proto os t)
      (parts-flat InRange (λ (p : Key × Full Value). full_values p.1) ps
      (All-weaker H (λ p. All InRange (full_values p.1)) (λ p k. all-of InRange (full_values p.1) k.1.sound.wholes)
      ps held))))
      (right-part InRange (ks ++ (c.proto ∷ os)) ss was-formed.wholes)

  after-own : d.joined ≡ false → All (IsOwn d home) (in_cell after)
  after-own u =
      let P : ObjId → Type 0 = IsOwn d home in
      let ks : List ObjId = in_kind c.kind ++ in_value c.proto in
      let os : List ObjId = flat_map (λ p. in_full p.1) c.props in
      let qs : List ObjId = flat_map (λ p. in_full p.1) ps in
      let ss : List ObjId = flat_map (in_option in_pair) c.slots in
      let w : All P ((ks ++ os) ++ ss) = was-own u in
      All-append P (ks ++ qs) ss
      (All-append P ks qs (left-part P ks os (left-part P (ks ++ os) ss w))
      (parts-flat P (λ (p : Key × Full Value). in_full p.1) ps
      (All-weaker H (λ p. All P (in_full p.1)) (λ p k. k.1.own u) ps held)))
      (right-part P (ks ++ os) ss w)

  after-formed : FormedCell d after
  after-formed = record {
    home = was-formed.home;
    wholes = after-wholes;
    prototype = was-formed.prototype;
    callables = All-weaker H (λ p. HasItsCallables d p.1) (λ p k. k.1.sound.callables) ps held;
    array = array;
    slots = slots-still d c.kind c ps was-formed.slots;
    kind = was-formed.kind;
  }

  set-is : change_cell d id (with_props ps) ≡ set_cell d id after
  set-is = rw there refl

  same : names_of (set_cell d id after) ≡ names_of d
  same = subst (λ (y : Data). names_of y ≡ names_of d) set-is (same-names d id c (with_props ps) there refl)

  written : IsWritten d home id c after
  written = record {
    home_is = home_is;
    membrane = membrane;
    no_built_in = no_built_in;
    keeps = record {
      home = refl;
      label = refl;
      kind = kind-same c.kind;
      evolves = subst (λ (n : Names). Evolves graph.same_key key_sort (cell_view (names_of d) c) (cell_view n after))
          (sym same) evolves;
    };
    cell_in = after-in;
    formed = after-formed;
    own = after-own;
  }

  pub table-changed : Changed home d (change_cell d id (with_props ps))
  table-changed = subst (Changed home d) (sym set-is) (written-changed home d id c after r there written)
