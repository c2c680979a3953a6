-- A Proxy loses its target and its handler: its object in the graph, and what stays ready.
use Rattle.std.proofs.Common.{◌++◌, ◌≡◌, ◌∙◌, List, None, Ok, Option, Some, [], ap, false, inr, option_map, refl}
use Rattle.std.proofs.Common.{subst, sym, true, ℕ}
use Rattle.std.proofs.lemmas.List.Elements.{All-append}
use Rattle.std.proofs.lemmas.Option.{slice_get-map}
use Rattle.std.specs.List.{flat_map}
use Rattle.std.specs.Prelude.{All}
use Rattle.mb_base.specs.declared.value.ObjId.{ObjId}
use Rattle.mb_base.specs.declared.value.Side.{Side}
use Rattle.mb_call.proofs.Altering.{part-altered}
use Rattle.mb_call.proofs.Things.{cell-thing}
use Rattle.mb_frames.proofs.HeldCells.{reads-home}
use Rattle.mb_frames.proofs.Parts.{left-part, right-part}
use Rattle.mb_frames.proofs.Passed.{Part-by}
use Rattle.mb_frames.proofs.Renewing.{written-changed}
use Rattle.mb_frames.specs.Held.{HeldObject}
use Rattle.mb_frames.specs.Passing.{Part}
use Rattle.mb_frames.specs.Ready.{Changed, IsReady, IsWritten, MayHold, is_built_in}
use Rattle.mb_frames.specs.Stepping.{Sure}
use Rattle.mb_frames.specs.Wholeness.{KeepsKind, cell_view, key_sort}
use Rattle.mb_frames.specs.declared.frame.Move.{Move}
use Rattle.mb_model.specs.BuiltIns.Arguments.{undefined}
use Rattle.mb_model.specs.BuiltIns.ProxyMaking.{gone_kind, revoke_proxy}
use Rattle.mb_model.specs.Meaning.{finished}
use Rattle.mb_model.specs.Nodes.Functions.{enter_kind, enter_row, enter_thing}
use Rattle.mb_model.specs.Operations.Makings.{alter}
use Rattle.mb_model.specs.Task.{Answer}
use Rattle.mb_model.specs.Writing.{Row}
use Rattle.mb_ordinary.proofs.Cells.{same-names}
use Rattle.mb_view.proofs.Sorted.{sorted-refl}
use Rattle.mb_view.specs.Views.{Evolves}
use Rattle.mb_world.proofs.Grow.{All-at}
use Rattle.mb_world.specs.Contained.{IsOwn, in_cell, in_full, in_kind, in_option, in_pair, in_value}
use Rattle.mb_world.specs.Data.{Data, Stand, cell_at, change_cell, is_counted, is_object_cell, kind_stand}
use Rattle.mb_world.specs.Data.{set_cell, stand, with_kind}
use Rattle.mb_world.specs.Formed.{FormedCell, HasItsKind, is_of_membrane}
use Rattle.mb_world.specs.Graph as graph
use Rattle.mb_world.specs.Graph.{Graph, Item, Kind, Thing}
use Rattle.mb_world.specs.Ids.{CellIn}
use Rattle.mb_world.specs.Image.{Image, Names, kind_in, names_of, number_at, object_in, stood, thing_in}
use Rattle.mb_world.specs.Key.{same_key}
use Rattle.mb_world.specs.Value.{Object, Val}
use Rattle.mb_world.specs.declared.cell.Cell.{Cell}
use Rattle.mb_world.specs.declared.cell.CellKind.{CellKind}
use Rattle.mb_world.specs.declared.cell.CellKind.TheVariants as kind
use Rattle.mb_world.specs.declared.cell.Shape.{Shape}

-- what becomes of its object
abbrev revoked : Thing → Thing
revoked t = record t { kind = gone_kind t.kind }

-- ---- its kind

keeps-gone : (d : Data) (home : Side) (target handler : Option ObjId) (s : Shape)
    → HasItsKind d home (kind.Proxy target handler s)
    → KeepsKind (kind.Proxy target handler s) (kind.Proxy None None s)
keeps-gone d home (Some a) (Some b) s h = inr refl
keeps-gone d home (Some a) None s h = absurd h
keeps-gone d home None (Some b) s h = absurd h
keeps-gone d home None None s h = refl

gone-same : (n : Names) (c : Cell) (target handler : Option ObjId) (s : Shape)
    → graph.Gone s ≡ gone_kind (kind_in n c.slots (kind.Proxy target handler s))
gone-same n c (Some a) (Some b) s = refl
gone-same n c (Some a) None s = refl
gone-same n c None b s = refl

module _ (d : Data) (r : IsReady d) (id : ObjId) (c : Cell) (e : cell_at d id ≡ Some c) (target handler : Option ObjId)
    (s : Shape) (k : c.kind ≡ kind.Proxy target handler s) where
  abbrev n : Names
  n = names_of d

  abbrev gone : CellKind
  gone = kind.Proxy None None s

  abbrev after : Cell
  after = with_kind gone c

  its-form : FormedCell d c
  its-form = All-at (FormedCell d) d.cells id.0 c e r.formed.cells

  its-ids : CellIn d c
  its-ids = All-at (CellIn d) d.cells id.0 c e r.ids.cells_in

  same-stand : stand (with_kind (kind.Proxy None None s) c) ≡ stand c
  same-stand = sym (ap kind_stand k)

  counted : is_object_cell c ≡ true
  counted = ap (λ (y : CellKind). is_counted (kind_stand y)) k

  -- ---- the row

  pub its-number : object_in (names_of d) id ≡ Object (number_at (names_of d) id.0)
  its-number = ap (stood n id.0)
      (slice_get-map stand d.cells id.0 ∙ ap (option_map stand) e
      ∙ ap (λ (y : CellKind). let z : Option Stand = Some (kind_stand y) in z) k)

  same-thing : thing_in (names_of d) (with_kind (kind.Proxy None None s) c) ≡ revoked (thing_in (names_of d) c)
  same-thing =
      ap (λ (y : Kind). let t : Thing = record (thing_in n c) { kind = y } in t)
      (gone-same n c target handler s ∙ ap (λ (y : CellKind). gone_kind (kind_in n c.slots y)) (sym k))

  pub part-revoked : (home : Side) (m : Move) (f : ℕ)
      → Sure home (change_cell d id (with_kind (kind.Proxy None None s))) (undefined finished) m
      → Part home (Ok m) d (change_cell d id (with_kind (kind.Proxy None None s))) f f
      (revoke_proxy (number_at (names_of d) id.0) finished)
  part-revoked home m f h =
      let d' : Data = change_cell d id (with_kind gone) in
      let p : Answer → Graph → Row = λ a. undefined finished in
      Part-by home (Ok m) d d' f f (revoke_proxy (number_at n id.0) finished) (alter (object_in n id) revoked p)
      (λ log. ap (λ (x : Val). alter x revoked p (Image d log)) (sym its-number))
      (part-altered d id c (with_kind gone) e same-stand counted home m f revoked p same-thing r.ids h)

  -- ---- what stays ready

  module _ (home : Side) (h : MayHold d home (HeldObject id)) where
    was-own : d.joined ≡ false → All (IsOwn d home) (in_cell c)
    was-own u =
        subst (λ (z : Side). All (IsOwn d z) (in_cell c)) (reads-home d home id c h e u)
        (All-at (λ (x : Cell). All (IsOwn d x.home) (in_cell x)) d.cells id.0 c e (r.contained u).cells_own)

    after-own : d.joined ≡ false → All (IsOwn d home) (in_cell after)
    after-own u =
        let P : ObjId → Type 0 = IsOwn d home in
        let a : List ObjId = in_kind c.kind in
        let b : List ObjId = in_value c.proto in
        let os : List ObjId = flat_map (λ p. in_full p.1) c.props in
        let ss : List ObjId = flat_map (in_option in_pair) c.slots in
        let w : All P (((a ++ b) ++ os) ++ ss) = was-own u in
        let x : All P ((a ++ b) ++ os) = left-part P ((a ++ b) ++ os) ss w in
        All-append P (b ++ os) ss
        (All-append P b os (right-part P a b (left-part P (a ++ b) os x)) (right-part P (a ++ b) os x))
        (right-part P ((a ++ b) ++ os) ss w)

    after-in : CellIn d after
    after-in = record {
      home_in = its-ids.home_in;
      kind_in = (tt, tt);
      proto_in = its-ids.proto_in;
      props_in = its-ids.props_in;
      label_in = its-ids.label_in;
      slots_in = its-ids.slots_in;
    }

    after-formed : FormedCell d after
    after-formed = record {
      home = its-form.home;
      wholes = rw k at its-form.wholes;
      prototype = its-form.prototype;
      callables = its-form.callables;
      array = tt;
      slots = rw k at its-form.slots;
      kind = tt;
    }

    set-is : change_cell d id (with_kind (kind.Proxy None None s)) ≡ set_cell d id after
    set-is = rw e refl

    same : names_of (set_cell d id after) ≡ names_of d
    same = subst (λ (y : Data). names_of y ≡ names_of d) set-is (same-names d id c (with_kind gone) e same-stand)

    written : IsWritten d home id c after
    written = record {
      home_is = reads-home d home id c h e;
      membrane = ap is_of_membrane k;
      no_built_in = ap is_built_in k;
      keeps = record {
        home = refl;
        label = refl;
        kind = subst (λ (y : CellKind). KeepsKind y gone) (sym k)
            (keeps-gone d c.home target handler s (rw k at its-form.kind));
        evolves = subst (λ (z : Names). Evolves same_key key_sort (cell_view n c) (cell_view z after)) (sym same)
            (sorted-refl same_key key_sort (cell_view n c));
      };
      cell_in = after-in;
      formed = after-formed;
      own = after-own;
    }

    pub changed-revoked : Changed home d (change_cell d id (with_kind (kind.Proxy None None s)))
    changed-revoked = subst (Changed home d) (sym set-is) (written-changed home d id c after r e written)

-- ---- the function that revokes it

-- its row is that of its Proxy
pub entered-row : (d : Data) (r : IsReady d) (id : ObjId) (c : Cell) → cell_at d id ≡ Some c → (proxy : ObjId)
    → c.kind ≡ kind.Revoker proxy → (this : Val) (vs : List Val) (log : List Item)
    → enter_row (object_in (names_of d) id) this vs finished (Image d log)
    ≡ revoke_proxy (number_at (names_of d) proxy.0) finished (Image d log)
entered-row d r id c e proxy k this vs log =
    let n : Names = names_of d in
    ap (λ (o : Option Thing). enter_thing this vs o finished (Image d log))
    (cell-thing d r id c e (ap is_of_membrane k) log)
    ∙ ap (λ (y : CellKind). enter_kind this vs (kind_in n c.slots y) finished (Image d log)) k
