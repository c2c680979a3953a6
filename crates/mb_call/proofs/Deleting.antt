-- A property that is deleted: what becomes of the object, and that the world stays ready.
use Rattle.std.proofs.Common.{◌≡◌, ◌∙◌, ◌∷◌, Bool, List, None, Ok, Option, Some, [], ap, false, map, option_map, pos}
use Rattle.std.proofs.Common.{refl, subst, sym, true, true≢false, ℕ}
use Rattle.std.specs.List.{IsDistinct}
use Rattle.std.specs.Map.{keys_of, lookup, remove_entry}
use Rattle.std.specs.Prelude.{All, if◌then◌else◌, is_none}
use Rattle.mb_base.specs.declared.value.Key.{Key}
use Rattle.mb_base.specs.declared.value.Key.TheVariants as k
use Rattle.mb_base.specs.declared.value.ObjId.{ObjId}
use Rattle.mb_base.specs.declared.value.Side.{Side}
use Rattle.mb_base.specs.declared.value.StrId.{StrId}
use Rattle.mb_base.specs.declared.value.Value.{Value}
use Rattle.mb_base.specs.declared.value.Value.TheVariants as v
use Rattle.mb_call.proofs.Altering.{part-altered}
use Rattle.mb_call.proofs.Fixed.{built-in-still, change-none}
use Rattle.mb_desc.specs.Descriptors.{is_configurable}
use Rattle.mb_desc.specs.View.{View}
use Rattle.mb_desc.specs.declared.descriptor.Full.{Full}
use Rattle.mb_desc.specs.declared.descriptor.Full.TheVariants.{Accessor, Datum}
use Rattle.mb_frames.proofs.HeldCells.{cell-held, reads-home}
use Rattle.mb_frames.proofs.Passed.{Part-by, Part-sure}
use Rattle.mb_frames.proofs.Readying.{changed-same}
use Rattle.mb_frames.proofs.Renewing.{counted-kind}
use Rattle.mb_frames.specs.Passing.{Part}
use Rattle.mb_frames.specs.Stepping.{Sure}
use Rattle.mb_frames.specs.declared.frame.Move.{Move}
use Rattle.mb_frames.specs.Held.{HeldFull, HeldKey, HeldObject}
use Rattle.mb_frames.specs.Ready.{Changed, IsReady, MayHold, is_built_in}
use Rattle.mb_frames.specs.Wholeness.{cell_view, key_sort}
use Rattle.mb_model.specs.Meaning.{finished}
use Rattle.mb_model.specs.Objects.Methods.{ordinary_delete}
use Rattle.mb_model.specs.Operations.Makings.{alter}
use Rattle.mb_model.specs.Writing.{yes_or_no}
use Rattle.mb_ordinary.proofs.Cells.{changed-object}
use Rattle.mb_ordinary.specs.Definitions.{as_deleted, is_loose, without_if}
use Rattle.mb_parts.proofs.Lengths.{LengthFirst, length-first}
use Rattle.mb_parts.proofs.TableChanged.{table-changed}
use Rattle.mb_parts.proofs.Viewing.{changes-evolve, find-pairs, names-distinct, pairs, view-pairs, with_props}
use Rattle.mb_props.specs.Table.{found, same_key, without}
use Rattle.mb_text.specs.Texts.{AreDistinct}
use Rattle.mb_view.specs.Changes.{Remove}
use Rattle.mb_view.specs.Views.{Evolves}
use Rattle.mb_world.proofs.Grow.{All-at}
use Rattle.mb_world.proofs.SameKeys.{find-found, key-equal, key-same, remove-without}
use Rattle.mb_world.proofs.Worlds.{All-without}
use Rattle.mb_world.specs.Data.{Data, cell_at, change_cell, is_counted, remove_in}
use Rattle.mb_world.specs.Formed.{FormedCell, HasLength, IsArray, IsBelow, is_of_membrane}
use Rattle.mb_world.specs.Graph.{Graph, Property, RuleKind, Thing}
use Rattle.mb_world.specs.Ids.{CellIn, KeyIn, PropertyIn}
use Rattle.mb_world.specs.Image.{Image, Names, full_in, key_in, names_of, object_at, object_in, object_of, owner_by}
use Rattle.mb_world.specs.Image.{property_in as image_property, thing_in}
use Rattle.mb_world.specs.Key as graph
use Rattle.mb_world.specs.Key.{PropertyKey}
use Rattle.mb_world.specs.Objects.{own_property, remove_property}
use Rattle.mb_world.specs.Ordinary.{Leaves}
use Rattle.mb_world.specs.Value.{Val}
use Rattle.mb_world.specs.View as View
use Rattle.mb_world.specs.View.{Admits, is_read_only, key_rule, shown_by, shown_property}
use Rattle.mb_world.specs.declared.cell.Cell.{Cell}
use Rattle.mb_world.specs.declared.cell.CellKind.{CellKind}
use Rattle.mb_world.specs.declared.cell.CellKind.TheVariants as kind

-- ---- a table without a key

-- a key that isn't there
pub without-none : (ps : List (Key × Full Value)) (key : Key) → found ps key ≡ None → without ps key ≡ ps
without-none [] key e = refl
without-none (p ∷ ps) key e = by (same_key key p.0) refl (without-none ps key)
  where
    by : (b : Bool) → same_key key p.0 ≡ b → (found ps key ≡ None → without ps key ≡ ps) → without (p ∷ ps) key ≡ p ∷ ps
    by true q rest = (let z : Some p.1 ≡ None = sym (rw q refl) ∙ e in cc)
    by false q rest = rw q (ap (λ zs. p ∷ zs) (rest (sym (rw q refl) ∙ e)))

graph-sym : (a b : PropertyKey) → graph.same_key a b ≡ graph.same_key b a
graph-sym a b = by (graph.same_key a b) refl (graph.same_key b a) refl
  where
    by : (x : Bool) → graph.same_key a b ≡ x → (y : Bool) → graph.same_key b a ≡ y
        → graph.same_key a b ≡ graph.same_key b a
    by true e true f = e ∙ sym f
    by false e false f = e ∙ sym f
    by true e false f =
        let i : a ≡ b = key-equal a b e in
        absurd (true≢false (sym (key-same b) ∙ ap (graph.same_key b) (sym i) ∙ f))
    by false e true f =
        let i : b ≡ a = key-equal b a f in
        absurd (true≢false (sym (key-same a) ∙ ap (graph.same_key a) (sym i) ∙ e))

pub remove-pairs : (key : PropertyKey) (ps : List Property)
    → pairs (remove_property key ps) ≡ remove_entry (graph.same_key key) (pairs ps)
remove-pairs key [] = refl
remove-pairs key (q ∷ qs) = by (graph.same_key q.key key) refl (remove-pairs key qs)
  where
    by : (b : Bool) → graph.same_key q.key key ≡ b
        → pairs (remove_property key qs) ≡ remove_entry (graph.same_key key) (pairs qs)
        → pairs (remove_property key (q ∷ qs)) ≡ remove_entry (graph.same_key key) (pairs (q ∷ qs))
    by true e h = (let g : graph.same_key key q.key ≡ true = graph-sym key q.key ∙ e in rw (e, g) refl)
    by false e h =
        (let g : graph.same_key key q.key ≡ false = graph-sym key q.key ∙ e in
        rw (e, g) (ap (λ zs. (q.key, q.full) ∷ zs) h))

-- ---- an array keeps its length

fixed-loose : (x : Value) (w : Bool) → is_configurable (Datum x w false false) ≡ true → ⊥
fixed-loose x w h = true≢false (sym h)

first-stays : (d : Data) (t : StrId) (n m : ℕ) (w : Bool) (rest : List (Key × Full Value)) (key : Key) (p : Full Value)
    → HasLength d ((k.Text t n, Datum (v.Whole (pos m)) w false false) ∷ rest)
    → found ((k.Text t n, Datum (v.Whole (pos m)) w false false) ∷ rest) key ≡ Some p → is_configurable p ≡ true
    → HasLength d (without ((k.Text t n, Datum (v.Whole (pos m)) w false false) ∷ rest) key)
first-stays d t n m w rest key p h e l = by (same_key key (k.Text t n)) refl
  where
    by : (b : Bool) → same_key key (k.Text t n) ≡ b
        → HasLength d (without ((k.Text t n, Datum (v.Whole (pos m)) w false false) ∷ rest) key)
    by true q =
        (let z : Some (Datum (v.Whole (pos m)) w false false) ≡ Some p = sym (rw q refl) ∙ e in
        let y : Datum (v.Whole (pos m)) w false false ≡ p = cc in
        absurd (fixed-loose (v.Whole (pos m)) w (ap is_configurable y ∙ l)))
    by false q = rw q (h.0, h.1, All-without (λ x. IsBelow m x.0) rest (same_key key) h.2)

length-stays : (d : Data) (ps : List (Key × Full Value)) (key : Key) (p : Full Value) → HasLength d ps
    → found ps key ≡ Some p
    → is_configurable p ≡ true → HasLength d (without ps key)
length-stays d ps key p h e l =
    let f : LengthFirst d ps = length-first d ps h in
    let q : List (Key × Full Value) = (
      k.Text f.text f.place,
      Datum
          (v.Whole (pos f.length)) f.writable false false,
    ) ∷ f.rest in
    subst (λ (zs : List (Key × Full Value)). HasLength d (without zs key)) (sym f.shape)
    (first-stays d f.text f.place f.length f.writable f.rest key p (f.units, f.limit, f.below)
    (ap (λ (zs : List (Key × Full Value)). found zs key) (sym f.shape) ∙ e) l)

array-stays : (d : Data) (y : CellKind) (c : Cell) (key : Key) (p : Full Value) → IsArray d y c
    → found c.props key ≡ Some p
    → is_configurable p ≡ true → IsArray d y (with_props (without c.props key) c)
array-stays d kind.Array c key p h e l = (h.0, length-stays d c.props key p h.1 e l)
array-stays d y c key p h e l = tt

-- ---- what is deleted

module _ (d : Data) (r : IsReady d) (home : Side) (id : ObjId) (h : MayHold d home (HeldObject id)) (c : Cell)
    (there : cell_at d id ≡ Some c) (membrane : is_of_membrane c.kind ≡ false) (u : AreDistinct d.texts)
    (distinct : IsDistinct same_key (keys_of c.props)) (key : Key) (i : KeyIn d key) (p : Full Value)
    (e : found c.props key ≡ Some p) (l : is_configurable p ≡ true) where
  abbrev name : PropertyKey
  name = key_in (names_of d) key

  abbrev after : List (Key × Full Value)
  after = without c.props key

  was-in : All (PropertyIn d) c.props
  was-in = (All-at (CellIn d) d.cells id.0 c there r.ids.cells_in).props_in

  configurable-in : (f : Full Value) → is_configurable f ≡ true → is_configurable (full_in (names_of d) f) ≡ true
  configurable-in (Datum x w a b) q = q
  configurable-in (Accessor g s a b) q = q

  own-there : own_property name (thing_in (names_of d) c) ≡ Some (full_in (names_of d) p)
  own-there = find-found d u c.props key was-in i ∙ ap (option_map (full_in (names_of d))) e

  -- no property of a built-in is deleted
  pub deleted-no-built-in : is_built_in c.kind ≡ false
  deleted-no-built-in = by c.kind refl
    where
      by : (y : CellKind) → c.kind ≡ y → is_built_in c.kind ≡ false
      by (kind.BuiltIn place) q =
          absurd (true≢false (sym (configurable-in p l)
          ∙ (built-in-still d r id c there place q name (full_in (names_of d) p) own-there).0))
      by y q = rw q refl

  evolves : Evolves graph.same_key key_sort (cell_view (names_of d) c) (cell_view (names_of d) (with_props after c))
  evolves =
      let n = names_of d in
      let there-now : lookup (graph.same_key name) (cell_view n c).properties ≡ Some (full_in n p)
      = ap (lookup (graph.same_key name)) (view-pairs n c.props) ∙ find-pairs name (map (image_property n) c.props)
      ∙ own-there in
      let same : (cell_view n (with_props after c)).properties ≡ remove_entry (graph.same_key name)
      (cell_view n c).properties
      = view-pairs n after ∙ ap pairs (remove-without d u c.props key was-in i)
      ∙ remove-pairs name (map (image_property n) c.props)
      ∙ ap (remove_entry (graph.same_key name)) (sym (view-pairs n c.props)) in
      changes-evolve n c (Remove name ∷ []) (with_props after c) (names-distinct d u c.props was-in distinct)
      ((full_in n p, there-now, configurable-in p l), tt)
      (ap (λ zs. let w : View PropertyKey Val = record (cell_view n c) { properties = zs } in w) same)

  pub deleted-changed : Changed home d (change_cell d id (remove_in key))
  deleted-changed =
      let own : d.joined ≡ false → c.home ≡ home = reads-home d home id c h there in
      let s : change_cell d id (with_props after) ≡ change_cell d id (remove_in key) = rw there refl in
      subst (Changed home d) s
      (table-changed d r home id c there own membrane deleted-no-built-in after
      (All-without (λ q. MayHold d home (HeldKey q.0) × MayHold d home (HeldFull q.1)) c.props (same_key key)
      (cell-held d r id c there home own).properties)
      evolves
      (array-stays d c.kind c key p (All-at (FormedCell d) d.cells id.0 c there r.formed.cells).array e l))

-- ---- a deletion, whatever is there

owner-plain : (y : CellKind) (home : Side) → is_built_in y ≡ false → owner_by y home ≡ Some home.0
owner-plain (kind.BuiltIn place) home h = absurd (true≢false h)
owner-plain y home h = refl

-- a cell that is no built-in is its object
pub plain-object-of : (n : Names) (c : Cell) → is_built_in c.kind ≡ false → object_of n c ≡ thing_in n c
plain-object-of n c h =
    ap (λ (w : Option ℕ). let t : Thing = record (thing_in n c) { owner = w } in t) (owner-plain c.kind c.home h)

leaves-none : (b : Bool) (x : Option Thing) → as_deleted b x None ≡ Leaves b
leaves-none true None = refl
leaves-none true (Some t) = refl
leaves-none false x = refl

-- where the policy leaves it to the object, a side sees the object's own property
pub free-shown : (g : Graph) (viewer : ℕ) (t : Thing) (name : PropertyKey)
    → Admits g viewer t (View.Remove name) ≡ View.Free
    → shown_property g viewer t name ≡ own_property name t
free-shown g viewer t name e = by (is_read_only g viewer t) (key_rule g viewer t name) refl e
  where
    by : (b : Bool) (q : Option RuleKind) → key_rule g viewer t name ≡ q
        → (if b then View.Decided (is_none (shown_property g viewer t name))
        else if is_none q then View.Free else View.Decided (is_none (shown_property g viewer t name))) ≡ View.Free
        → shown_property g viewer t name ≡ own_property name t
    by true q w h = cc
    by false None w h = ap (λ (z : Option RuleKind). shown_by z (own_property name t)) w
    by false (Some y) w h = cc

module _ (d : Data) (r : IsReady d) (home : Side) (id : ObjId) (h : MayHold d home (HeldObject id)) (c : Cell)
    (there : cell_at d id ≡ Some c) (membrane : is_of_membrane c.kind ≡ false) (u : AreDistinct d.texts)
    (distinct : IsDistinct same_key (keys_of c.props)) (key : Key) (i : KeyIn d key) where
  unchanged : found c.props key ≡ None → change_cell d id (remove_in key) ≡ d
  unchanged e =
      change-none d id c (remove_in key) there
      (ap (λ (ps : List (Key × Full Value)). let y : Cell = record c { props = ps } in y) (without-none c.props key e))

  pub delete-part : (m : Move) (f : ℕ) (q : Option (Full Value)) → found c.props key ≡ q → (b : Bool) → b ≡ is_loose q
      → ((x : Data) → Sure home x (yes_or_no b finished) m)
      → Part home (Ok m) d (without_if b d id key) f f
      (ordinary_delete (object_in (names_of d) id) (as_deleted b (object_at (without_if b d id key) id) q) finished)
  delete-part m f None e true l s =
      let o : Val = object_in (names_of d) id in
      subst (λ (x : Data). Part home (Ok m) d x f f
      (ordinary_delete o (as_deleted true (object_at x id) None) finished))
      (sym (unchanged e))
      (Part-by home (Ok m) d d f f (ordinary_delete o (as_deleted true (object_at d id) None) finished)
      (yes_or_no true finished)
      (λ log. ap (λ z. ordinary_delete o z finished (Image d log)) (leaves-none true (object_at d id)))
      (Part-sure home d f (yes_or_no true finished) m (s d)))
  delete-part m f None e false l s = absurd (true≢false (sym l))
  delete-part m f (Some p) e false l s = Part-sure home d f (yes_or_no false finished) m (s d)
  delete-part m f (Some p) e true l s =
      let n = names_of d in
      let o : Val = object_in n id in
      let x : Data = change_cell d id (remove_in key) in
      let t : Thing = object_of n (remove_in key c) in
      let b : is_built_in c.kind ≡ false
      = deleted-no-built-in d r home id h c there membrane u distinct key i p e (sym l) in
      Part-by home (Ok m) d x f f (ordinary_delete o (as_deleted true (object_at x id) (Some p)) finished)
      (alter o (λ z. t) (λ a. yes_or_no true finished))
      (λ log. ap (λ z. ordinary_delete o (as_deleted true z (Some p)) finished (Image d log))
      (changed-object d id c (remove_in key) there refl))
      (part-altered d id c (remove_in key) there refl (ap is_counted (counted-kind c.kind membrane b)) home m f (λ z. t)
      (λ a. yes_or_no true finished) (sym (plain-object-of n (remove_in key c) b)) r.ids (s x))

  pub delete-changed : (q : Option (Full Value)) → found c.props key ≡ q → (b : Bool) → b ≡ is_loose q
      → Changed home d (without_if b d id key)
  delete-changed None e true l = rw (unchanged e) (changed-same home d r)
  delete-changed None e false l = absurd (true≢false (sym l))
  delete-changed (Some p) e false l = changed-same home d r
  delete-changed (Some p) e true l = deleted-changed d r home id h c there membrane u distinct key i p e (sym l)
