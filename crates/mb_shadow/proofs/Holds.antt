-- What a cell has at a key, for what it stands for, before a change and after.
use Rattle.std.proofs.Common.{◌≡◌, List, [], ◌∷◌, map, Some, None, Bool, true, false, refl, ap, sym, ◌∙◌, if◌then◌else◌, option_map}
use Rattle.std.specs.Prelude.{All}
use Rattle.std.specs.List.{IsDistinct, AllByRecursion}
use Rattle.std.specs.Map.{keys_of, lookup, remove_entry}
use Rattle.std.proofs.lemmas.List.Elements.{All-head, All-tail}
use Rattle.indexmap.specs.IndexMap.{insert_entry as insert}
use Rattle.mb_base.specs.declared.value.ObjId.{ObjId}
use Rattle.mb_base.specs.declared.value.Key.{Key}
use Rattle.mb_base.specs.declared.value.Value.{Value}
use Rattle.mb_desc.specs.declared.descriptor.Full.{Full}
use Rattle.mb_desc.specs.View.{View}
use Rattle.mb_props.specs.Table.{same_key as own_key, found, insert_entry, without, HasDistinctKeys as OwnDistinct}
use Rattle.mb_text.specs.Texts.{AreDistinct}
use Rattle.mb_view.specs.Views.{property_of, HasDistinctKeys}
use Rattle.mb_view.proofs.Tables.{same_key-sym, lookup-insert, lookup-remove}
use Rattle.mb_world.specs.declared.cell.Cell.{Cell}
use Rattle.mb_world.specs.Value.{Val}
use Rattle.mb_world.specs.Key.{PropertyKey, same_key}
use Rattle.mb_world.specs.Data.{Data, cell_at, put_in, remove_in, set_cell}
use Rattle.mb_world.specs.Grows.{Grows}
use Rattle.mb_world.specs.Ids.{KeyIn, PropertyIn, CellIn}
use Rattle.mb_world.specs.Image.{Names, names_of, key_in, full_in}
use Rattle.mb_world.proofs.Grow.{All-at}
use Rattle.mb_world.proofs.Images.{map-same, value-grows, key-grows, full-grows}
use Rattle.mb_world.proofs.SameKeys.{key-same, key-equal, own-equal}
use Rattle.mb_world.proofs.SameKeys as keys
use Rattle.mb_shadow.specs.Seeing.{CanSee, cell_view}
use Rattle.mb_shadow.specs.machine.Sights.{held_in, held_at, flagged, flags_at}
use Rattle.mb_shadow.proofs.Setting.{set-there, same-stands}

abbrev pub pair : Names → Key × Full Value → PropertyKey × Full Val
pair n p = (key_in n p.0, full_in n p.1)

-- ---- in a world that grew

module _ (d d' : Data) (g : Grows d d') where
  pair-grows : (p : Key × Full Value) → PropertyIn d p → pair (names_of d') p ≡ pair (names_of d) p
  pair-grows p h = rw (key-grows d d' g p.0 h.0, full-grows d d' g p.1 h.1) refl

  pub view-grows : (c : Cell) → CellIn d c → cell_view (names_of d') c ≡ cell_view (names_of d) c
  view-grows c h = rw (
    value-grows d d' g c.proto h.proto_in,
    map-same (pair (names_of d')) (pair (names_of d)) (PropertyIn d) pair-grows c.props h.props_in,
  ) refl

  pub flags-grow : (c : Cell) → CellIn d c → flagged (names_of d') c ≡ flagged (names_of d) c
  flags-grow c h = rw (value-grows d d' g c.proto h.proto_in) refl

-- a cell that is as it was has what it had
module _ (d d' : Data) (can : CanSee d) (g : Grows d d') (id : ObjId) (c : Cell) (there : cell_at d id ≡ Some c) (stays : cell_at d' id ≡ Some c) where
  within : CellIn d c
  within = All-at (CellIn d) d.cells id.0 c there can.ids.cells_in

  pub held-stays : (k : PropertyKey) → held_at d' id k ≡ held_at d id k
  held-stays k =
      ap (held_in (names_of d') k) stays
      ∙ ap (λ (view : View PropertyKey Val). property_of same_key view k) (view-grows d d' g c within)
      ∙ sym (ap (held_in (names_of d) k) there)

  pub flags-stay : flags_at d' id ≡ flags_at d id
  flags-stay =
      ap (option_map (flagged (names_of d'))) stays
      ∙ ap Some (flags-grow d d' g c within)
      ∙ sym (ap (option_map (flagged (names_of d))) there)

-- ---- a table of the world as one of the graph

module _ (d : Data) (distinct : AreDistinct d.texts) where
  abbrev n : Names
  n = names_of d

  same-way : (j k : Key) → KeyIn d j → KeyIn d k → same_key (key_in n j) (key_in n k) ≡ own_key j k
  same-way j k h i = keys.same-key d distinct j k h i ∙ same_key-sym own_key own-equal k j

  insert-view : (ps : List (Key × Full Value)) (key : Key) (full : Full Value) → All (PropertyIn d) ps → KeyIn d key
      → map (pair n) (insert_entry ps key full) ≡ insert same_key (map (pair n) ps) (key_in n key) (full_in n full)
  insert-view [] key full h k = refl
  insert-view (p ∷ ps) key full h k = by (own_key key p.0) refl (insert-view ps key full (All-tail (PropertyIn d) p ps h) k)
    where
      same : same_key (key_in n key) (key_in n p.0) ≡ own_key key p.0
      same = same-way key p.0 k (All-head (PropertyIn d) p ps h).0

      by : (b : Bool) → own_key key p.0 ≡ b → map (pair n) (insert_entry ps key full) ≡ insert same_key (map (pair n) ps) (key_in n key) (full_in n full)
          → map (pair n) (insert_entry (p ∷ ps) key full) ≡ insert same_key (map (pair n) (p ∷ ps)) (key_in n key) (full_in n full)
      by true e rest = rw (same, e) refl
      by false e rest = rw (same, e) (ap (λ r. pair n p ∷ r) rest)

  remove-view : (ps : List (Key × Full Value)) (key : Key) → All (PropertyIn d) ps → KeyIn d key
      → map (pair n) (without ps key) ≡ remove_entry (same_key (key_in n key)) (map (pair n) ps)
  remove-view [] key h k = refl
  remove-view (p ∷ ps) key h k = by (own_key key p.0) refl (remove-view ps key (All-tail (PropertyIn d) p ps h) k)
    where
      same : same_key (key_in n key) (key_in n p.0) ≡ own_key key p.0
      same = same-way key p.0 k (All-head (PropertyIn d) p ps h).0

      by : (b : Bool) → own_key key p.0 ≡ b → map (pair n) (without ps key) ≡ remove_entry (same_key (key_in n key)) (map (pair n) ps)
          → map (pair n) (without (p ∷ ps) key) ≡ remove_entry (same_key (key_in n key)) (map (pair n) (p ∷ ps))
      by true e rest = rw (same, e) refl
      by false e rest = rw (same, e) (ap (λ r. pair n p ∷ r) rest)

  apart-view : (p : Key × Full Value) (ps : List (Key × Full Value)) → KeyIn d p.0 → All (PropertyIn d) ps
      → AllByRecursion (λ k. own_key p.0 k ≡ false) (keys_of ps) → AllByRecursion (λ k. same_key (key_in n p.0) k ≡ false) (keys_of (map (pair n) ps))
  apart-view p [] i h a = tt
  apart-view p (q ∷ qs) i h a =
      (same-way p.0 q.0 i (All-head (PropertyIn d) q qs h).0 ∙ a.0, apart-view p qs i (All-tail (PropertyIn d) q qs h) a.1)

  distinct-pairs : (ps : List (Key × Full Value)) → All (PropertyIn d) ps → IsDistinct own_key (keys_of ps) → IsDistinct same_key (keys_of (map (pair n) ps))
  unfolding IsDistinct
  distinct-pairs [] h u = tt
  distinct-pairs (p ∷ ps) h u = (
    apart-view p ps (All-head (PropertyIn d) p ps h).0 (All-tail (PropertyIn d) p ps h) u.0,
    distinct-pairs ps (All-tail (PropertyIn d) p ps h) u.1,
  )

  lookup-view : (ps : List (Key × Full Value)) (key : Key) → All (PropertyIn d) ps → KeyIn d key
      → lookup (same_key (key_in n key)) (map (pair n) ps) ≡ option_map (full_in n) (found ps key)
  lookup-view [] key h k = refl
  lookup-view (p ∷ ps) key h k = by (own_key key p.0) refl (lookup-view ps key (All-tail (PropertyIn d) p ps h) k)
    where
      same : same_key (key_in n key) (key_in n p.0) ≡ own_key key p.0
      same = same-way key p.0 k (All-head (PropertyIn d) p ps h).0

      by : (b : Bool) → own_key key p.0 ≡ b → lookup (same_key (key_in n key)) (map (pair n) ps) ≡ option_map (full_in n) (found ps key)
          → lookup (same_key (key_in n key)) (map (pair n) (p ∷ ps)) ≡ option_map (full_in n) (found (p ∷ ps) key)
      by true e rest = rw (same, e) refl
      by false e rest = rw (same, e) rest

  module _ (c : Cell) (within : CellIn d c) (key : Key) (key-in-d : KeyIn d key) where
    pub view-distinct : OwnDistinct c.props → HasDistinctKeys same_key (cell_view n c)
    view-distinct u = distinct-pairs c.props within.props_in u

    -- what it has at the key
    pub view-found : property_of same_key (cell_view n c) (key_in n key) ≡ option_map (full_in n) (found c.props key)
    view-found = lookup-view c.props key within.props_in key-in-d

    pub view-put : (full : Full Value) (k : PropertyKey) → property_of same_key (cell_view n (put_in key full c)) k
        ≡ (if same_key k (key_in n key) then Some (full_in n full) else property_of same_key (cell_view n c) k)
    view-put full k =
        ap (lookup (same_key k)) (insert-view c.props key full within.props_in key-in-d)
        ∙ lookup-insert same_key key-equal key-same (map (pair n) c.props) (key_in n key) (full_in n full) k

    pub view-removed : OwnDistinct c.props → (k : PropertyKey) → property_of same_key (cell_view n (remove_in key c)) k
        ≡ (if same_key k (key_in n key) then None else property_of same_key (cell_view n c) k)
    view-removed u k =
        ap (lookup (same_key k)) (remove-view c.props key within.props_in key-in-d)
        ∙ lookup-remove same_key key-equal key-same (map (pair n) c.props) (key_in n key) k (view-distinct u)

    -- one that isn't there is as good as removed
    pub view-absent : found c.props key ≡ None → (k : PropertyKey) → property_of same_key (cell_view n c) k
        ≡ (if same_key k (key_in n key) then None else property_of same_key (cell_view n c) k)
    view-absent e k = by (same_key k (key_in n key)) refl
      where
        by : (b : Bool) → same_key k (key_in n key) ≡ b → property_of same_key (cell_view n c) k ≡ (if b then None else property_of same_key (cell_view n c) k)
        by true t = ap (property_of same_key (cell_view n c)) (key-equal k (key_in n key) t) ∙ view-found ∙ ap (option_map (full_in n)) e
        by false t = refl

-- ---- another cell in that place

module _ (d : Data) (id : ObjId) (c x : Cell) (there : cell_at d id ≡ Some c) (home : x.home ≡ c.home) (kind : x.kind ≡ c.kind) where
  pub names-set : names_of (set_cell d id x) ≡ names_of d
  names-set = rw (same-stands d id c x there home kind) refl

  pub held-set : (k : PropertyKey) → held_at (set_cell d id x) id k ≡ property_of same_key (cell_view (names_of d) x) k
  held-set k = ap (held_in (names_of (set_cell d id x)) k) (set-there d id c x there home kind) ∙ ap (λ (n : Names). property_of same_key (cell_view n x) k) names-set

  pub flags-set : flags_at (set_cell d id x) id ≡ Some (flagged (names_of d) x)
  flags-set = ap (option_map (flagged (names_of (set_cell d id x)))) (set-there d id c x there home kind) ∙ ap (λ (n : Names). Some (flagged n x)) names-set
