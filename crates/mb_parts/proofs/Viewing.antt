-- The view of a cell, and the object that it is.
use Rattle.std.proofs.Common.{◌≡◌, ◌∙◌, ◌∷◌, Bool, List, Some, [], ap, false, map, refl, subst, sym, true, true≢false}
use Rattle.std.proofs.lemmas.List.Elements.{All-head, All-tail}
use Rattle.std.specs.List.{AllByRecursion, IsDistinct}
use Rattle.std.specs.Map.{keys_of, lookup}
use Rattle.std.specs.Prelude.{All}
use Rattle.indexmap.specs.IndexMap.{insert_entry}
use Rattle.mb_base.specs.declared.value.Key.{Key}
use Rattle.mb_base.specs.declared.value.Value.{Value}
use Rattle.mb_desc.specs.Descriptors.{IsOfOneKind}
use Rattle.mb_desc.specs.Validate.{Validate}
use Rattle.mb_desc.specs.View.{View}
use Rattle.mb_desc.specs.declared.descriptor.Desc.{Desc}
use Rattle.mb_desc.specs.declared.descriptor.Full.{Full}
use Rattle.mb_frames.specs.Wholeness.{cell_view, key_sort}
use Rattle.mb_props.specs.Table.{same_key}
use Rattle.mb_text.specs.Texts.{AreDistinct}
use Rattle.mb_view.proofs.Sorted.{sorted-changes}
use Rattle.mb_view.specs.Changes.{AreAllowed, Change, Define, changed_by}
use Rattle.mb_view.specs.Views.{Evolves, HasDistinctKeys as HasDistinctNames}
use Rattle.mb_world.proofs.SameKeys.{key-equal, key-same, own-equal, own-same, same-key}
use Rattle.mb_world.proofs.Values.{value-equal}
use Rattle.mb_world.specs.Data.{Data}
use Rattle.mb_world.specs.Graph.{Property, Thing}
use Rattle.mb_world.specs.Ids.{KeyIn, PropertyIn}
use Rattle.mb_world.specs.Image.{Names, full_in, key_in, names_of, property_in, thing_in}
use Rattle.mb_world.specs.Key as graph
use Rattle.mb_world.specs.Key.{PropertyKey}
use Rattle.mb_world.specs.Objects.{find_property, put_property, with_property}
use Rattle.mb_world.specs.Ordinary.{validated}
use Rattle.mb_world.specs.Value.{Undefined, Val, same_value}
use Rattle.mb_world.specs.declared.cell.Cell.{Cell}

-- ---- the view of a cell, and the object that it is

abbrev pub pairs : List Property → List (PropertyKey × Full Val)
pairs ps = map (λ (q : Property). (q.key, q.full)) ps

pub view-pairs : (n : Names) (ps : List (Key × Full Value))
    → map (λ (p : Key × Full Value). (key_in n p.0, full_in n p.1)) ps ≡ pairs (map (property_in n) ps)
view-pairs n [] = refl
view-pairs n (p ∷ ps) = ap (λ zs. (key_in n p.0, full_in n p.1) ∷ zs) (view-pairs n ps)

graph-sym : (a b : PropertyKey) → graph.same_key a b ≡ graph.same_key b a
graph-sym a b = by (graph.same_key a b) refl (graph.same_key b a) refl
  where
    by : (x : Bool) → graph.same_key a b ≡ x → (y : Bool) → graph.same_key b a ≡ y → graph.same_key a b
        ≡ graph.same_key b a
    by true e true f = e ∙ sym f
    by false e false f = e ∙ sym f
    by true e false f =
        let i : a ≡ b = key-equal a b e in
        absurd (true≢false (sym (key-same b) ∙ ap (graph.same_key b) (sym i) ∙ f))
    by false e true f =
        let i : b ≡ a = key-equal b a f in
        absurd (true≢false (sym (key-same a) ∙ ap (graph.same_key a) (sym i) ∙ e))

pub put-pairs : (k : PropertyKey) (f : Full Val) (ps : List Property)
    → pairs (put_property k f ps) ≡ insert_entry graph.same_key (pairs ps) k f
put-pairs k f [] = refl
put-pairs k f (q ∷ qs) = by (graph.same_key q.key k) refl (put-pairs k f qs)
  where
    by : (b : Bool) → graph.same_key q.key k ≡ b → pairs (put_property k f qs) ≡ insert_entry graph.same_key
        (pairs qs) k f
        → pairs (put_property k f (q ∷ qs)) ≡ insert_entry graph.same_key (pairs (q ∷ qs)) k f
    by true e h =
        let i : q.key ≡ k = key-equal q.key k e in
        let g : graph.same_key k q.key ≡ true = graph-sym k q.key ∙ e in
        rw (e, g) (ap (λ z. (z, f) ∷ pairs qs) (sym i))
    by false e h =
        let g : graph.same_key k q.key ≡ false = graph-sym k q.key ∙ e in
        rw (e, g) (ap (λ zs. (q.key, q.full) ∷ zs) h)

pub find-pairs : (k : PropertyKey) (ps : List Property) → lookup (graph.same_key k) (pairs ps) ≡ find_property k ps
find-pairs k [] = refl
find-pairs k (q ∷ qs) = by (graph.same_key q.key k) refl (find-pairs k qs)
  where
    by : (b : Bool) → graph.same_key q.key k ≡ b → lookup (graph.same_key k) (pairs qs) ≡ find_property k qs
        → lookup (graph.same_key k) (pairs (q ∷ qs)) ≡ find_property k (q ∷ qs)
    by true e h = let g : graph.same_key k q.key ≡ true = graph-sym k q.key ∙ e in rw (e, g) refl
    by false e h = let g : graph.same_key k q.key ≡ false = graph-sym k q.key ∙ e in rw (e, g) h

-- ---- distinct keys

own-sym : (a b : Key) → same_key a b ≡ same_key b a
own-sym a b = by (same_key a b) refl (same_key b a) refl
  where
    by : (x : Bool) → same_key a b ≡ x → (y : Bool) → same_key b a ≡ y → same_key a b ≡ same_key b a
    by true e true f = e ∙ sym f
    by false e false f = e ∙ sym f
    by true e false f =
        let i : a ≡ b = own-equal a b e in
        absurd (true≢false (sym (own-same b) ∙ ap (same_key b) (sym i) ∙ f))
    by false e true f =
        let i : b ≡ a = own-equal b a f in
        absurd (true≢false (sym (own-same a) ∙ ap (same_key a) (sym i) ∙ e))

module _ (d : Data) (u : AreDistinct d.texts) where
  apart-names : (key : Key) (ps : List (Key × Full Value)) → KeyIn d key → All (PropertyIn d) ps
      → AllByRecursion (λ y. same_key key y ≡ false) (keys_of ps)
      → AllByRecursion (λ y. graph.same_key (key_in (names_of d) key) y ≡ false)
      (keys_of (map (λ (p : Key × Full Value). (key_in (names_of d) p.0, full_in (names_of d) p.1)) ps))
  apart-names key [] k i h = tt
  apart-names key (p ∷ ps) k i h = (
    same-key d u key p.0 k (All-head (PropertyIn d) p ps i).0 ∙ own-sym p.0 key ∙ h.0,
    apart-names key ps k (All-tail (PropertyIn d) p ps i) h.1,
  )

  pub names-distinct : (ps : List (Key × Full Value)) → All (PropertyIn d) ps → IsDistinct same_key (keys_of ps)
      → IsDistinct graph.same_key
      (keys_of (map (λ (p : Key × Full Value). (key_in (names_of d) p.0, full_in (names_of d) p.1)) ps))
  unfolding IsDistinct
  names-distinct [] i h = tt
  names-distinct (p ∷ ps) i h = (
    apart-names p.0 ps (All-head (PropertyIn d) p ps i).0 (All-tail (PropertyIn d) p ps i) h.0,
    names-distinct ps (All-tail (PropertyIn d) p ps i) h.1,
  )

-- ---- a property is defined

abbrev pub with_props : List (Key × Full Value) → Cell → Cell
with_props ps c = record c { props = ps }

module _ (n : Names) (c : Cell) where
  -- the views of changes that are allowed one after the other
  pub changes-evolve : (changes : List (Change PropertyKey Val)) (e : Cell) → HasDistinctNames graph.same_key
      (cell_view n c)
      → AreAllowed graph.same_key same_value Undefined changes (cell_view n c)
      → cell_view n e ≡ changed_by graph.same_key changes (cell_view n c)
      → Evolves graph.same_key key_sort (cell_view n c) (cell_view n e)
  changes-evolve changes e h a same =
      subst (Evolves graph.same_key key_sort (cell_view n c)) (sym same)
      (sorted-changes graph.same_key key_sort key-equal key-same same_value Undefined value-equal changes
      (cell_view n c) h a)

  pub defined-evolves : (k : PropertyKey) (desc : Desc Val) (p : Full Val) (ps : List (Key × Full Value))
      → HasDistinctNames graph.same_key (cell_view n c) → IsOfOneKind desc → validated (thing_in n c) k desc ≡ Some p
      → with_property k p (thing_in n c) ≡ thing_in n (with_props ps c)
      → Evolves graph.same_key key_sort (cell_view n c) (cell_view n (with_props ps c))
  defined-evolves k desc p ps h one allowed same =
      let qs = map (property_in n) c.props in
      let value : Validate same_value Undefined c.extensible (lookup (graph.same_key k) (cell_view n c).properties) desc
      ≡ Some p
      = ap (λ o. Validate same_value Undefined c.extensible o desc)
      (ap (lookup (graph.same_key k)) (view-pairs n c.props) ∙ find-pairs k qs) ∙ allowed in
      let after : (cell_view n (with_props ps c)).properties
      ≡ insert_entry graph.same_key (cell_view n c).properties k p
      = view-pairs n ps ∙ ap (λ (t : Thing). pairs t.properties) (sym same) ∙ put-pairs k p qs
      ∙ ap (λ zs. insert_entry graph.same_key zs k p) (sym (view-pairs n c.props)) in
      changes-evolve (Define k desc p ∷ []) (with_props ps c) h ((one, value), tt)
      (ap (λ zs. let w : View PropertyKey Val = record (cell_view n c) { properties = zs } in w) after)
