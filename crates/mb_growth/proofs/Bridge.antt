-- Reading and changing a property of an object is reading and changing its view.
use Rattle.std.proofs.Common.{◌≡◌, Bool, true, false, List, [], ◌∷◌, map, Option, Some, refl, sym, ap, ◌∙◌, if◌then◌else◌}
use Rattle.std.specs.Map.{lookup, remove_entry}
use Rattle.indexmap.specs.IndexMap.{insert_entry}
use Rattle.mb_desc.specs.declared.descriptor.Desc.{Desc}
use Rattle.mb_desc.specs.declared.descriptor.Full.{Full}
use Rattle.mb_view.specs.Views.{property_of}
use Rattle.mb_view.specs.Changes.{Define, Remove, changed}
use Rattle.mb_view.proofs.Tables.{same_key-sym}
use Rattle.mb_world.specs.Value.{Val}
use Rattle.mb_world.specs.Key.{PropertyKey, same_key}
use Rattle.mb_world.specs.Graph.{Thing, Property}
use Rattle.mb_world.specs.Objects.{find_property, put_property, remove_property, own_property, with_property, without_property}
use Rattle.mb_growth.specs.Objects.{pair, as_view}
use Rattle.mb_growth.proofs.Values.{key-sound}

pub find-is : (k : PropertyKey) (ps : List Property) → find_property k ps ≡ lookup (same_key k) (map pair ps)
find-is k [] = refl
find-is k (p ∷ ps) =
    ap (λ (b : Bool). if b then Some p.full else find_property k ps) (same_key-sym same_key key-sound p.key k)
    ∙ ap (λ (r : Option (Full Val)). if same_key k p.key then Some p.full else r) (find-is k ps)

pub own-is : (k : PropertyKey) (t : Thing) → own_property k t ≡ property_of same_key (as_view t) k
own-is k t = find-is k t.properties

put-is : (k : PropertyKey) (f : Full Val) (ps : List Property) → map pair (put_property k f ps) ≡ insert_entry same_key (map pair ps) k f
put-is k f [] = refl
put-is k f (p ∷ ps) = by (same_key p.key k) refl (put-is k f ps)
  where
    by : (b : Bool) → same_key p.key k ≡ b → map pair (put_property k f ps) ≡ insert_entry same_key (map pair ps) k f
        → map pair (put_property k f (p ∷ ps)) ≡ insert_entry same_key (map pair (p ∷ ps)) k f
    by true t rest =
        let u : same_key k p.key ≡ true = same_key-sym same_key key-sound k p.key ∙ t in
        rw (t, u) (ap (λ (z : PropertyKey). (z, f) ∷ map pair ps) (sym (key-sound p.key k t)))
    by false t rest =
        let u : same_key k p.key ≡ false = same_key-sym same_key key-sound k p.key ∙ t in
        rw (t, u) (ap (λ r. pair p ∷ r) rest)

pub with-is : (k : PropertyKey) (d : Desc Val) (f : Full Val) (t : Thing) → as_view (with_property k f t) ≡ changed same_key (Define k d f) (as_view t)
with-is k d f t = ap (λ (es : List (PropertyKey × Full Val)). record (as_view t) { properties = es }) (put-is k f t.properties)

remove-is : (k : PropertyKey) (ps : List Property) → map pair (remove_property k ps) ≡ remove_entry (same_key k) (map pair ps)
remove-is k [] = refl
remove-is k (p ∷ ps) = by (same_key p.key k) refl (remove-is k ps)
  where
    by : (b : Bool) → same_key p.key k ≡ b → map pair (remove_property k ps) ≡ remove_entry (same_key k) (map pair ps)
        → map pair (remove_property k (p ∷ ps)) ≡ remove_entry (same_key k) (map pair (p ∷ ps))
    by true t rest = let u : same_key k p.key ≡ true = same_key-sym same_key key-sound k p.key ∙ t in rw (t, u) refl
    by false t rest =
        let u : same_key k p.key ≡ false = same_key-sym same_key key-sound k p.key ∙ t in
        rw (t, u) (ap (λ r. pair p ∷ r) rest)

pub without-is : (k : PropertyKey) (t : Thing) → as_view (without_property k t) ≡ changed same_key (Remove k) (as_view t)
without-is k t = ap (λ (es : List (PropertyKey × Full Val)). record (as_view t) { properties = es }) (remove-is k t.properties)
