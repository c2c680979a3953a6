-- Objects as rows make them are formed.
use Rattle.std.proofs.Common.{◌≡◌, ℕ, ◌+◌, true, false, List, [], ◌∷◌, None, Some, refl, sym, ◌∙◌, subst}
use Rattle.std.specs.Prelude.{pos}
use Rattle.std.specs.List.{IsDistinct}
use Rattle.mb_desc.specs.declared.descriptor.Full.{Full}
use Rattle.mb_desc.specs.declared.descriptor.Full.TheVariants.{Datum}
use Rattle.mb_view.specs.Views.{HasDistinctKeys}
use Rattle.mb_view.specs.Changes.{Define}
use Rattle.mb_view.proofs.Changing.{changed-distinct}
use Rattle.mb_world.specs.Value.{Val, Whole}
use Rattle.mb_world.specs.Key.{PropertyKey, same_key}
use Rattle.mb_world.specs.Property.{open_property}
use Rattle.mb_desc.specs.Descriptors.{no_fields, descriptor_of}
use Rattle.mb_world.specs.Graph.{Graph, Thing, Kind, Plain, Array, Function, Standard, Fault, Proxy, Gone, Revoker, Collection, Property}
use Rattle.mb_world.specs.Objects.{own_property, with_property, new_thing}
use Rattle.mb_world.specs.Arrays.{index_key, length_key, with_length, put_elements}
use Rattle.mb_model.specs.Operations.Calls.{target_is_array}
use Rattle.mb_model.specs.Operations.Makings.{array_thing}
use Rattle.mb_model.proofs.Kept.Changes.{put_each, is_other, IsNew, NewArray, NewOther, IsMade, Apart, ProxyOf}
use Rattle.mb_growth.specs.Objects.{as_view, is_array, IsFormed}
use Rattle.mb_growth.proofs.Values.{key-sound, key-refl}
use Rattle.mb_growth.proofs.Bridge.{with-is}
use Rattle.mb_growth.proofs.Arrays.{other-length, number-other}

-- a property is put where no two keys are the same
with-distinct : (k : PropertyKey) (f : Full Val) (t : Thing) → HasDistinctKeys same_key (as_view t)
    → HasDistinctKeys same_key (as_view (with_property k f t))
with-distinct k f t h =
    subst (HasDistinctKeys same_key) (sym (with-is k no_fields f t))
    (changed-distinct same_key (λ key. true) key-sound key-refl (Define k no_fields f) (as_view t) h)

-- an object without properties
pub nothing-distinct : IsDistinct same_key []
unfolding IsDistinct
nothing-distinct = tt

puts-distinct : (t : Thing) (ps : List Property) → HasDistinctKeys same_key (as_view (record t { properties = put_each ps }))
puts-distinct t [] = nothing-distinct
puts-distinct t (p ∷ ps) = with-distinct p.key p.full (record t { properties = put_each ps }) (puts-distinct t ps)

pub same-array : (k : Kind) → is_array k ≡ target_is_array k
same-array Plain = refl
same-array Array = refl
same-array (Function c) = refl
same-array (Standard p) = refl
same-array (Fault e) = refl
same-array (Proxy t h s) = refl
same-array (Gone s) = refl
same-array (Revoker p) = refl
same-array (Collection c s) = refl

-- elements leave `length`
abbrev Lengthy : Full Val → Thing → Type 0
Lengthy length t = HasDistinctKeys same_key (as_view t) × (own_property length_key t ≡ Some length)

elements-lengthy : (length : Full Val) (t : Thing) (n : ℕ) (vs : List Val) (ps : List Property)
    → Lengthy length (record t { properties = ps }) → Lengthy length (record t { properties = put_elements n vs ps })
elements-lengthy length t n [] ps h = h
elements-lengthy length t n (v ∷ vs) ps h =
    let u : Thing = record t { properties = ps } in
    let e : Full Val = open_property v in
    elements-lengthy length t (n + 1) vs (with_property (index_key n) e u).properties
    (with-distinct (index_key n) e u h.0, other-length u (index_key n) (descriptor_of e) e (number-other n) ∙ h.1)

array-formed : (s : ℕ) (p : Val) (n : ℕ) (vs : List Val) → IsFormed (array_thing s p n vs)
array-formed s p n vs =
    let t : Thing = with_length n true (new_thing s None Array p) in
    let length : Full Val = Datum (Whole (pos n)) true false false in
    let h : Lengthy length (array_thing s p n vs) =
    elements-lengthy length t 0 vs t.properties (with-distinct length_key length (new_thing s None Array p) nothing-distinct, refl) in
    record { distinct = h.0; array = λ a. (Whole (pos n), true, h.1) }

other-no_array : (k : Kind) → is_other k ≡ true → is_array k ≡ false
other-no_array Plain h = refl
other-no_array Array h = sym h
other-no_array (Function c) h = refl
other-no_array (Standard p) h = refl
other-no_array (Fault e) h = refl
other-no_array (Proxy t handler s) h = refl
other-no_array (Gone s) h = refl
other-no_array (Revoker p) h = refl
other-no_array (Collection c s) h = refl

new-formed : (t : Thing) → IsNew t → IsFormed t
new-formed t (NewArray s p n vs e) = subst IsFormed e (array-formed s p n vs)
new-formed t (NewOther other puts) =
    record {
      distinct = subst (λ (ps : List Property). HasDistinctKeys same_key (as_view (record t { properties = ps }))) puts.1
          (puts-distinct t puts.0);
      array = λ a. absurd (let bad : true ≡ false = sym a ∙ other-no_array t.kind other in cc);
    }

pub made-formed : (g : Graph) (t : Thing) → IsMade g t → IsFormed t
made-formed g t (Apart new) = new-formed t new
made-formed g t (ProxyOf s target handler shape able e) =
    subst IsFormed e (record {
      distinct = nothing-distinct;
      array = λ a. absurd (let bad : false ≡ true = a in cc);
    })
