-- How a view is brought to another that it may evolve to, by single changes.
use Rattle.std.specs.Prelude.{◌≡◌, Bool, true, false, not, List, [], ◌∷◌, ◌++◌, map, is_some, if◌then◌else◌}
use Rattle.std.specs.List.{filter, list_any}
use Rattle.std.specs.Map.{keys_of}
use Rattle.mb_desc.specs.Descriptors.{descriptor_of}
use Rattle.mb_desc.specs.declared.descriptor.Full.{Full}
use Rattle.mb_desc.specs.View.{View}
use Rattle.mb_view.specs.Views.{property_of, Sort, Index, Text, Symbol, texts, symbols}
use Rattle.mb_view.specs.Changes.{Change, Define, Remove, SetPrototype, PreventExtensions}

module _ {K : Type 0} (same_key : K → K → Bool) where
  -- one walk through the keys there, which keeps a key where it is the next one wanted
  abbrev pub kept : List K → List K → List K
  kept [] wanted = []
  kept (key ∷ keys) [] = []
  kept (key ∷ keys) (next ∷ wanted) = elim
      (same_key key next) [ true ↦ key ∷ kept keys wanted | false ↦ kept keys (next ∷ wanted) ]

  -- the key is the one that is wanted next
  abbrev pub is_first : K → List K → Bool
  is_first key [] = false
  is_first key (next ∷ keys) = same_key key next

module _ {K V : Type 0} (same_key : K → K → Bool) (sort_of : K → Sort) where
  abbrev pub stays_by : Sort → View K V → View K V → K → Bool
  stays_by Index old new key = is_some (property_of same_key new key)
  stays_by Text old new key = list_any (same_key key) (kept same_key (texts sort_of old) (texts sort_of new))
  stays_by Symbol old new key = list_any (same_key key) (kept same_key (symbols sort_of old) (symbols sort_of new))

  -- an array index stays where it is wanted at all, and a text or a symbol where the walk through its sort keeps it
  abbrev pub stays : View K V → View K V → K → Bool
  stays old new key = stays_by (sort_of key) old new key

-- every property of the new view, in its order
abbrev pub definitions : {K V : Type 0} → List (K × Full V) → List (Change K V)
definitions entries = map (λ entry. Define entry.0 (descriptor_of entry.1) entry.1) entries

-- the prototype of an extensible object
abbrev pub prototype_if : {K V : Type 0} → Bool → V → List (Change K V)
prototype_if extensible prototype = if extensible then SetPrototype prototype ∷ [] else []

abbrev pub prevention_unless : {K V : Type 0} → Bool → List (Change K V)
prevention_unless extensible = if extensible then [] else PreventExtensions ∷ []

-- what is in the way is removed, then every property is defined in order, then the prototype is set,
-- and extensions are prevented last
abbrev pub brought_by : {K V : Type 0} → (K → Bool) → View K V → View K V → List (Change K V)
brought_by stay old new =
    map Remove (filter (λ key. not (stay key)) (keys_of old.properties))
    ++ (definitions new.properties
    ++ (prototype_if old.extensible new.prototype ++ prevention_unless new.extensible))

abbrev pub followed_by : {K V : Type 0} → (same_key : K → K → Bool) (sort_of : K → Sort) → View K V → View K V
    → List (Change K V)
followed_by same_key sort_of old new = brought_by (stays same_key sort_of old new) old new

-- the two list the same own keys with the same properties, in one order but for the array indices, which go by number
pub record IsAlike {K V : Type 0} (same_key : K → K → Bool) (sort_of : K → Sort) (one two : View K V) : Type 0 where
  pub prototype : one.prototype ≡ two.prototype
  pub extensible : one.extensible ≡ two.extensible
  pub properties : (key : K) → property_of same_key one key ≡ property_of same_key two key
  pub texts : texts sort_of one ≡ texts sort_of two
  pub symbols : symbols sort_of one ≡ symbols sort_of two
