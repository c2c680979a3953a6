-- What a side sees of an object, and what of it can't change any more
-- (ECMA-262, 6.1.7.3, invariants of the essential internal methods).
use Rattle.std.specs.Prelude.{◌≡◌, Bool, true, false, List, Option, None, Some}
use Rattle.std.specs.List.{IsDistinct, filter}
use Rattle.std.specs.Map.{keys_of, lookup}
use Rattle.mb_desc.specs.declared.descriptor.Full.{Full}
use Rattle.mb_desc.specs.View.{View}
use Rattle.mb_desc.specs.Descriptors.{is_configurable}
use Rattle.mb_desc.specs.Laws.{KeepsFixed}
use Rattle.mb_view.specs.Sublists.{IsSublist, before}

module _ {K V : Type 0} (same_key : K → K → Bool) where
  -- the property of the key
  abbrev pub property_of : View K V → K → Option (Full V)
  property_of view key = lookup (same_key key) view.properties

  abbrev pub HasDistinctKeys : View K V → Type 0
  HasDistinctKeys view = IsDistinct same_key (keys_of view.properties)

  -- the view has a property of that key that isn't configurable
  abbrev pub IsFixed : View K V → K → Type 0
  IsFixed view key = (property : Full V) × (property_of view key ≡ Some property)
      × (is_configurable property ≡ false)

  -- the fixed facts of one view hold of another
  pub record KeepsFacts (old new : View K V) : Type 0 where
    -- what isn't configurable stays, and stays so; its kind and enumerable flag don't change, nor do an accessor's get
    -- and set, nor the value of a data property that can't be written, which never can be again
    pub properties : (key : K) (property : Full V) → property_of old key ≡ Some property
        → is_configurable property ≡ false
        → (later : Full V) × (property_of new key ≡ Some later) × KeepsFixed property later
    -- of a view that isn't extensible
    pub closed : old.extensible ≡ false → new.extensible ≡ false
    pub prototype : old.extensible ≡ false → new.prototype ≡ old.prototype
    pub absent : old.extensible ≡ false → (key : K) → property_of old key ≡ None → property_of new key ≡ None

-- the sorts of keys, which ownKeys lists one after the other (ECMA-262, 10.1.11.1)
pub data Sort : Type 0 where
  Index : Sort
  Text : Sort
  Symbol : Sort

abbrev pub is_index : Sort → Bool
is_index Index = true
is_index Text = false
is_index Symbol = false

abbrev pub is_text : Sort → Bool
is_text Index = false
is_text Text = true
is_text Symbol = false

abbrev pub is_symbol : Sort → Bool
is_symbol Index = false
is_symbol Text = false
is_symbol Symbol = true

-- the keys that pass a test, in order of creation
abbrev pub keys_where : {K V : Type 0} → (K → Bool) → View K V → List K
keys_where passes view = filter passes (keys_of view.properties)

module _ {K V : Type 0} (sort_of : K → Sort) where
  -- the texts that are no array indices, and the symbols, in order of creation
  abbrev pub texts : View K V → List K
  texts view = keys_where (λ key. is_text (sort_of key)) view

  abbrev pub symbols : View K V → List K
  symbols view = keys_where (λ key. is_symbol (sort_of key)) view

module _ {K V : Type 0} (same_key : K → K → Bool) where
  -- among the keys that pass a test the order is kept
  pub record KeepsOrderBy (passes : K → Bool) (old new : View K V) : Type 0 where
    -- of a view that isn't extensible they are a sublist
    pub closed : old.extensible ≡ false → IsSublist (keys_where passes new) (keys_where passes old)
    -- and so are those before a key whose property isn't configurable
    pub fixed : (key : K) → passes key ≡ true → IsFixed same_key old key
        → IsSublist (before (same_key key) (keys_where passes new)) (before (same_key key) (keys_where passes old))

module _ {K V : Type 0} (same_key : K → K → Bool) (sort_of : K → Sort) where
  -- the order of keys is kept: that of array indices is by number, and so can't change
  pub record KeepsOrder (old new : View K V) : Type 0 where
    pub texts : KeepsOrderBy same_key (λ key. is_text (sort_of key)) old new
    pub symbols : KeepsOrderBy same_key (λ key. is_symbol (sort_of key)) old new

  -- one view may be followed by another, of the same object
  pub record Evolves (old new : View K V) : Type 0 where
    pub facts : KeepsFacts same_key old new
    pub order : KeepsOrder old new
