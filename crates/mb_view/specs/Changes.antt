-- The single changes of which each change of an object is made (ECMA-262, 10.1 and 10.4.2).
use Rattle.std.specs.Prelude.{◌≡◌, Bool, true, false, List, [], ◌∷◌, Some}
use Rattle.std.specs.Map.{remove_entry}
use Rattle.indexmap.specs.IndexMap.{insert_entry}
use Rattle.mb_desc.specs.declared.descriptor.Desc.{Desc}
use Rattle.mb_desc.specs.declared.descriptor.Full.{Full}
use Rattle.mb_desc.specs.Descriptors.{is_configurable, IsOfOneKind}
use Rattle.mb_desc.specs.Validate.{Validate}
use Rattle.mb_desc.specs.View.{View}
use Rattle.mb_view.specs.Views.{property_of}

pub data Change (K V : Type 0) : Type 0 where
  -- the property is defined as `Validate` answers for the descriptor
  Define : K → Desc V → Full V → Change K V
  Remove : K → Change K V
  SetPrototype : V → Change K V
  PreventExtensions : Change K V

module _ {K V : Type 0} (same_key : K → K → Bool) where
  -- the view after a change; of a property that was there the place stays, a new one comes last
  abbrev pub changed : Change K V → View K V → View K V
  changed (Define key desc property) view =
      record view { properties = insert_entry same_key view.properties key property }
  changed (Remove key) view = record view { properties = remove_entry (same_key key) view.properties }
  changed (SetPrototype prototype) view = record view { prototype = prototype }
  changed PreventExtensions view = record view { extensible = false }

  abbrev pub changed_by : List (Change K V) → View K V → View K V
  changed_by [] view = view
  changed_by (change ∷ changes) view = changed_by changes (changed change view)

module _ {K V : Type 0} (same_key : K → K → Bool) (same : V → V → Bool) (undefined : V) where
  -- an ordinary object admits the change
  abbrev pub IsAllowed : Change K V → View K V → Type 0
  IsAllowed (Define key desc property) view = IsOfOneKind desc
      × (Validate same undefined view.extensible (property_of same_key view key) desc ≡ Some property)
  IsAllowed (Remove key) view = (property : Full V) × (property_of same_key view key ≡ Some property)
      × (is_configurable property ≡ true)
  IsAllowed (SetPrototype prototype) view = view.extensible ≡ true
  IsAllowed PreventExtensions view = Unit {0}

  -- each of the changes is admitted in its turn
  abbrev pub AreAllowed : List (Change K V) → View K V → Type 0
  AreAllowed [] view = Unit {0}
  AreAllowed (change ∷ changes) view = IsAllowed change view × AreAllowed changes (changed same_key change view)
