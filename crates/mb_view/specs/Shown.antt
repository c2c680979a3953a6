-- The view that a policy shows of an object, and what a side's methods do to the object behind it.
use Rattle.std.specs.Prelude.{Bool, true, false, ◌||◌, List, [], ◌∷◌, Option, None, Some, if◌then◌else◌}
use Rattle.mb_desc.specs.declared.descriptor.Desc.{Desc}
use Rattle.mb_desc.specs.declared.descriptor.Full.{Full}
use Rattle.mb_desc.specs.declared.descriptor.Full.TheVariants.{Datum}
use Rattle.mb_desc.specs.Descriptors.{is_enumerable, is_configurable, IsOfOneKind}
use Rattle.mb_desc.specs.Validate.{Validate}
use Rattle.mb_desc.specs.View.{View}
use Rattle.mb_view.specs.Views.{property_of}
use Rattle.mb_view.specs.Changes.{Change, Define, Remove, SetPrototype, PreventExtensions, changed_by}

-- what the rules for an object's label do with a key
pub data Treatment (V : Type 0) : Type 0 where
  Untouched : Treatment V
  Hidden : Treatment V
  Substituted : V → Treatment V

abbrev pub is_touched : {V : Type 0} → Treatment V → Bool
is_touched Untouched = false
is_touched Hidden = true
is_touched (Substituted constant) = true

-- a substituted property is a data property that can't be written, with the real flags
abbrev pub shown_property : {V : Type 0} → Treatment V → Option (Full V) → Option (Full V)
shown_property Untouched property = property
shown_property Hidden property = None
shown_property (Substituted constant) None = None
shown_property (Substituted constant) (Some property) = Some
    (Datum constant false (is_enumerable property) (is_configurable property))

module _ {K V : Type 0} where
  abbrev pub entry_if : K → Option (Full V) → List (K × Full V) → List (K × Full V)
  entry_if key None rest = rest
  entry_if key (Some property) rest = (key, property) ∷ rest

  abbrev pub shown_entries : (K → Treatment V) → List (K × Full V) → List (K × Full V)
  shown_entries rule [] = []
  shown_entries rule (entry ∷ entries) = entry_if entry.0 (shown_property (rule entry.0) (Some entry.1))
      (shown_entries rule entries)

  abbrev pub shown : (K → Treatment V) → View K V → View K V
  shown rule view = record view { properties = shown_entries rule view.properties }

-- a method by which a side changes an object
pub data Request (K V : Type 0) : Type 0 where
  Definition : K → Desc V → Request K V
  Deletion : K → Request K V
  NewPrototype : V → Request K V
  NoExtensions : Request K V

-- no descriptor has fields of both kinds
abbrev pub AreOfOneKind : {K V : Type 0} → Request K V → Type 0
AreOfOneKind (Definition key desc) = IsOfOneKind desc
AreOfOneKind (Deletion key) = Unit {0}
AreOfOneKind (NewPrototype prototype) = Unit {0}
AreOfOneKind NoExtensions = Unit {0}

-- the policy decides, and nothing changes
abbrev pub is_decided : {K V : Type 0} → Bool → (K → Treatment V) → Request K V → Bool
is_decided read_only rule (Definition key desc) = read_only || is_touched (rule key)
is_decided read_only rule (Deletion key) = read_only || is_touched (rule key)
is_decided read_only rule (NewPrototype prototype) = read_only
is_decided read_only rule NoExtensions = read_only

module _ {K V : Type 0} (same_key : K → K → Bool) (same : V → V → Bool) (undefined : V) where
  abbrev pub definition_if : K → Desc V → Option (Full V) → List (Change K V)
  definition_if key desc None = []
  definition_if key desc (Some property) = Define key desc property ∷ []

  abbrev pub removal_if : K → Option (Full V) → List (Change K V)
  removal_if key None = []
  removal_if key (Some property) = if is_configurable property then Remove key ∷ [] else []

  -- the changes of the object that a method makes, which sees it as the rule shows it
  abbrev pub made : (K → Treatment V) → Request K V → View K V → List (Change K V)
  made rule (Definition key desc) view = definition_if key desc
      (Validate same undefined view.extensible (property_of same_key (shown rule view) key) desc)
  made rule (Deletion key) view = removal_if key (property_of same_key (shown rule view) key)
  made rule (NewPrototype prototype) view =
      if same prototype view.prototype then [] else if view.extensible then SetPrototype prototype ∷ [] else []
  made rule NoExtensions view = PreventExtensions ∷ []

  abbrev pub performed : (read_only : Bool) → (K → Treatment V) → Request K V → View K V → View K V
  performed read_only rule request view =
      if is_decided read_only rule request then view else changed_by same_key (made rule request view) view
