-- The steps of which a definition on an array is made (ECMA-262, 10.4.2.1 and 10.4.2.4).
use Rattle.std.specs.Prelude.{◌≡◌, ℕ, ◌+◌, nat_le, Bool, false, List, [], ◌∷◌, ◌++◌, map, Option, None, Some, if◌then◌else◌}
use Rattle.mb_desc.specs.declared.descriptor.Desc.{Desc}
use Rattle.mb_desc.specs.declared.descriptor.Full.{Full}
use Rattle.mb_desc.specs.declared.descriptor.Full.TheVariants.{Datum}
use Rattle.mb_desc.specs.Descriptors.{is_configurable, value_alone}
use Rattle.mb_desc.specs.View.{View}
use Rattle.mb_view.specs.Views.{property_of}
use Rattle.mb_view.specs.Changes.{Change, Define, Remove}

-- a descriptor with a value and a writable flag
abbrev pub value_and_flag : {V : Type 0} → V → Bool → Desc V
value_and_flag value writable = record (value_alone value) { writable = Some writable }

module _ {K V : Type 0} (same_key : K → K → Bool) (length_key : K) (whole : ℕ → V) where
  abbrev pub HasLength : View K V → ℕ → Bool → Type 0
  HasLength view length writable = property_of same_key view length_key
      ≡ Some (Datum (whole length) writable false false)

  -- an element is defined, and the length grows where the index isn't below it
  abbrev pub element_defined : K → Desc V → Full V → (index length : ℕ) → (writable : Bool) → List (Change K V)
  element_defined key desc property index length writable =
      Define key desc property
      ∷ (if nat_le length index then Define length_key (value_alone (whole (index + 1)))
      (Datum (whole (index + 1)) writable false false) ∷ [] else [])

  abbrev pub up_to_fixed : K → Option (Full V) → List K → List K
  up_to_fixed key None keys = keys
  up_to_fixed key (Some property) keys = if is_configurable property then key ∷ keys else []

  -- of the indices from the highest down, those before the first that isn't configurable
  abbrev pub deleted : View K V → List K → List K
  deleted view [] = []
  deleted view (key ∷ keys) = up_to_fixed key (property_of same_key view key) (deleted view keys)

  -- the indices are deleted from the highest down, and the length is what is left
  abbrev pub length_defined : View K V → List K → (length : ℕ) → (writable : Bool) → List (Change K V)
  length_defined view keys length writable =
      map Remove (deleted view keys)
      ++ (Define length_key (value_and_flag (whole length) writable)
      (Datum (whole length) writable false false) ∷ [])
