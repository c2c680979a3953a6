-- ValidateAndApplyPropertyDescriptor (ECMA-262, 10.1.6.3), as a function to the property that is
-- there afterwards, or none where the descriptor is refused.
use Rattle.std.specs.Prelude.{Bool, true, false, not, ◌&&◌, ◌||◌, Option, None, Some, unwrap_or, if◌then◌else◌}
use Rattle.mb_desc.specs.declared.descriptor.Desc.{Desc}
use Rattle.mb_desc.specs.declared.descriptor.Full.{Full}
use Rattle.mb_desc.specs.declared.descriptor.Full.TheVariants.{Datum, Accessor}
use Rattle.mb_desc.specs.Descriptors.{is_accessor_descriptor, is_data_descriptor, is_generic_descriptor, has_no_fields, is_accessor_property, is_enumerable, is_configurable, Complete}

-- SameValue (7.2) of two truth values
abbrev pub same_flag : Bool → Bool → Bool
same_flag true there = there
same_flag false there = not there

-- the descriptor has the field, and another value in it than is there
abbrev pub changes : {A : Type 0} → (same : A → A → Bool) → Option A → A → Bool
changes same None there = false
changes same (Some given) there = not (same given there)

module _ {V : Type 0} where
  -- steps 5.d and 5.e: the fields of its kind that a property which isn't configurable refuses
  abbrev pub refuses_fields : (same : V → V → Bool) → Full V → Desc V → Bool
  refuses_fields same (Accessor get set enumerable configurable) desc =
      changes same desc.get get || changes same desc.set set
  refuses_fields same (Datum value writable enumerable configurable) desc =
      not writable && (unwrap_or desc.writable false || changes same desc.value value)

  -- step 5: what a property that isn't configurable refuses
  abbrev pub refuses : (same : V → V → Bool) → Full V → Desc V → Bool
  refuses same current desc =
      unwrap_or desc.configurable false
      || changes same_flag desc.enumerable (is_enumerable current)
      || (not (is_generic_descriptor desc)
      && not (same_flag (is_accessor_descriptor desc) (is_accessor_property current)))
      || refuses_fields same current desc

  -- step 6: the fields of the descriptor are put over the property
  abbrev pub Applied : (undefined : V) → Full V → Desc V → Full V
  Applied undefined (Datum value writable enumerable configurable) desc =
      if is_accessor_descriptor desc
      then Accessor (unwrap_or desc.get undefined) (unwrap_or desc.set undefined)
      (unwrap_or desc.enumerable enumerable) (unwrap_or desc.configurable configurable)
      else Datum (unwrap_or desc.value value) (unwrap_or desc.writable writable)
      (unwrap_or desc.enumerable enumerable) (unwrap_or desc.configurable configurable)
  Applied undefined (Accessor get set enumerable configurable) desc =
      if is_data_descriptor desc
      then Datum (unwrap_or desc.value undefined) (unwrap_or desc.writable false)
      (unwrap_or desc.enumerable enumerable) (unwrap_or desc.configurable configurable)
      else Accessor (unwrap_or desc.get get) (unwrap_or desc.set set)
      (unwrap_or desc.enumerable enumerable) (unwrap_or desc.configurable configurable)

  -- `same` is SameValue and `undefined` the value undefined
  unfoldable pub Validate : (same : V → V → Bool) (undefined : V) → (extensible : Bool) → (current : Option (Full V))
      → Desc V → Option (Full V)
  -- step 2
  Validate same undefined extensible None desc = if extensible then Some (Complete undefined desc) else None
  -- steps 4 to 7
  Validate same undefined extensible (Some current) desc =
      if has_no_fields desc
      then Some current
      else if not (is_configurable current) && refuses same current desc
      then None
      else Some (Applied undefined current desc)
