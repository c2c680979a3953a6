-- Property descriptors (ECMA-262, 6.2.6).
use Rattle.std.specs.Prelude.{◌≡◌, Bool, true, false, not, ◌&&◌, ◌||◌, Option, None, Some, is_some, unwrap_or, if◌then◌else◌}
use Rattle.mb_desc.specs.declared.descriptor.Desc.{Desc}
use Rattle.mb_desc.specs.declared.descriptor.Full.{Full}
use Rattle.mb_desc.specs.declared.descriptor.Full.TheVariants.{Datum, Accessor}

-- the field is there, and true
abbrev pub asks : Option Bool → Bool
asks field = unwrap_or field false

-- the field is there, and false
abbrev pub denies : Option Bool → Bool
denies field = not (unwrap_or field true)

module _ {V : Type 0} where
  -- IsAccessorDescriptor (6.2.6.1)
  abbrev pub is_accessor_descriptor : Desc V → Bool
  is_accessor_descriptor desc = is_some desc.get || is_some desc.set

  -- IsDataDescriptor (6.2.6.2)
  abbrev pub is_data_descriptor : Desc V → Bool
  is_data_descriptor desc = is_some desc.value || is_some desc.writable

  -- IsGenericDescriptor (6.2.6.3)
  abbrev pub is_generic_descriptor : Desc V → Bool
  is_generic_descriptor desc = not (is_accessor_descriptor desc) && not (is_data_descriptor desc)

  -- no field is there
  abbrev pub has_no_fields : Desc V → Bool
  has_no_fields desc = is_generic_descriptor desc && not (is_some desc.enumerable) && not (is_some desc.configurable)

  -- no descriptor has fields of both kinds (6.2.6)
  abbrev pub IsOfOneKind : Desc V → Type 0
  IsOfOneKind desc = is_data_descriptor desc && is_accessor_descriptor desc ≡ false

  abbrev pub is_accessor_property : Full V → Bool
  is_accessor_property (Datum value writable enumerable configurable) = false
  is_accessor_property (Accessor get set enumerable configurable) = true

  abbrev pub is_enumerable : Full V → Bool
  is_enumerable (Datum value writable enumerable configurable) = enumerable
  is_enumerable (Accessor get set enumerable configurable) = enumerable

  abbrev pub is_configurable : Full V → Bool
  is_configurable (Datum value writable enumerable configurable) = configurable
  is_configurable (Accessor get set enumerable configurable) = configurable

  abbrev pub is_fixed : Full V → Bool
  is_fixed property = not (is_configurable property)

  -- a data property that can be written
  abbrev pub is_writable : Full V → Bool
  is_writable (Datum value writable enumerable configurable) = writable
  is_writable (Accessor get set enumerable configurable) = false

  -- a data property that can't be written
  abbrev pub is_unwritable : Full V → Bool
  is_unwritable (Datum value writable enumerable configurable) = not writable
  is_unwritable (Accessor get set enumerable configurable) = false

  -- a property is there, and the test holds of it
  abbrev pub property_is : (Full V → Bool) → Option (Full V) → Bool
  property_is test None = false
  property_is test (Some property) = test property

  -- CompletePropertyDescriptor (6.2.6.6): an absent field gets its default
  abbrev pub Complete : (undefined : V) → Desc V → Full V
  Complete undefined desc =
      if is_accessor_descriptor desc
      then Accessor (unwrap_or desc.get undefined) (unwrap_or desc.set undefined)
      (unwrap_or desc.enumerable false) (unwrap_or desc.configurable false)
      else Datum (unwrap_or desc.value undefined) (unwrap_or desc.writable false)
      (unwrap_or desc.enumerable false) (unwrap_or desc.configurable false)

  -- a descriptor that says nothing; one that says a value alone
  abbrev pub no_fields : Desc V
  no_fields = record { value = None; writable = None; get = None; set = None; enumerable = None; configurable = None }

  abbrev pub value_alone : V → Desc V
  value_alone value = record no_fields { value = Some value }

  -- the descriptor that says all of a property: both fields of its kind and both flags
  abbrev pub descriptor_of : Full V → Desc V
  descriptor_of (Datum value writable enumerable configurable) =
      record no_fields {
        value = Some value;
        writable = Some writable;
        enumerable = Some enumerable;
        configurable = Some configurable;
      }
  descriptor_of (Accessor get set enumerable configurable) =
      record no_fields {
        get = Some get;
        set = Some set;
        enumerable = Some enumerable;
        configurable = Some configurable;
      }

  -- the same of a property that may be absent, of which there is nothing to say
  abbrev pub fields_of : Option (Full V) → Desc V
  fields_of None = no_fields
  fields_of (Some property) = descriptor_of property
