-- What holds of `Validate`.
use Rattle.std.specs.Prelude.{◌≡◌, Bool, true, false, Option, None, Some, is_some, unwrap_or}
use Rattle.mb_desc.specs.declared.descriptor.Desc.{Desc}
use Rattle.mb_desc.specs.declared.descriptor.Full.{Full}
use Rattle.mb_desc.specs.declared.descriptor.Full.TheVariants.{Datum, Accessor}
use Rattle.mb_desc.specs.Descriptors.{is_accessor_descriptor, is_generic_descriptor, has_no_fields, is_accessor_property, is_configurable, IsOfOneKind, Complete, descriptor_of, fields_of}
use Rattle.mb_desc.specs.Validate.{Validate}

-- an accessor property stays as it is; a data property stays one, with its enumerable flag,
-- not configurable, and, where it can't be written, with its value
abbrev pub KeepsFixed : {V : Type 0} → Full V → Full V → Type 0
KeepsFixed (Accessor get set enumerable configurable) after = after ≡ Accessor get set enumerable configurable
KeepsFixed (Datum value writable enumerable configurable) (Datum value' writable' enumerable' configurable') =
    (enumerable' ≡ enumerable) × (configurable' ≡ configurable)
    × (writable ≡ false → (writable' ≡ false) × (value' ≡ value))
KeepsFixed (Datum value writable enumerable configurable) (Accessor get set enumerable' configurable') = ⊥

-- a field that is given has its value in what is there
abbrev pub IsIn : {A : Type 0} → Option A → Option A → Type 0
IsIn {A} given there = (x : A) → given ≡ Some x → there ≡ Some x

-- each field of the one descriptor is in the other
pub record HasFieldsOf {V : Type 0} (given there : Desc V) : Type 0 where
  pub value : IsIn given.value there.value
  pub writable : IsIn given.writable there.writable
  pub get : IsIn given.get there.get
  pub set : IsIn given.set there.set
  pub enumerable : IsIn given.enumerable there.enumerable
  pub configurable : IsIn given.configurable there.configurable

-- a field that isn't given is that of before, or the default where there was none
abbrev pub Stays : {A : Type 0} → (given before : Option A) (default there : A) → Type 0
Stays given before default there = given ≡ None → there ≡ unwrap_or before default

-- the fields of the property's kind, and its flags, where they aren't given
abbrev pub FieldsStay : {V : Type 0} → (undefined : V) (given before : Desc V) → Full V → Type 0
FieldsStay undefined given before (Datum value writable enumerable configurable) =
    Stays given.value before.value undefined value
    × Stays given.writable before.writable false writable
    × Stays given.enumerable before.enumerable false enumerable
    × Stays given.configurable before.configurable false configurable
FieldsStay undefined given before (Accessor get set enumerable configurable) =
    Stays given.get before.get undefined get
    × Stays given.set before.set undefined set
    × Stays given.enumerable before.enumerable false enumerable
    × Stays given.configurable before.configurable false configurable

-- what a property has of before where the descriptor doesn't give it
pub record KeepsTheRest {V : Type 0} (undefined : V) (given before : Desc V) (after : Full V) : Type 0 where
  -- without a field of either kind the kind stays, and an absent property becomes a data property
  pub kind : is_generic_descriptor given ≡ true → is_accessor_property after ≡ is_accessor_descriptor before
  pub fields : FieldsStay undefined given before after

module _ {V : Type 0} (same : V → V → Bool) (undefined : V) where
  -- what is accepted changes nothing the second time
  abbrev pub AcceptedAgain : Type 0
  AcceptedAgain =
      (extensible : Bool) (current : Option (Full V)) (desc : Desc V) (after : Full V)
      → IsOfOneKind desc
      → Validate same undefined extensible current desc ≡ Some after
      → Validate same undefined extensible (Some after) desc ≡ Some after

  -- what a property that isn't configurable keeps
  abbrev pub FixedIsKept : Type 0
  FixedIsKept =
      (extensible : Bool) (current : Full V) (desc : Desc V) (after : Full V)
      → IsOfOneKind desc
      → is_configurable current ≡ false
      → Validate same undefined extensible (Some current) desc ≡ Some after
      → KeepsFixed current after

  -- a descriptor without fields accepts every property and leaves it
  abbrev pub NoFieldsLeave : Type 0
  NoFieldsLeave =
      (extensible : Bool) (current : Full V) (desc : Desc V)
      → has_no_fields desc ≡ true
      → Validate same undefined extensible (Some current) desc ≡ Some current

  -- an extensible object without the property accepts every descriptor
  abbrev pub AbsentAccepts : Type 0
  AbsentAccepts = (desc : Desc V) → Validate same undefined true None desc ≡ Some (Complete undefined desc)

  -- an object that isn't extensible refuses every property that it lacks
  abbrev pub ClosedRefuses : Type 0
  ClosedRefuses = (desc : Desc V) → Validate same undefined false None desc ≡ None

  -- a configurable property accepts every descriptor
  abbrev pub ConfigurableAccepts : Type 0
  ConfigurableAccepts =
      (extensible : Bool) (current : Full V) (desc : Desc V)
      → is_configurable current ≡ true
      → is_some (Validate same undefined extensible (Some current) desc) ≡ true

  -- a field that is given is in the property afterwards, which so is of the field's kind
  abbrev pub GivenIsThere : Type 0
  GivenIsThere =
      (extensible : Bool) (current : Option (Full V)) (desc : Desc V) (after : Full V)
      → IsOfOneKind desc
      → Validate same undefined extensible current desc ≡ Some after
      → HasFieldsOf desc (descriptor_of after)

  -- what isn't given stays
  abbrev pub NotGivenStays : Type 0
  NotGivenStays =
      (extensible : Bool) (current : Option (Full V)) (desc : Desc V) (after : Full V)
      → IsOfOneKind desc
      → Validate same undefined extensible current desc ≡ Some after
      → KeepsTheRest undefined desc (fields_of current) after
