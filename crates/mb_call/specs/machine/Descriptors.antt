-- Descriptors that are being read.
use Rattle.std.specs.Prelude.{Bool, List, None, Ok, Option, Result, Some, [], ℕ, ◌∷◌, ◌≡◌}
use Rattle.mb_base.specs.declared.value.ObjId.{ObjId}
use Rattle.mb_base.specs.declared.value.Value.{Value}
use Rattle.mb_base.specs.declared.value.Value.TheVariants as v
use Rattle.mb_frames.specs.Making.{Puts}
use Rattle.mb_desc.specs.declared.descriptor.Desc.{Desc}
use Rattle.mb_frames.specs.Rest.Calls.{after_desc, field_in, fields_after}
use Rattle.mb_frames.specs.declared.calls.AfterDesc.{AfterDesc}
use Rattle.mb_frames.specs.declared.calls.Field.{Field}
use Rattle.mb_frames.specs.declared.calls.Field.TheVariants as field
use Rattle.mb_model.specs.Operations.Descriptors.{field_key, todesc_from}
use Rattle.mb_model.specs.Task.{Answer}
use Rattle.mb_model.specs.Writing.{◌>>=◌, Does, give, type_error}
use Rattle.mb_frames.specs.declared.machine.Halt.{Halt}
use Rattle.mb_world.specs.Data.{Data}
use Rattle.mb_world.specs.Image.{Names, Resolve, desc_in, object_in}
use Rattle.mb_world.specs.Key.{Named, PropertyKey}
use Rattle.mb_world.specs.Property.{open_property}
use Rattle.mb_world.specs.Value.{Val}

-- the fields from one on, and what follows
abbrev pub fields_from : Names → ℕ → ObjId → Field → Desc Value → AfterDesc → Does Answer
fields_from n s object field desc after =
    todesc_from s (object_in n object) (field_in field ∷ fields_after field) (desc_in (Resolve n) desc)
    >>= after_desc n s after

-- the fields after one, and what follows
abbrev pub fields_past : Names → ℕ → ObjId → Field → Desc Value → AfterDesc → Does Answer
fields_past n s object field desc after =
    todesc_from s (object_in n object) (fields_after field) (desc_in (Resolve n) desc) >>= after_desc n s after

-- a descriptor with the field, or a TypeError of that side
abbrev pub desc_or_error : Names → ℕ → Option (Desc Value) → Does (Desc Val)
desc_or_error n s None = type_error s
desc_or_error n s (Some desc) = give (desc_in (Resolve n) desc)

-- ---- descriptors as objects

abbrev pub truth_if : Option Bool → Option Value
truth_if None = None
truth_if (Some b) = Some (v.Bool b)

abbrev pub name_units : PropertyKey → List ℕ
name_units (Named t) = t
name_units key = []

-- what a descriptor has in a field
abbrev pub field_value : Desc Value → Field → Option Value
field_value desc field.Enumerable = truth_if desc.enumerable
field_value desc field.Configurable = truth_if desc.configurable
field_value desc field.Value = desc.value
field_value desc field.Writable = truth_if desc.writable
field_value desc field.Get = desc.get
field_value desc field.Set = desc.set

-- the units of a field's name
abbrev pub field_units : Field → List ℕ
field_units field = name_units (field_key (field_in field))

abbrev pub PutsField : Result (Unit {0}) Halt → Data → Data → ObjId → List ℕ → Option Value → Type 0
PutsField result d d' made units None = (result ≡ Ok tt) × (d' ≡ d)
PutsField result d d' made units (Some x) = Puts result d d' made units (open_property x)
