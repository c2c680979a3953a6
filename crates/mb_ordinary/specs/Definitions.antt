-- What definitions and deletions of a property do.
use Rattle.std.specs.Prelude.{◌≡◌, ◌++◌, List, [], Bool, true, Option, Some, None, Contains, IfSome, if◌then◌else◌}
use Rattle.mb_base.specs.declared.value.ObjId.{ObjId}
use Rattle.mb_base.specs.declared.value.Key.{Key}
use Rattle.mb_base.specs.declared.value.Value.{Value}
use Rattle.mb_base.specs.declared.value.Value.TheVariants as v
use Rattle.mb_desc.specs.declared.descriptor.Desc.{Desc}
use Rattle.mb_desc.specs.declared.descriptor.Full.{Full}
use Rattle.mb_desc.specs.Descriptors.{is_configurable}
use Rattle.mb_desc.specs.Validate.{Validate}
use Rattle.mb_desc.specs.Values.{equal}
use Rattle.mb_props.specs.Table.{found}
use Rattle.mb_world.specs.declared.cell.Cell.{Cell}
use Rattle.mb_world.specs.Graph.{Thing}
use Rattle.mb_world.specs.Ordinary.{Defined, Refused, Becomes, ordinary_defined, Deleted, Leaves, Without, deleted}
use Rattle.mb_world.specs.Data.{Data, cell_at, property_at, change_cell, put_in, remove_in}
use Rattle.mb_world.specs.Ids.{Maybe, ValueIn}
use Rattle.mb_world.specs.Image.{names_of, Resolve, object_in, key_in, desc_in}
use Rattle.mb_world.specs.Formed.{option_values, full_values}
use Rattle.mb_ordinary.specs.Objects.{object_at, property_of}

-- ---- which references are told apart

-- no two different cells that these values name stand for the same
abbrev pub TellsApart : Data → List Value → Type 0
TellsApart d xs = (a b : ObjId) → Contains xs (v.Object a) → Contains xs (v.Object b) →
    object_in (names_of d) a ≡ object_in (names_of d) b → a ≡ b

abbrev pub desc_values : Desc Value → List Value
desc_values desc = option_values desc.value ++ option_values desc.get ++ option_values desc.set

abbrev pub property_values : Option (Full Value) → List Value
property_values None = []
property_values (Some p) = full_values p

-- the values of a descriptor, and those of the property at its key
abbrev pub compared : Data → ObjId → Key → Desc Value → List Value
compared d o key desc = desc_values desc ++ property_values (property_at d o key)

abbrev pub TellsFields : Data → ObjId → Key → Desc Value → Type 0
TellsFields d o key desc = TellsApart d (compared d o key desc)

-- ---- a definition (ECMA-262 10.1.6.1)

pub record DescIn (d : Data) (desc : Desc Value) : Type 0 where
  pub value_in : Maybe (ValueIn d) desc.value
  pub get_in : Maybe (ValueIn d) desc.get
  pub set_in : Maybe (ValueIn d) desc.set

abbrev pub accepted_by : Key → Desc Value → Option Cell → Option (Full Value)
accepted_by key desc None = None
accepted_by key desc (Some c) = Validate equal v.Undefined c.extensible (found c.props key) desc

-- the property that a descriptor makes, if it is accepted
abbrev pub accepted : Data → ObjId → Key → Desc Value → Option (Full Value)
accepted d o key desc = accepted_by key desc (cell_at d o)

-- the world with the property, if there is one
abbrev pub with_accepted : Data → ObjId → Key → Option (Full Value) → Data
with_accepted d o key None = d
with_accepted d o key (Some full) = change_cell d o (put_in key full)

-- what the definition does to an object
abbrev pub defined_at : Data → Key → Desc Value → Thing → Defined
defined_at d key desc t = ordinary_defined t (key_in (names_of d) key) (desc_in (Resolve (names_of d)) desc)

-- an answer, and the object that is there afterwards
abbrev pub as_defined : Bool → Option Thing → Defined
as_defined true (Some t) = Becomes t true
as_defined _ _ = Refused

-- from one world to the other the object became what the definition makes of it, with this answer
abbrev pub IsDefined : (before after : Data) → ObjId → Key → Desc Value → (answer : Bool) → Type 0
IsDefined d d' o key desc answer =
    IfSome (object_at d o) (λ t. defined_at d key desc t ≡ as_defined answer (object_at d' o))

-- ---- a deletion (ECMA-262 10.1.10.1)

-- it is absent or configurable
abbrev pub is_loose : Option (Full Value) → Bool
is_loose None = true
is_loose (Some p) = is_configurable p

-- the world without the key, if it may go
abbrev pub without_if : Bool → Data → ObjId → Key → Data
without_if loose d o key = if loose then change_cell d o (remove_in key) else d

-- what the definition does to an object
abbrev pub deleted_at : Data → Key → Thing → Deleted
deleted_at d key t = deleted t (key_in (names_of d) key) (property_of d key t)

-- an answer, and the object that is there afterwards, where the property was there or not
abbrev pub as_deleted : (answer : Bool) → Option Thing → Option (Full Value) → Deleted
as_deleted true (Some t) (Some p) = Without t
as_deleted answer _ _ = Leaves answer

-- from one world to the other the object became what the deletion makes of it, with this answer
abbrev pub IsDeleted : (before after : Data) → ObjId → Key → (answer : Bool) → Type 0
IsDeleted d d' o key answer =
    IfSome (object_at d o) (λ t. deleted_at d key t ≡ as_deleted answer (object_at d' o) (property_at d o key))
