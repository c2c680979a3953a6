use Rattle.std.specs.Prelude.{ℕ, Bool, true, false, not, ◌&&◌, ◌||◌, nat_eq, Option, Some, None, if◌then◌else◌}
use Rattle.mb_desc.specs.declared.descriptor.Desc.{Desc}
use Rattle.mb_desc.specs.declared.descriptor.Full.{Full}
use Rattle.mb_desc.specs.declared.descriptor.Full.TheVariants.{Datum, Accessor}
use Rattle.mb_desc.specs.Descriptors.{is_configurable}
use Rattle.mb_desc.specs.Validate.{Validate}
use Rattle.mb_world.specs.declared.cell.ErrorKind.{ErrorKind}
use Rattle.mb_world.specs.Value.{Val, Undefined, is_object, same_value}
use Rattle.mb_world.specs.Key.{PropertyKey}
use Rattle.mb_world.specs.Graph.{Thing}
use Rattle.mb_world.specs.Objects.{is_proxy_kind, own_property, with_property, without_property}

-- the atomic parts of the internal methods of ordinary objects (ECMA-262 10.1): what each makes of one object, and what
-- it answers, before any other object is asked

-- what a definition of a property does: it is refused and changes nothing; or this is the object afterwards, with the
-- method's answer; or what was given as an array's length is an error of this kind, and nothing changes
pub data Defined : Type 0 where
  Refused : Defined
  Becomes : Thing → (answer : Bool) → Defined
  Faulty : ErrorKind → Defined

-- the property that a descriptor makes, if it is accepted (ECMA-262 10.1.6.3)
abbrev pub validated : Thing → PropertyKey → Desc Val → Option (Full Val)
validated t k d = Validate same_value Undefined t.extensible (own_property k t) d

abbrev pub defined_as : Thing → PropertyKey → Option (Full Val) → Defined
defined_as t k None = Refused
defined_as t k (Some p) = Becomes (with_property k p t) true

-- OrdinaryDefineOwnProperty (ECMA-262 10.1.6.1)
abbrev pub ordinary_defined : Thing → PropertyKey → Desc Val → Defined
ordinary_defined t k d = defined_as t k (validated t k d)

-- OrdinaryPreventExtensions (ECMA-262 10.1.4.1)
abbrev pub closed : Thing → Thing
closed t = record t { extensible = false }

abbrev pub with_prototype : Val → Thing → Thing
with_prototype p t = record t { prototype = p }

-- OrdinarySetPrototypeOf (ECMA-262 10.1.2.1), steps 3 to 6: the answer that comes before the walk over prototypes, if
-- one does
abbrev pub prototype_answered : Thing → Val → Option Bool
prototype_answered t p =
    if same_value p t.prototype then Some true
    else if t.extensible then None
    else Some false

-- the first object is of another side than the second; a built-in is of every side
abbrev pub other_owner : Option ℕ → Option ℕ → Bool
other_owner (Some a) (Some b) = not (nat_eq a b)
other_owner _ _ = false

-- OrdinarySetPrototypeOf (ECMA-262 10.1.2.1), step 7: whether the walk over prototypes ends at an object, for an object
-- of that owner: at a script-made Proxy, and once the membrane is revoked at an object of another side
abbrev pub walk_stops : (revoked : Bool) → (owner : Option ℕ) → Thing → Bool
walk_stops revoked owner x = is_proxy_kind x.kind || (revoked && other_owner owner x.owner)

-- what is found at a key, or where it is to be looked up
pub data Look : Type 0 where
  Found : Full Val → Look
  Upward : (prototype : Val) → Look

-- OrdinaryHasProperty, OrdinaryGet (ECMA-262 10.1.7.1, 10.1.8.1), where this property is seen at the key
abbrev pub looked : (prototype : Val) → Option (Full Val) → Look
looked above None = Upward above
looked above (Some p) = Found p

-- what a write does next: it is refused, it goes on at the prototype, it stores in the receiver, it calls a setter
pub data Writing : Type 0 where
  RefuseWrite : Writing
  WriteAbove : (prototype : Val) → Writing
  StoreInReceiver : Writing
  CallSetter : (setter : Val) → Writing

-- OrdinarySetWithOwnDescriptor (ECMA-262 10.1.9.2) to step 2.a, and step 3
abbrev pub written : (prototype : Val) → Option (Full Val) → Writing
written above None = if is_object above then WriteAbove above else StoreInReceiver
written above (Some (Datum v true e c)) = StoreInReceiver
written above (Some (Datum v false e c)) = RefuseWrite
written above (Some (Accessor g s e c)) = if is_object s then CallSetter s else RefuseWrite

-- what a deletion does: nothing, with this answer; or this is the object afterwards, and the answer is true
pub data Deleted : Type 0 where
  Leaves : (answer : Bool) → Deleted
  Without : Thing → Deleted

-- OrdinaryDelete (ECMA-262 10.1.10.1), where this property is seen at the key
abbrev pub deleted : Thing → PropertyKey → Option (Full Val) → Deleted
deleted t k None = Leaves true
deleted t k (Some p) = if is_configurable p then Without (without_property k t) else Leaves false
