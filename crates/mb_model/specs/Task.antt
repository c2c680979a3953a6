use Rattle.std.specs.Prelude.{ℕ, List, Bool, Option}
use Rattle.mb_desc.specs.declared.descriptor.Desc.{Desc}
use Rattle.mb_desc.specs.declared.descriptor.Full.{Full}
use Rattle.mb_world.specs.Value.{Val}
use Rattle.mb_world.specs.Key.{PropertyKey}

-- what is to be done, and how it may end

-- the essential internal methods with their arguments (ECMA-262 6.1.7.2); `Construct` ends with the new target
pub data Method : Type 0 where
  GetPrototypeOf : Method
  SetPrototypeOf : Val → Method
  IsExtensible : Method
  PreventExtensions : Method
  GetOwnProperty : PropertyKey → Method
  DefineOwnProperty : PropertyKey → Desc Val → Method
  HasProperty : PropertyKey → Method
  Get : PropertyKey → (receiver : Val) → Method
  Set : PropertyKey → Val → (receiver : Val) → Method
  Delete : PropertyKey → Method
  OwnPropertyKeys : Method
  Call : (this : Val) → List Val → Method
  Construct : List Val → (target : Val) → Method

-- what an access asks of a collection (ECMA-262 24): one of its members, or, for forEach, the slot at a position
pub data Request : Type 0 where
  GetAt : (key : Val) → Request
  SetAt : (key value : Val) → Request
  Add : (key : Val) → Request
  Has : (key : Val) → Request
  DeleteAt : (key : Val) → Request
  Clear : Request
  Size : Request
  Slot : (position : ℕ) → Request

-- what is to be done, with the side that acts; a function itself tells whose it is. `Loop` is the next turn of a `for`,
-- `Chain` the next object of `instanceof`, `Walk` the next object of setPrototypeOf, for no side, and `Visit` the next
-- position of a collection's forEach: a row goes on with one of these by `Again`, and none begins with it
pub data Task : Type 0 where
  Evaluate : (side node scope : ℕ) → (this : Val) → Task
  Loop : (side node scope : ℕ) → (this : Val) → Task
  Chain : (side : ℕ) → (object prototype : Val) → Task
  Walk : (object given next : Val) → Task
  Perform : (side : ℕ) → Method → (object : Val) → (viewer : ℕ) → (enters : Bool) → Task
  Enter : (function this : Val) → List Val → Task
  Run : (side place : ℕ) → (this : Val) → List Val → (target : Val) → Task
  Access : (side place : ℕ) → (collection : Val) → Request → Task
  Visit : (side place : ℕ) → (collection function this : Val) → (position : ℕ) → Task

-- what a task gives where it ends normally
pub data Answer : Type 0 where
  Nothing : Answer
  Value : Val → Answer
  Flag : Bool → Answer
  Prop : Option (Full Val) → Answer
  Given : Desc Val → Answer
  Keys : List PropertyKey → Answer
  Values : List Val → Answer
  Place : (base : Val) → PropertyKey → Answer
  Pair : (key value : Val) → Answer
  Empty : Answer

-- how a task ends: completion records (ECMA-262 6.2.4)
pub data Outcome : Type 0 where
  Normal : Answer → Outcome
  Throw : Val → Outcome
  Return : Val → Outcome
  Break : Outcome
  Continue : Outcome
