use Rattle.std.specs.Prelude.{ℕ, List, Bool, Option}
use Rattle.mb_desc.specs.declared.descriptor.Desc.{Desc}
use Rattle.mb_desc.specs.declared.descriptor.Full.{Full}
use Rattle.mb_world.specs.declared.cell.Coll.{Coll}
use Rattle.mb_world.specs.declared.cell.ErrorKind.{ErrorKind}
use Rattle.mb_world.specs.declared.cell.Shape.{Shape}
use Rattle.mb_world.specs.declared.entry.Op.{Op}
use Rattle.mb_world.specs.Value.{Val}
use Rattle.mb_world.specs.Key.{PropertyKey}
use Rattle.mb_world.specs.Form.{Form}

-- the shared object graph, as data. The sides are numbers from 0: of two, 0 is the left one and 1 the right one

-- what a function closes over (ECMA-262 10.2, table of internal slots): an arrow keeps its `this`
pub record Code : Type 0 where
  pub side : ℕ
  pub node : ℕ
  pub scope : ℕ
  pub constructs : Bool
  pub bound_this : Option Val

-- the slots of a collection in order, each a key with its value, or empty (ECMA-262 24)
abbrev pub Slots : Type 0
Slots = List (Option (Val × Val))

-- what kind of object it is (ECMA-262 10)
pub data Kind : Type 0 where
  Plain : Kind
  Array : Kind
  Function : Code → Kind
  Standard : ℕ → Kind
  Fault : ErrorKind → Kind
  Proxy : (target handler : Val) → Shape → Kind
  Gone : Shape → Kind
  Revoker : ℕ → Kind
  Collection : Coll → Slots → Kind

-- a key and its property
pub record Property : Type 0 where
  pub key : PropertyKey
  pub full : Full Val

-- an object: its owner (none for a built-in, which all sides have), label, and the parts of ECMA-262 10.1
pub record Thing : Type 0 where
  pub owner : Option ℕ
  pub label : Option (List ℕ)
  pub kind : Kind
  pub prototype : Val
  pub extensible : Bool
  pub properties : List Property

-- a name of a scope, and whether it can be written (ECMA-262 9.1.1.1)
pub record Binding : Type 0 where
  pub name : List ℕ
  pub value : Option Val
  pub fixed : Bool

pub record Scope : Type 0 where
  pub side : ℕ
  pub parent : Option ℕ
  pub bindings : List Binding

-- a job of a queue (ECMA-262 9.5)
pub data Job : Type 0 where
  Script : Job
  Call : Val → Job

-- a name that a node's scope binds
pub record ScopeName : Type 0 where
  pub node : ℕ
  pub name : List ℕ
  pub fixed : Bool

-- a side's script: its nodes in post-order, and the names of its scopes
pub record Program : Type 0 where
  pub forms : List Form
  pub names : List ScopeName

pub data RuleKind : Type 0 where
  Hide : List ℕ → RuleKind
  ReadOnly : RuleKind
  Substitute : List ℕ → Val → RuleKind
  Revoke : RuleKind

-- a rule for the objects of a label; where it names no owner, or no viewer, it means every side
pub record Rule : Type 0 where
  pub label : List ℕ
  pub kind : RuleKind
  pub owner : Option ℕ
  pub viewer : Option ℕ

-- what an entry gives or answers
pub data Said : Type 0 where
  SaidNothing : Said
  SaidFlag : Bool → Said
  SaidValue : Val → Said
  SaidAbsent : Said
  SaidProperty : Desc Val → Said
  SaidKeys : List PropertyKey → Said
  SaidThrow : Val → Said
  SaidPair : (key value : Val) → Said

-- an entry of the trace: an internal method, or an access of a collection, that a side performed on a foreign object
pub record Entry : Type 0 where
  pub began : ℕ
  pub side : ℕ
  pub object : ℕ
  pub op : Op
  pub key : Option PropertyKey
  pub given : Said
  pub answer : Said

-- what stands in the log, in order: a printed line, the line of an uncaught throw, an entry
pub data Item : Type 0 where
  Printed : (side : ℕ) → (text : List ℕ) → Item
  Uncaught : (side : ℕ) → (text : List ℕ) → Item
  Traced : Entry → Item

-- the one object graph that all sides share; a symbol is its description, if it has one
pub record Graph : Type 0 where
  pub objects : List Thing
  pub symbols : List (Option (List ℕ))
  pub scopes : List Scope
  pub queues : List (List Job)
  pub programs : List Program
  pub rules : List Rule
  pub revoked : Bool
  pub log : List Item
