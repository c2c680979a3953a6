-- A piece of what stands in a frame, with what is known of it: all that is said of frames is said of these.
use Rattle.std.specs.List.{AllByRecursion}
use Rattle.std.specs.Prelude.{All, Bool, List, Option, ℕ}
use Rattle.mb_base.specs.declared.value.Key.{Key}
use Rattle.mb_base.specs.declared.value.NodeId.{NodeId}
use Rattle.mb_base.specs.declared.value.ObjId.{ObjId}
use Rattle.mb_base.specs.declared.value.ScopeId.{ScopeId}
use Rattle.mb_base.specs.declared.value.Side.{Side}
use Rattle.mb_base.specs.declared.value.StrId.{StrId}
use Rattle.mb_desc.specs.declared.descriptor.Desc.{Desc}
use Rattle.mb_desc.specs.declared.descriptor.Full.{Full}
use Rattle.mb_tree.specs.declared.kind.Sign.{Sign}
use Rattle.mb_world.specs.Data.{Data}
use Rattle.mb_world.specs.Form.{Form}
use Rattle.mb_world.specs.Ids.{FullIn, KeyIn, Maybe, ObjIn, ScopeIn, TextIn, ValueIn}
use Rattle.mb_base.specs.declared.value.Value.{Value}

pub data Held : Type 0 where
  HeldValue : Value → Held
  HeldValues : List Value → Held
  -- a value that was found to be callable, a constructor, null or an object
  HeldCallable : Value → Held
  HeldConstructor : Value → Held
  HeldPrototype : Value → Held
  -- null, or the object of any side that the walk of setPrototypeOf visits next
  HeldVisited : Value → Held
  HeldObject : ObjId → Held
  -- what a function's entering takes: a function of a script, or what revokes a Proxy
  HeldFunction : ObjId → Held
  -- a collection
  HeldCollection : ObjId → Held
  -- an array and a plain object that rows of the frame's home made
  HeldArray : ObjId → Held
  HeldPlain : ObjId → Held
  HeldKey : Key → Held
  HeldKeys : List Key → Held
  HeldKeyIf : Option Key → Held
  HeldText : StrId → Held
  HeldTextIf : Option StrId → Held
  -- a scope of the frame's home
  HeldScope : ScopeId → Held
  -- a node of its home's script that passes the test
  HeldNode : (Option Form → Bool) → ℕ → Held
  HeldNodeIf : Option NodeId → Held
  -- an operator that asks no object
  HeldSign : Sign → Held
  -- a descriptor; one whose fields are still being read
  HeldDesc : Desc Value → Held
  HeldFields : Desc Value → Held
  HeldFull : Full Value → Held
  HeldReal : Option (Full Value) → Held
  -- a place of the table of built-ins
  HeldPlace : ℕ → Held
  -- how many entries were complete
  HeldBegan : ℕ → Held
  -- the object of a method or an access that is to make an entry
  HeldEntered : ObjId → Held
  -- the side that performs what waits
  HeldSide : Side → Held

-- ---- each id is one of the world

pub record DescIn (d : Data) (given : Desc Value) : Type 0 where
  pub value_in : Maybe (ValueIn d) given.value
  pub get_in : Maybe (ValueIn d) given.get
  pub set_in : Maybe (ValueIn d) given.set

abbrev pub HeldIn : Data → Held → Type 0
HeldIn d (HeldValue x) = ValueIn d x
HeldIn d (HeldValues xs) = All (ValueIn d) xs
HeldIn d (HeldCallable x) = ValueIn d x
HeldIn d (HeldConstructor x) = ValueIn d x
HeldIn d (HeldPrototype x) = ValueIn d x
HeldIn d (HeldVisited x) = ValueIn d x
HeldIn d (HeldObject id) = ObjIn d id
HeldIn d (HeldFunction id) = ObjIn d id
HeldIn d (HeldCollection id) = ObjIn d id
HeldIn d (HeldArray id) = ObjIn d id
HeldIn d (HeldPlain id) = ObjIn d id
HeldIn d (HeldKey key) = KeyIn d key
HeldIn d (HeldKeys keys) = All (KeyIn d) keys
HeldIn d (HeldKeyIf key) = Maybe (KeyIn d) key
HeldIn d (HeldText text) = TextIn d text
HeldIn d (HeldTextIf text) = Maybe (TextIn d) text
HeldIn d (HeldScope scope) = ScopeIn d scope
HeldIn d (HeldNode test node) = Unit {0}
HeldIn d (HeldNodeIf id) = Unit {0}
HeldIn d (HeldSign sign) = Unit {0}
HeldIn d (HeldDesc given) = DescIn d given
HeldIn d (HeldFields given) = DescIn d given
HeldIn d (HeldFull full) = FullIn d full
HeldIn d (HeldReal full) = Maybe (FullIn d) full
HeldIn d (HeldPlace place) = Unit {0}
HeldIn d (HeldBegan began) = Unit {0}
HeldIn d (HeldEntered id) = ObjIn d id
HeldIn d (HeldSide side) = Unit {0}

-- each id that stands in these is one of the world
abbrev pub AreIn : Data → List Held → Type 0
AreIn d hs = AllByRecursion (HeldIn d) hs
