use Rattle.std.specs.Prelude.{ℕ, List, [], ◌∷◌, ◌++◌, Bool, false, ◌&&◌, Option, Some, None}
use Rattle.mb_desc.specs.declared.descriptor.Full.{Full}
use Rattle.mb_world.specs.declared.entry.Op.TheVariants.{Collect}
use Rattle.mb_world.specs.Value.{Val, number_of}
use Rattle.mb_world.specs.Key.{PropertyKey}
use Rattle.mb_desc.specs.Descriptors.{descriptor_of}
use Rattle.mb_model.specs.Task.{Method, SetPrototypeOf, GetOwnProperty, DefineOwnProperty, HasProperty, Get, Set, Delete, Request, GetAt, SetAt, Add, Has, DeleteAt, Answer, Nothing, Value, Flag, Prop, Given, Keys, Values, Place, Pair, Empty, Outcome, Normal, Throw, Return, Break, Continue}
use Rattle.mb_world.specs.Graph.{Thing, Said, SaidNothing, SaidFlag, SaidValue, SaidAbsent, SaidProperty, SaidKeys, SaidThrow, SaidPair, Entry, Item, Printed, Uncaught, Traced, Graph}
use Rattle.mb_world.specs.Objects.{thing_at}
use Rattle.mb_world.specs.View.{is_foreign}
use Rattle.mb_model.specs.Trace.Ops.{op_of}

-- the entries of the trace

abbrev pub entry_of : Item → List Entry
entry_of (Printed s t) = []
entry_of (Uncaught s t) = []
entry_of (Traced e) = e ∷ []

-- the entries of a log, in order
abbrev pub entries : List Item → List Entry
entries [] = []
entries (i ∷ is) = entry_of i ++ entries is

-- the key of a method's entry
abbrev pub key_of_method : Method → Option PropertyKey
key_of_method (GetOwnProperty k) = Some k
key_of_method (DefineOwnProperty k d) = Some k
key_of_method (HasProperty k) = Some k
key_of_method (Get k r) = Some k
key_of_method (Set k x r) = Some k
key_of_method (Delete k) = Some k
key_of_method _ = None

-- what a method's entry gives
abbrev pub given_of : Method → Said
given_of (SetPrototypeOf p) = SaidValue p
given_of (DefineOwnProperty k d) = SaidProperty d
given_of (Set k x r) = SaidValue x
given_of _ = SaidNothing

-- what an access's entry gives
abbrev pub given_of_access : Request → Said
given_of_access (GetAt k) = SaidValue k
given_of_access (SetAt k v) = SaidPair k v
given_of_access (Add k) = SaidValue k
given_of_access (Has k) = SaidValue k
given_of_access (DeleteAt k) = SaidValue k
given_of_access _ = SaidNothing

abbrev pub said_property : Option (Full Val) → Said
said_property None = SaidAbsent
said_property (Some f) = SaidProperty (descriptor_of f)

-- what an entry answers; a method or access gives no other answers, and ends in no other way
abbrev pub said_answer : Answer → Said
said_answer Nothing = SaidNothing
said_answer (Value v) = SaidValue v
said_answer (Flag b) = SaidFlag b
said_answer (Prop p) = said_property p
said_answer (Given d) = SaidProperty d
said_answer (Keys ks) = SaidKeys ks
said_answer (Values vs) = SaidNothing
said_answer (Place b k) = SaidNothing
said_answer (Pair k v) = SaidPair k v
said_answer Empty = SaidAbsent

abbrev pub said_outcome : Outcome → Said
said_outcome (Normal a) = said_answer a
said_outcome (Throw v) = SaidThrow v
said_outcome (Return v) = SaidNothing
said_outcome Break = SaidNothing
said_outcome Continue = SaidNothing

abbrev pub is_foreign_at : ℕ → Option Thing → Bool
is_foreign_at s None = false
is_foreign_at s (Some t) = is_foreign s t

abbrev pub method_entry : ℕ → ℕ → Val → Method → Outcome → Entry
method_entry began s o m q = record {
  began = began;
  side = s;
  object = number_of o;
  op = op_of m;
  key = key_of_method m;
  given = given_of m;
  answer = said_outcome q;
}

-- the access of a collection by the built-in at place p
abbrev pub access_entry : ℕ → ℕ → ℕ → Val → Request → Outcome → Entry
access_entry began s p c a q = record {
  began = began;
  side = s;
  object = number_of c;
  op = Collect p;
  key = None;
  given = given_of_access a;
  answer = said_outcome q;
}

abbrev pub with_entry : Entry → Graph → Graph
with_entry e g = record g { log = g.log ++ (Traced e ∷ []) }

-- a side's method on an object makes an entry where the object is foreign, and where the method stands for itself
abbrev pub makes_entry : Bool → ℕ → Val → Graph → Bool
makes_entry enters s o g = enters && is_foreign_at s (thing_at g o)

-- the entry of a method that ended
abbrev pub method_noted : ℕ → ℕ → Val → Method → Outcome → Graph → Graph
method_noted began s o m q g = with_entry (method_entry began s o m q) g

-- the entry of an access that ended
abbrev pub access_noted : ℕ → ℕ → ℕ → Val → Request → Outcome → Graph → Graph
access_noted began s p c a q g = with_entry (access_entry began s p c a q) g
