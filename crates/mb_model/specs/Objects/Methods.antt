use Rattle.std.specs.Prelude.{ℕ, List, [], ◌∷◌, Bool, true, false, Option, Some, None, if◌then◌else◌, codes}
use Rattle.mb_desc.specs.declared.descriptor.Full.{Full}
use Rattle.mb_desc.specs.declared.descriptor.Full.TheVariants.{Datum, Accessor}
use Rattle.mb_world.specs.Value.{Val, Undefined, is_object, is_undefined, same_value}
use Rattle.mb_world.specs.Key.{PropertyKey, Named}
use Rattle.mb_world.specs.Property.{open_property}
use Rattle.mb_desc.specs.Descriptors.{value_alone, descriptor_of}
use Rattle.mb_world.specs.Graph.{Graph, Thing, Kind, Function, Standard, Revoker}
use Rattle.mb_world.specs.Standard.{object_prototype}
use Rattle.mb_world.specs.Objects.{thing_at}
use Rattle.mb_world.specs.Ordinary.{Defined, Refused, Becomes, Faulty, closed, with_prototype, prototype_answered, walk_stops, Look, Found, Upward, looked, Writing, RefuseWrite, WriteAbove, StoreInReceiver, CallSetter, written, Deleted, Leaves, Without, deleted}
use Rattle.mb_world.specs.Arrays.{defined, element_stored}
use Rattle.mb_world.specs.View.{shown_property, shown_keys, Change, Proto, Prevent, Define, Write, Remove, Ruling, Free, Decided, Admits}
use Rattle.mb_model.specs.Task.{Walk, Enter, Run, Answer, Value, Prop, Keys, Method, GetPrototypeOf, SetPrototypeOf, IsExtensible, PreventExtensions, GetOwnProperty, DefineOwnProperty, HasProperty, Get, Set, Delete, OwnPropertyKeys, Call, Construct}
use Rattle.mb_model.specs.Writing.{yes_or_no, Does, ◌>>=◌, give, again, turn, pay_each, look, answer, value, property, perform, fail, type_error}
use Rattle.mb_model.specs.Operations.Makings.{make_plain, alter}
use Rattle.mb_model.specs.Operations.Calls.{get}

-- the internal methods of ordinary objects, arrays and functions (ECMA-262 10.1 to 10.4), as the policy admits them.
-- What they make of one object stands in mb_world: Ordinary, Arrays

-- ---- definitions (ECMA-262 10.1.6, 10.4.2.1)

-- what a definition makes of an object takes its place
abbrev pub settled : ℕ → Val → Defined → Does Answer
settled s o Refused = yes_or_no false
settled s o (Becomes t b) = do
  _ ← alter o (λ u. t)
  yes_or_no b
settled s o (Faulty kind) = fail s kind

abbrev pub stored_in : ℕ → Val → ℕ → Val → Option Thing → Does Answer
stored_in s a n v None = yes_or_no false
stored_in s a n v (Some t) = settled s a (element_stored t n v)

-- CreateDataProperty of an element (ECMA-262 7.3.5) on an array that a row made; what it answers is left aside
abbrev pub store_element : ℕ → Val → ℕ → Val → Does Answer
store_element s a n v = do
  t ← look (λ g. thing_at g a)
  stored_in s a n v t

-- ---- the walk of setPrototypeOf (ECMA-262 10.1.2.1, step 7): 1 for each object; it goes through the membrane until
-- that is revoked

abbrev pub owner_of : Option Thing → Option ℕ
owner_of None = None
owner_of (Some t) = t.owner

-- o is the object whose prototype is set, x the thing that is visited
abbrev pub walk_ends : Graph → Val → Thing → Bool
walk_ends g o x = walk_stops g.revoked (owner_of (thing_at g o)) x

abbrev pub prototype_set : Val → Val → Does Answer
prototype_set o p = do
  _ ← alter o (with_prototype p)
  yes_or_no true

abbrev pub walk_from : Val → Val → Val → Thing → Bool → Does Answer
walk_from o p x t last =
    if same_value x o then yes_or_no false
    else if last then prototype_set o p
    else again (Walk o p t.prototype)

abbrev pub walk_at : Val → Val → Val → Option Thing → Does Answer
walk_at o p x None = prototype_set o p
walk_at o p x (Some t) = do
  _ ← turn
  last ← look (λ g. walk_ends g o t)
  walk_from o p x t last

-- the row of `Walk`: x is the next object, if it is one
abbrev pub walk_row : Val → Val → Val → Does Answer
walk_row o p x = do
  t ← look (λ g. thing_at g x)
  walk_at o p x t

abbrev pub walk_unless : Val → Val → Option Bool → Does Answer
walk_unless o p (Some b) = yes_or_no b
walk_unless o p None = walk_row o p p

-- OrdinarySetPrototypeOf (ECMA-262 10.1.2.1)
abbrev pub ordinary_set_prototype : Val → Thing → Val → Does Answer
ordinary_set_prototype o t p = walk_unless o p (prototype_answered t p)

-- ---- has, get, set, delete (ECMA-262 10.1.7 to 10.1.10)

-- a method goes on at the prototype
abbrev pub parent_has : ℕ → PropertyKey → Val → Does Answer
parent_has s k p = if is_object p then answer (perform s (HasProperty k) p) else yes_or_no false

-- OrdinaryHasProperty (ECMA-262 10.1.7.1)
abbrev pub ordinary_has : ℕ → PropertyKey → Look → Does Answer
ordinary_has s k (Found p) = yes_or_no true
ordinary_has s k (Upward parent) = parent_has s k parent

abbrev pub parent_get : ℕ → PropertyKey → Val → Val → Does Answer
parent_get s k r p = if is_object p then answer (perform s (Get k r) p) else give (Value Undefined)

abbrev pub call_getter : ℕ → Val → Val → Does Answer
call_getter s r f = if is_undefined f then give (Value Undefined) else answer (perform s (Call r []) f)

-- OrdinaryGet (ECMA-262 10.1.8.1)
abbrev pub ordinary_get : ℕ → PropertyKey → Val → Look → Does Answer
ordinary_get s k r (Found (Datum v w e c)) = give (Value v)
ordinary_get s k r (Found (Accessor f h e c)) = call_getter s r f
ordinary_get s k r (Upward parent) = parent_get s k r parent

-- what the receiver has was read (ECMA-262 10.1.9.2, steps 2.c to 2.e)
abbrev pub receiver_has : ℕ → PropertyKey → Val → Val → Option (Full Val) → Does Answer
receiver_has s k v r None = answer (perform s (DefineOwnProperty k (descriptor_of (open_property v))) r)
receiver_has s k v r (Some (Datum x true e c)) = answer (perform s (DefineOwnProperty k (value_alone v)) r)
receiver_has s k v r (Some (Datum x false e c)) = yes_or_no false
receiver_has s k v r (Some (Accessor f h e c)) = yes_or_no false

abbrev pub store_in : ℕ → PropertyKey → Val → Val → Does Answer
store_in s k v r = do
  d ← property (perform s (GetOwnProperty k) r)
  receiver_has s k v r d

abbrev pub store : ℕ → PropertyKey → Val → Val → Does Answer
store s k v r = if is_object r then store_in s k v r else yes_or_no false

abbrev pub call_setter : ℕ → Val → Val → Val → Does Answer
call_setter s r v f = do
  _ ← answer (perform s (Call r (v ∷ [])) f)
  yes_or_no true

-- OrdinarySetWithOwnDescriptor (ECMA-262 10.1.9.2)
abbrev pub ordinary_set : ℕ → PropertyKey → Val → Val → Writing → Does Answer
ordinary_set s k v r RefuseWrite = yes_or_no false
ordinary_set s k v r (WriteAbove parent) = answer (perform s (Set k v r) parent)
ordinary_set s k v r StoreInReceiver = store s k v r
ordinary_set s k v r (CallSetter f) = call_setter s r v f

-- OrdinaryDelete (ECMA-262 10.1.10.1)
abbrev pub ordinary_delete : Val → Deleted → Does Answer
ordinary_delete o (Leaves b) = yes_or_no b
ordinary_delete o (Without t) = do
  _ ← alter o (λ u. t)
  yes_or_no true

-- ---- [[Call]] and [[Construct]] (ECMA-262 10.2.1, 10.2.2, 10.3.1, 10.3.2)

abbrev pub call_kind : ℕ → Val → Val → List Val → Kind → Does Answer
call_kind s o this vs (Function c) = answer (Enter o this vs)
call_kind s o this vs (Revoker p) = answer (Enter o this vs)
call_kind s o this vs (Standard p) = answer (Run s p this vs Undefined)
call_kind s o this vs _ = type_error s

-- what a constructor's body gave
abbrev pub constructed : Val → Val → Does Answer
constructed new v = if is_object v then give (Value v) else give (Value new)

-- the new target's prototype was got (ECMA-262 10.1.14 GetPrototypeFromConstructor)
abbrev pub construct_with : ℕ → Val → Option (List ℕ) → List Val → Val → Does Answer
construct_with t o label vs p = do
  new ← make_plain t label (if is_object p then p else object_prototype)
  v ← value (Enter o new vs)
  constructed new v

abbrev pub construct_kind : ℕ → Val → Thing → List Val → Val → Kind → Does Answer
construct_kind s o t vs target (Function c) = do
  p ← get c.side target (Named (codes "prototype"))
  construct_with c.side o t.label vs p
construct_kind s o t vs target (Standard p) = answer (Run s p Undefined vs target)
construct_kind s o t vs target _ = type_error s

-- ---- one method of an object that is no script-made Proxy

abbrev pub list_keys : List PropertyKey → Does Answer
list_keys ks = do
  _ ← pay_each ks
  give (Keys ks)

-- by the acting side s, where p is what the viewing side sees at the method's key
abbrev pub ordinary : ℕ → ℕ → Val → Thing → Method → Does Answer
ordinary s v o t GetPrototypeOf = give (Value t.prototype)
ordinary s v o t (SetPrototypeOf p) = ordinary_set_prototype o t p
ordinary s v o t IsExtensible = yes_or_no t.extensible
ordinary s v o t PreventExtensions = do
  _ ← alter o closed
  yes_or_no true
ordinary s v o t (GetOwnProperty k) = do
  p ← look (λ g. shown_property g v t k)
  give (Prop p)
ordinary s v o t (DefineOwnProperty k d) = settled s o (defined t k d)
ordinary s v o t (HasProperty k) = do
  p ← look (λ g. shown_property g v t k)
  ordinary_has s k (looked t.prototype p)
ordinary s v o t (Get k r) = do
  p ← look (λ g. shown_property g v t k)
  ordinary_get s k r (looked t.prototype p)
ordinary s v o t (Set k x r) = do
  p ← look (λ g. shown_property g v t k)
  ordinary_set s k x r (written t.prototype p)
ordinary s v o t (Delete k) = do
  p ← look (λ g. shown_property g v t k)
  ordinary_delete o (deleted t k p)
ordinary s v o t OwnPropertyKeys = do
  ks ← look (λ g. shown_keys g v t)
  list_keys ks
ordinary s v o t (Call this vs) = call_kind s o this vs t.kind
ordinary s v o t (Construct vs target) = construct_kind s o t vs target t.kind

-- the change that a method asks, if it asks one
abbrev pub change_of : Method → Option Change
change_of (SetPrototypeOf p) = Some (Proto p)
change_of PreventExtensions = Some Prevent
change_of (DefineOwnProperty k d) = Some (Define k)
change_of (Set k x r) = Some (Write k)
change_of (Delete k) = Some (Remove k)
change_of _ = None

abbrev pub ruling : Graph → ℕ → Thing → Option Change → Ruling
ruling g v t None = Free
ruling g v t (Some c) = Admits g v t c

-- what the policy decides is the answer
abbrev pub ruled : ℕ → ℕ → Val → Thing → Method → Ruling → Does Answer
ruled s v o t m Free = ordinary s v o t m
ruled s v o t m (Decided b) = yes_or_no b

abbrev pub method : ℕ → ℕ → Val → Thing → Method → Does Answer
method s v o t m = do
  r ← look (λ g. ruling g v t (change_of m))
  ruled s v o t m r
