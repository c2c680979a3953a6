use Rattle.std.specs.Prelude.{ℕ, List, [], ◌∷◌, ◌++◌, Bool, true, false, ◌||◌, Option, Some, None, if◌then◌else◌}
use Rattle.mb_desc.specs.declared.descriptor.Desc.{Desc}
use Rattle.mb_desc.specs.declared.descriptor.Full.{Full}
use Rattle.mb_world.specs.Value.{Val, Undefined, is_object, is_null, is_nullish, to_boolean}
use Rattle.mb_world.specs.Key.{PropertyKey, Named, key_of, value_of_key}
use Rattle.mb_desc.specs.Descriptors.{Complete, is_fixed, property_is}
use Rattle.mb_world.specs.Objects.{is_callable}
use Rattle.mb_model.specs.Objects.Rules as rule
use Rattle.mb_check.specs.declared.verdict.Verdict.{Verdict}
use Rattle.mb_check.specs.declared.verdict.Verdict.TheVariants.{Pass, Broken}
use Rattle.mb_world.specs.EntryLine.{op_name}
use Rattle.mb_model.specs.Trace.Ops.{op_of}
use Rattle.mb_model.specs.Task.{Perform, Answer, Nothing, Value, Flag, Prop, Keys, Method, GetPrototypeOf, SetPrototypeOf, IsExtensible, PreventExtensions, GetOwnProperty, DefineOwnProperty, HasProperty, Get, Set, Delete, OwnPropertyKeys, Call, Construct}
use Rattle.mb_model.specs.Writing.{yes_or_no, Does, ◌>>=◌, give, look, answer, value, flag, property, keys, perform, type_error, unless_type_error}
use Rattle.mb_model.specs.Operations.Makings.{make_array}
use Rattle.mb_model.specs.Operations.Calls.{call, get, list_of}
use Rattle.mb_model.specs.Operations.Descriptors.{todesc, fromdesc}

-- the internal methods of script-made Proxies (ECMA-262 10.5). Here p is the Proxy's owner, who acts once a trap is
-- looked up, and t is the target

-- the answer stands, unless a rule is broken
abbrev pub judge : ℕ → Verdict → Answer → Does Answer
judge p Pass a = give a
judge p (Broken n) a = type_error p

abbrev pub read_extensible : ℕ → Val → Does Bool
read_extensible p t = flag (perform p IsExtensible t)

abbrev pub read_own : ℕ → Val → PropertyKey → Does (Option (Full Val))
read_own p t k = property (perform p (GetOwnProperty k) t)

-- [[GetPrototypeOf]] (ECMA-262 10.5.1)
abbrev pub prototype_read : ℕ → Val → Val → Does Answer
prototype_read p said real = judge p (rule.get_prototype said (Some real)) (Value said)

abbrev pub prototype_extensible : ℕ → Val → Val → Bool → Does Answer
prototype_extensible p t said true = judge p (rule.get_prototype said None) (Value said)
prototype_extensible p t said false = do
  real ← value (perform p GetPrototypeOf t)
  prototype_read p said real

abbrev pub prototype_said : ℕ → Val → Val → Does Answer
prototype_said p t said = do
  _ ← unless_type_error p (is_object said || is_null said)
  extensible ← read_extensible p t
  prototype_extensible p t said extensible

-- [[SetPrototypeOf]] (ECMA-262 10.5.2)
abbrev pub set_prototype_read : ℕ → Val → Val → Does Answer
set_prototype_read p given real = judge p (rule.set_prototype given (Some real)) (Flag true)

abbrev pub set_prototype_extensible : ℕ → Val → Val → Bool → Does Answer
set_prototype_extensible p t given true = judge p (rule.set_prototype given None) (Flag true)
set_prototype_extensible p t given false = do
  real ← value (perform p GetPrototypeOf t)
  set_prototype_read p given real

abbrev pub set_prototype_said : ℕ → Val → Val → Bool → Does Answer
set_prototype_said p t given false = yes_or_no false
set_prototype_said p t given true = do
  extensible ← read_extensible p t
  set_prototype_extensible p t given extensible

-- [[IsExtensible]] (ECMA-262 10.5.3)
abbrev pub extensible_read : ℕ → Bool → Bool → Does Answer
extensible_read p said real = judge p (rule.is_extensible said real) (Flag said)

abbrev pub extensible_said : ℕ → Val → Bool → Does Answer
extensible_said p t said = do
  real ← read_extensible p t
  extensible_read p said real

-- [[PreventExtensions]] (ECMA-262 10.5.4)
abbrev pub prevent_read : ℕ → Bool → Does Answer
prevent_read p extensible = judge p (rule.prevent_extensions extensible) (Flag true)

abbrev pub prevent_said : ℕ → Val → Bool → Does Answer
prevent_said p t false = yes_or_no false
prevent_said p t true = do
  extensible ← read_extensible p t
  prevent_read p extensible

-- what a property that is said to be absent asks of the target. Where the target has none, no rule is broken. Else the
-- first rule, which asks no flag, is judged alone before isExtensible is read: with `true` no other rule is broken
abbrev pub absent_extensible : ℕ → (Bool → Verdict) → Answer → Bool → Does Answer
absent_extensible p verdict a extensible = judge p (verdict extensible) a

abbrev pub absent_read : ℕ → Val → (Option (Full Val) → Bool → Verdict) → Answer → Option (Full Val) → Does Answer
absent_read p t verdict a None = judge p (verdict None true) a
absent_read p t verdict a (Some real) = do
  _ ← judge p (verdict (Some real) true) a
  extensible ← read_extensible p t
  absent_extensible p (verdict (Some real)) a extensible

abbrev pub absent_said : ℕ → Val → PropertyKey → (Option (Full Val) → Bool → Verdict) → Answer → Does Answer
absent_said p t k verdict a = do
  real ← read_own p t k
  absent_read p t verdict a real

-- [[GetOwnProperty]] (ECMA-262 10.5.5)
abbrev pub own_extensible : ℕ → Full Val → Option (Full Val) → Bool → Does Answer
own_extensible p said real extensible = judge p (rule.own_present said real extensible) (Prop (Some said))

abbrev pub own_read : ℕ → Val → Full Val → Option (Full Val) → Does Answer
own_read p t said real = do
  extensible ← read_extensible p t
  own_extensible p said real extensible

abbrev pub own_converted : ℕ → Val → PropertyKey → Desc Val → Does Answer
own_converted p t k d = do
  real ← read_own p t k
  own_read p t (Complete Undefined d) real

abbrev pub own_present_said : ℕ → Val → PropertyKey → Val → Does Answer
own_present_said p t k said = do
  d ← todesc p said
  own_converted p t k d

abbrev pub own_said : ℕ → Val → PropertyKey → Val → Does Answer
own_said p t k Undefined = absent_said p t k rule.own_absent (Prop None)
own_said p t k said = if is_object said then own_present_said p t k said else type_error p

-- [[DefineOwnProperty]] (ECMA-262 10.5.6)
abbrev pub define_extensible : ℕ → Desc Val → Option (Full Val) → Bool → Does Answer
define_extensible p d real extensible = judge p (rule.define d real extensible) (Flag true)

abbrev pub define_read : ℕ → Val → Desc Val → Option (Full Val) → Does Answer
define_read p t d real = do
  extensible ← read_extensible p t
  define_extensible p d real extensible

abbrev pub define_said : ℕ → Val → PropertyKey → Desc Val → Bool → Does Answer
define_said p t k d false = yes_or_no false
define_said p t k d true = do
  real ← read_own p t k
  define_read p t d real

-- [[HasProperty]] (ECMA-262 10.5.7)
abbrev pub has_said : ℕ → Val → PropertyKey → Bool → Does Answer
has_said p t k true = yes_or_no true
has_said p t k false = absent_said p t k rule.has_not (Flag false)

-- [[Get]] (ECMA-262 10.5.8)
abbrev pub get_read : ℕ → Val → Option (Full Val) → Does Answer
get_read p said real = judge p (rule.get said real) (Value said)

abbrev pub get_said : ℕ → Val → PropertyKey → Val → Does Answer
get_said p t k said = do
  real ← read_own p t k
  get_read p said real

-- [[Set]] (ECMA-262 10.5.9)
abbrev pub set_read : ℕ → Val → Option (Full Val) → Does Answer
set_read p given real = judge p (rule.set given real) (Flag true)

abbrev pub set_said : ℕ → Val → PropertyKey → Val → Bool → Does Answer
set_said p t k given false = yes_or_no false
set_said p t k given true = do
  real ← read_own p t k
  set_read p given real

-- [[Delete]] (ECMA-262 10.5.10)
abbrev pub delete_said : ℕ → Val → PropertyKey → Bool → Does Answer
delete_said p t k false = yes_or_no false
delete_said p t k true = absent_said p t k rule.delete (Flag true)

-- [[OwnPropertyKeys]] (ECMA-262 10.5.11): the target's keys are parted into those that are fixed and the others
pub record Parted : Type 0 where
  pub fixed : List PropertyKey
  pub loose : List PropertyKey

-- a key was read, and what the target has there
abbrev pub with_parted : PropertyKey → Parted → Option (Full Val) → Parted
with_parted k x real =
    if property_is is_fixed real then record x { fixed = x.fixed ++ (k ∷ []) }
    else record x { loose = x.loose ++ (k ∷ []) }

abbrev pub keys_parted : ℕ → Val → List PropertyKey → Bool → List PropertyKey → Parted → Does Answer
keys_parted p t said extensible [] x = judge p (rule.own_keys said x.fixed x.loose extensible) (Keys said)
keys_parted p t said extensible (k ∷ ks) x = do
  real ← read_own p t k
  keys_parted p t said extensible ks (with_parted k x real)

abbrev pub keys_read : ℕ → Val → List PropertyKey → Bool → List PropertyKey → Does Answer
keys_read p t said extensible ks = keys_parted p t said extensible ks (record { fixed = []; loose = [] })

abbrev pub keys_extensible : ℕ → Val → List PropertyKey → Bool → Does Answer
keys_extensible p t said extensible = do
  ks ← keys (perform p OwnPropertyKeys t)
  keys_read p t said extensible ks

abbrev pub key_and : Option PropertyKey → List PropertyKey → List PropertyKey
key_and None ks = ks
key_and (Some k) ks = k ∷ ks

-- the keys that texts and symbols are
abbrev pub as_keys : List Val → List PropertyKey
as_keys [] = []
as_keys (v ∷ vs) = key_and (key_of v) (as_keys vs)

abbrev pub keys_listed : ℕ → Val → List PropertyKey → Does Answer
keys_listed p t said = do
  _ ← judge p (rule.own_keys said [] [] true) Nothing
  extensible ← read_extensible p t
  keys_extensible p t said extensible

abbrev pub keys_said : ℕ → Val → Val → Does Answer
keys_said p t said = do
  vs ← list_of p true said
  keys_listed p t (as_keys vs)

-- [[Construct]] (ECMA-262 10.5.13)
abbrev pub construct_said : ℕ → Val → Does Answer
construct_said p said = judge p (rule.construct said) (Value said)

-- a trap is called with the handler as `this` and the target first
abbrev pub trap_value : ℕ → Val → Val → Val → List Val → Does Val
trap_value p t h trap vs = call p trap h (t ∷ vs)

abbrev pub trap_flag : ℕ → Val → Val → Val → List Val → Does Bool
trap_flag p t h trap vs = do
  v ← trap_value p t h trap vs
  give (to_boolean v)

abbrev pub trapped : ℕ → Val → Val → Val → Method → Does Answer
trapped p t h trap GetPrototypeOf = do
  said ← trap_value p t h trap []
  prototype_said p t said
trapped p t h trap (SetPrototypeOf given) = do
  said ← trap_flag p t h trap (given ∷ [])
  set_prototype_said p t given said
trapped p t h trap IsExtensible = do
  said ← trap_flag p t h trap []
  extensible_said p t said
trapped p t h trap PreventExtensions = do
  said ← trap_flag p t h trap []
  prevent_said p t said
trapped p t h trap (GetOwnProperty k) = do
  said ← trap_value p t h trap (value_of_key k ∷ [])
  own_said p t k said
trapped p t h trap (DefineOwnProperty k d) = do
  o ← fromdesc p d
  said ← trap_flag p t h trap (value_of_key k ∷ o ∷ [])
  define_said p t k d said
trapped p t h trap (HasProperty k) = do
  said ← trap_flag p t h trap (value_of_key k ∷ [])
  has_said p t k said
trapped p t h trap (Get k r) = do
  said ← trap_value p t h trap (value_of_key k ∷ r ∷ [])
  get_said p t k said
trapped p t h trap (Set k x r) = do
  said ← trap_flag p t h trap (value_of_key k ∷ x ∷ r ∷ [])
  set_said p t k x said
trapped p t h trap (Delete k) = do
  said ← trap_flag p t h trap (value_of_key k ∷ [])
  delete_said p t k said
trapped p t h trap OwnPropertyKeys = do
  said ← trap_value p t h trap []
  keys_said p t said
trapped p t h trap (Call this vs) = do
  a ← make_array p vs
  said ← trap_value p t h trap (this ∷ a ∷ [])
  give (Value said)
trapped p t h trap (Construct vs target) = do
  a ← make_array p vs
  said ← trap_value p t h trap (a ∷ target ∷ [])
  construct_said p said

abbrev pub call_trap : ℕ → Val → Val → Val → Method → Bool → Does Answer
call_trap p t h trap m false = type_error p
call_trap p t h trap m true = trapped p t h trap m

abbrev pub trap_callable : ℕ → Val → Val → Val → Method → Does Answer
trap_callable p t h trap m = do
  c ← look (λ g. is_callable g trap)
  call_trap p t h trap m c

-- the trap was looked up; without one the target's method is performed with the owner's view, and makes no entry
abbrev pub trap_got : ℕ → ℕ → Val → Val → Method → Val → Does Answer
trap_got s p t h m trap = if is_nullish trap then answer (Perform s m t p false) else trap_callable p t h trap m

abbrev pub proxy_method : ℕ → ℕ → Val → Val → Method → Does Answer
proxy_method s p t h m = do
  trap ← get p h (Named (op_name (op_of m)))
  trap_got s p t h m trap
