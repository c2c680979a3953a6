use Rattle.std.specs.Prelude.{ℕ, List, [], ◌∷◌, ◌++◌, map, Bool, true, false, not, ◌||◌, Option, Some, None, is_some, if◌then◌else◌}
use Rattle.mb_desc.specs.declared.descriptor.Desc.{Desc}
use Rattle.mb_desc.specs.declared.descriptor.Full.{Full}
use Rattle.mb_desc.specs.declared.descriptor.Full.TheVariants.{Datum, Accessor}
use Rattle.mb_world.specs.Value.{Val, is_object, is_undefined, is_null, is_nullish}
use Rattle.mb_world.specs.Key.{PropertyKey, value_of_key, symbols_only, texts_only}
use Rattle.mb_desc.specs.Descriptors.{property_is, is_writable, no_fields, descriptor_of, is_enumerable, is_configurable}
use Rattle.mb_world.specs.Standard.{object_prototype}
use Rattle.mb_model.specs.Task.{GetPrototypeOf, SetPrototypeOf, IsExtensible, PreventExtensions, GetOwnProperty, DefineOwnProperty, OwnPropertyKeys, Answer, Nothing, Value}
use Rattle.mb_model.specs.Writing.{Does, ◌>>=◌, give, answer, pay, pay_each, flag, property, keys, perform, type_error, unless_type_error, truth}
use Rattle.mb_model.specs.Operations.Makings.{make_plain}
use Rattle.mb_model.specs.Operations.Descriptors.{todesc, fromdesc}
use Rattle.mb_model.specs.BuiltIns.Arguments.{arg, key_arg, need_object, undefined, made_prototype, array_of}

-- Object and its members (ECMA-262 20.1)

abbrev pub plain_from : ℕ → Val → Does Answer
plain_from s p = do
  o ← make_plain s None p
  give (Value o)

abbrev pub object_made : ℕ → Val → Val → Does Answer
object_made s own target = do
  p ← made_prototype s own object_prototype target
  plain_from s p

-- Object (ECMA-262 20.1.1.1)
abbrev pub object_fn : ℕ → Val → Val → Val → Does Answer
object_fn s own target v =
    if is_object v then give (Value v)
    else if is_nullish v then object_made s own target
    else type_error s

abbrev pub object_create : ℕ → List Val → Does Answer
object_create s vs = do
  _ ← unless_type_error s (is_object (arg vs 0) || is_null (arg vs 0))
  _ ← unless_type_error s (is_undefined (arg vs 1))
  plain_from s (arg vs 0)

abbrev pub with_key : PropertyKey → List Val → Option (Full Val) → List Val
with_key k out p = if property_is is_enumerable p then out ++ (value_of_key k ∷ []) else out

abbrev pub enumerable_keys : ℕ → Val → List Val → List PropertyKey → Does Answer
enumerable_keys s o out [] = array_of s out
enumerable_keys s o out (k ∷ ks) = do
  _ ← pay 1
  p ← property (perform s (GetOwnProperty k) o)
  enumerable_keys s o (with_key k out p) ks

-- Object.keys (ECMA-262 20.1.2.18), of the keys that are texts
abbrev pub object_keys : ℕ → Val → Does Answer
object_keys s o = do
  _ ← need_object s o
  ks ← keys (perform s OwnPropertyKeys o)
  enumerable_keys s o [] (texts_only ks)

abbrev pub symbols_array : ℕ → List PropertyKey → Does Answer
symbols_array s ks = do
  _ ← pay_each ks
  array_of s (map value_of_key (symbols_only ks))

-- Object.getOwnPropertySymbols (ECMA-262 20.1.2.11)
abbrev pub own_symbols : ℕ → Val → Does Answer
own_symbols s o = do
  _ ← need_object s o
  ks ← keys (perform s OwnPropertyKeys o)
  symbols_array s ks

abbrev pub sealing : Desc Val
sealing = record no_fields { configurable = Some false }

abbrev pub freezing : Full Val → Desc Val
freezing (Datum v w e c) = record no_fields { configurable = Some false; writable = Some false }
freezing (Accessor g h e c) = sealing

-- a change was asked: it must be done
abbrev pub must_define : ℕ → Val → PropertyKey → Desc Val → Does Answer
must_define s o k d = do
  b ← flag (perform s (DefineOwnProperty k d) o)
  unless_type_error s b

abbrev pub freeze_found : ℕ → Val → PropertyKey → Option (Full Val) → Does Answer
freeze_found s o k None = give Nothing
freeze_found s o k (Some p) = must_define s o k (freezing p)

-- SetIntegrityLevel (ECMA-262 7.3.16)
abbrev pub settle_key : ℕ → Val → Bool → PropertyKey → Does Answer
settle_key s o true k = do
  p ← property (perform s (GetOwnProperty k) o)
  freeze_found s o k p
settle_key s o false k = must_define s o k sealing

abbrev pub settle_keys : ℕ → Val → Bool → List PropertyKey → Does Answer
settle_keys s o frozen [] = give (Value o)
settle_keys s o frozen (k ∷ ks) = do
  _ ← pay 1
  _ ← settle_key s o frozen k
  settle_keys s o frozen ks

abbrev pub settle_closed : ℕ → Val → Bool → Bool → Does Answer
settle_closed s o frozen closed = do
  _ ← unless_type_error s closed
  ks ← keys (perform s OwnPropertyKeys o)
  settle_keys s o frozen ks

abbrev pub settle_object : ℕ → Val → Bool → Does Answer
settle_object s o frozen = do
  closed ← flag (perform s PreventExtensions o)
  settle_closed s o frozen closed

-- Object.freeze, Object.seal (ECMA-262 20.1.2.6, 20.1.2.21)
abbrev pub settle : ℕ → Bool → Val → Does Answer
settle s frozen o = if is_object o then settle_object s o frozen else give (Value o)

abbrev pub is_loose : Full Val → Bool
is_loose p = is_configurable p || is_writable p

abbrev pub frozen_key : Does Answer → Option (Full Val) → Does Answer
frozen_key more p = if property_is is_loose p then truth false else more

-- TestIntegrityLevel (ECMA-262 7.3.17)
abbrev pub frozen_keys : ℕ → Val → List PropertyKey → Does Answer
frozen_keys s o [] = truth true
frozen_keys s o (k ∷ ks) = do
  _ ← pay 1
  p ← property (perform s (GetOwnProperty k) o)
  frozen_key (frozen_keys s o ks) p

abbrev pub frozen_open : ℕ → Val → Bool → Does Answer
frozen_open s o true = truth false
frozen_open s o false = do
  ks ← keys (perform s OwnPropertyKeys o)
  frozen_keys s o ks

abbrev pub frozen_object : ℕ → Val → Does Answer
frozen_object s o = do
  e ← flag (perform s IsExtensible o)
  frozen_open s o e

-- Object.isFrozen (ECMA-262 20.1.2.16)
abbrev pub is_frozen : ℕ → Val → Does Answer
is_frozen s o = if is_object o then frozen_object s o else truth true

abbrev pub get_prototype_of : ℕ → Val → Does Answer
get_prototype_of s o = do
  _ ← need_object s o
  answer (perform s GetPrototypeOf o)

abbrev pub given_back : ℕ → Val → Bool → Does Answer
given_back s o b = do
  _ ← unless_type_error s b
  give (Value o)

abbrev pub object_set_prototype : ℕ → Val → Val → Does Answer
object_set_prototype s o p = do
  b ← flag (perform s (SetPrototypeOf p) o)
  given_back s o b

-- Object.setPrototypeOf (ECMA-262 20.1.2.22)
abbrev pub object_set_prototype_of : ℕ → Val → Val → Does Answer
object_set_prototype_of s o p = do
  _ ← unless_type_error s (is_object p || is_null p)
  _ ← unless_type_error s (not (is_nullish o))
  if is_object o then object_set_prototype s o p else give (Value o)

abbrev pub object_define : ℕ → Val → PropertyKey → Desc Val → Does Answer
object_define s o k d = do
  b ← flag (perform s (DefineOwnProperty k d) o)
  given_back s o b

-- Object.defineProperty (ECMA-262 20.1.2.4)
abbrev pub object_define_property : ℕ → List Val → Does Answer
object_define_property s vs = do
  _ ← need_object s (arg vs 0)
  k ← key_arg s vs 1
  d ← todesc s (arg vs 2)
  object_define s (arg vs 0) k d

abbrev pub described : ℕ → Option (Full Val) → Does Answer
described s None = undefined
described s (Some p) = do
  o ← fromdesc s (descriptor_of p)
  give (Value o)

-- Object.getOwnPropertyDescriptor (ECMA-262 20.1.2.8), which is Reflect's too here
abbrev pub get_own_descriptor : ℕ → List Val → Does Answer
get_own_descriptor s vs = do
  _ ← need_object s (arg vs 0)
  k ← key_arg s vs 1
  p ← property (perform s (GetOwnProperty k) (arg vs 0))
  described s p

abbrev pub has_own : ℕ → Val → List Val → Does Answer
has_own s o vs = do
  _ ← need_object s o
  k ← key_arg s vs 0
  p ← property (perform s (GetOwnProperty k) o)
  truth (is_some p)
