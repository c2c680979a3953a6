use Rattle.std.specs.Prelude.{ℕ, List, map, false, ◌||◌}
use Rattle.mb_world.specs.Value.{Val, is_object, is_null}
use Rattle.mb_world.specs.Key.{PropertyKey, value_of_key}
use Rattle.mb_model.specs.Task.{SetPrototypeOf, IsExtensible, PreventExtensions, DefineOwnProperty, HasProperty, Get, Set, Delete, OwnPropertyKeys, Call, Construct, Answer}
use Rattle.mb_model.specs.Writing.{Does, ◌>>=◌, answer, pay_each, keys, perform, unless_type_error}
use Rattle.mb_model.specs.Operations.Calls.{list_of}
use Rattle.mb_model.specs.Operations.Descriptors.{todesc}
use Rattle.mb_model.specs.BuiltIns.Arguments.{arg, arg_or, key_arg, need_object, need_callable, need_constructor, flag_row, array_of}

-- the members of Reflect (ECMA-262 28.1)

abbrev pub apply_listed : ℕ → Val → Val → List Val → Does Answer
apply_listed s f this vs = answer (perform s (Call this vs) f)

abbrev pub reflect_apply : ℕ → List Val → Does Answer
reflect_apply s vs = do
  _ ← need_callable s (arg vs 0)
  ws ← list_of s false (arg vs 2)
  apply_listed s (arg vs 0) (arg vs 1) ws

abbrev pub construct_listed : ℕ → Val → Val → List Val → Does Answer
construct_listed s f target vs = answer (perform s (Construct vs target) f)

abbrev pub reflect_construct : ℕ → List Val → Does Answer
reflect_construct s vs = do
  _ ← need_constructor s (arg vs 0)
  _ ← need_constructor s (arg_or vs 2 (arg vs 0))
  ws ← list_of s false (arg vs 1)
  construct_listed s (arg vs 0) (arg_or vs 2 (arg vs 0)) ws

abbrev pub reflect_define : ℕ → List Val → Does Answer
reflect_define s vs = do
  _ ← need_object s (arg vs 0)
  k ← key_arg s vs 1
  d ← todesc s (arg vs 2)
  flag_row s (DefineOwnProperty k d) (arg vs 0)

abbrev pub reflect_delete : ℕ → List Val → Does Answer
reflect_delete s vs = do
  _ ← need_object s (arg vs 0)
  k ← key_arg s vs 1
  flag_row s (Delete k) (arg vs 0)

abbrev pub reflect_get : ℕ → List Val → Does Answer
reflect_get s vs = do
  _ ← need_object s (arg vs 0)
  k ← key_arg s vs 1
  answer (perform s (Get k (arg_or vs 2 (arg vs 0))) (arg vs 0))

abbrev pub reflect_has : ℕ → List Val → Does Answer
reflect_has s vs = do
  _ ← need_object s (arg vs 0)
  k ← key_arg s vs 1
  flag_row s (HasProperty k) (arg vs 0)

abbrev pub reflect_is_extensible : ℕ → Val → Does Answer
reflect_is_extensible s o = do
  _ ← need_object s o
  flag_row s IsExtensible o

abbrev pub keys_array : ℕ → List PropertyKey → Does Answer
keys_array s ks = do
  _ ← pay_each ks
  array_of s (map value_of_key ks)

abbrev pub reflect_own_keys : ℕ → Val → Does Answer
reflect_own_keys s o = do
  _ ← need_object s o
  ks ← keys (perform s OwnPropertyKeys o)
  keys_array s ks

abbrev pub reflect_prevent : ℕ → Val → Does Answer
reflect_prevent s o = do
  _ ← need_object s o
  flag_row s PreventExtensions o

abbrev pub reflect_set : ℕ → List Val → Does Answer
reflect_set s vs = do
  _ ← need_object s (arg vs 0)
  k ← key_arg s vs 1
  flag_row s (Set k (arg vs 2) (arg_or vs 3 (arg vs 0))) (arg vs 0)

abbrev pub reflect_set_prototype : ℕ → Val → Val → Does Answer
reflect_set_prototype s o p = do
  _ ← need_object s o
  _ ← unless_type_error s (is_object p || is_null p)
  flag_row s (SetPrototypeOf p) o
