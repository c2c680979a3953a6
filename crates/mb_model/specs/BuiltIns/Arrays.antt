use Rattle.std.specs.Prelude.{ℕ, List, [], ◌∷◌, length, Bool, true, false, nat_le, Option, Some, None, if◌then◌else◌, pos, negsuc}
use Rattle.mb_world.specs.Value.{Val, Whole}
use Rattle.mb_world.specs.Standard.{array_prototype}
use Rattle.mb_world.specs.Arrays.{index_key, length_limit}
use Rattle.mb_model.specs.Task.{HasProperty, Answer, Value}
use Rattle.mb_model.specs.Writing.{Does, ◌>>=◌, give, pay, flag, perform, make, range_error, truth}
use Rattle.mb_model.specs.Operations.Makings.{array_thing}
use Rattle.mb_model.specs.Operations.Calls.{get, length_of, is_array}
use Rattle.mb_model.specs.BuiltIns.Arguments.{need_object, made_prototype}

-- Array, Array.isArray, and what the members of Array.prototype share (ECMA-262 23.1)

abbrev pub array_make : ℕ → ℕ → Val → Does Answer
array_make s n p = do
  a ← make (array_thing s p n [])
  give (Value a)

abbrev pub array_filled : ℕ → List Val → Val → Does Answer
array_filled s vs p = do
  a ← make (array_thing s p (length vs) vs)
  give (Value a)

abbrev pub array_from : ℕ → List Val → Val → Does Answer
array_from s (Whole (pos n) ∷ []) p = if nat_le n length_limit then array_make s n p else range_error s
array_from s (Whole (negsuc n) ∷ []) p = range_error s
array_from s vs p = array_filled s vs p

abbrev pub array_fn : ℕ → List Val → Val → Val → Does Answer
array_fn s vs own target = do
  p ← made_prototype s own array_prototype target
  array_from s vs p

abbrev pub is_array_row : ℕ → Val → Does Answer
is_array_row s x = do
  b ← is_array s x
  truth b

-- the length of `this`, which is an object
abbrev pub array_start : ℕ → Val → Does ℕ
array_start s o = do
  _ ← need_object s o
  length_of s o

-- one turn of 'each k': what is there, or nothing
abbrev pub element_found : ℕ → Val → ℕ → Bool → Does (Option Val)
element_found s o k false = give None
element_found s o k true = do
  v ← get s o (index_key k)
  give (Some v)

abbrev pub each_turn : ℕ → Val → ℕ → Does (Option Val)
each_turn s o k = do
  _ ← pay 1
  there ← flag (perform s (HasProperty (index_key k)) o)
  element_found s o k there

abbrev pub place_value : ℕ → Val
place_value k = Whole (pos k)

abbrev pub fresh_array : ℕ → ℕ → Does Val
fresh_array s n = if nat_le n length_limit then make (array_thing s array_prototype n []) else range_error s
