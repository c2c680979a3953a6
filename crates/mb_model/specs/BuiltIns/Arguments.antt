use Rattle.std.specs.Prelude.{ℕ, List, ◌||◌, if◌then◌else◌, slice_get, unwrap_or, codes}
use Rattle.mb_world.specs.Value.{Val, Undefined, same_value, is_object, is_undefined}
use Rattle.mb_world.specs.Key.{PropertyKey, Named}
use Rattle.mb_world.specs.Objects.{is_callable, is_constructor}
use Rattle.mb_model.specs.Task.{Method, Answer, Value}
use Rattle.mb_model.specs.Writing.{Does, ◌>>=◌, give, look, flag, perform, unless_type_error, truth}
use Rattle.mb_model.specs.Operations.Makings.{make_array}
use Rattle.mb_model.specs.Operations.Conversions.{to_key}
use Rattle.mb_model.specs.Operations.Calls.{get}

-- what the rows of the built-ins share: their arguments, tests of these, and the prototype of what a constructor makes

-- the argument at a place, or undefined
abbrev pub arg : List Val → ℕ → Val
arg vs i = unwrap_or (slice_get vs i) Undefined

-- the argument at a place, where so many were passed
abbrev pub arg_or : List Val → ℕ → Val → Val
arg_or vs i v = unwrap_or (slice_get vs i) v

abbrev pub key_arg : ℕ → List Val → ℕ → Does PropertyKey
key_arg s vs i = to_key s (arg vs i)

abbrev pub need_object : ℕ → Val → Does Answer
need_object s o = unless_type_error s (is_object o)

abbrev pub need_callable : ℕ → Val → Does Answer
need_callable s f = do
  c ← look (λ g. is_callable g f)
  unless_type_error s c

abbrev pub need_constructor : ℕ → Val → Does Answer
need_constructor s f = do
  c ← look (λ g. is_constructor g f)
  unless_type_error s c

abbrev pub undefined : Does Answer
undefined = give (Value Undefined)

abbrev pub flag_row : ℕ → Method → Val → Does Answer
flag_row s m o = do
  b ← flag (perform s m o)
  truth b

abbrev pub prototype_or : Val → Val → Val
prototype_or default p = if is_object p then p else default

abbrev pub asked_prototype : ℕ → Val → Val → Does Val
asked_prototype s default target = do
  p ← get s target (Named (codes "prototype"))
  give (prototype_or default p)

-- GetPrototypeFromConstructor (ECMA-262 10.1.14), from another new target only
abbrev pub made_prototype : ℕ → Val → Val → Val → Does Val
made_prototype s own default target =
    if is_undefined target || same_value own target then give default
    else asked_prototype s default target

abbrev pub array_of : ℕ → List Val → Does Answer
array_of s vs = do
  a ← make_array s vs
  give (Value a)
