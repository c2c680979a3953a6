use Rattle.std.specs.Prelude.{ℕ, List, [], drop, true, false, None, if◌then◌else◌, codes}
use Rattle.mb_desc.specs.declared.descriptor.Full.TheVariants.{Datum}
use Rattle.mb_world.specs.declared.cell.ErrorKind.{ErrorKind}
use Rattle.mb_world.specs.Value.{Val, Text, is_undefined, is_nullish}
use Rattle.mb_world.specs.Key.{Named}
use Rattle.mb_world.specs.Graph.{Fault}
use Rattle.mb_world.specs.Standard.{error_prototype}
use Rattle.mb_desc.specs.Descriptors.{descriptor_of}
use Rattle.mb_world.specs.Objects.{new_thing}
use Rattle.mb_model.specs.Task.{Answer, Value}
use Rattle.mb_model.specs.Writing.{Does, ◌>>=◌, give, make}
use Rattle.mb_model.specs.Operations.Conversions.{text_by}
use Rattle.mb_model.specs.Operations.Calls.{list_of}
use Rattle.mb_model.specs.Nodes.Literals.{prop_defined}
use Rattle.mb_model.specs.BuiltIns.Arguments.{arg, need_callable, made_prototype}
use Rattle.mb_model.specs.BuiltIns.ReflectMembers.{apply_listed}

-- the error constructors, and the members of Function.prototype

-- ---- errors (ECMA-262 20.5)

-- CreateNonEnumerableDataPropertyOrThrow (ECMA-262 7.3.7) on the new error, which nothing else has yet
abbrev pub with_message : ℕ → Val → Val → Does Answer
with_message s e m = do
  t ← text_by s m
  _ ← prop_defined s e (Named (codes "message")) (descriptor_of (Datum (Text t) true false true))
  give (Value e)

abbrev pub error_message : ℕ → Val → Val → Does Answer
error_message s e m = if is_undefined m then give (Value e) else with_message s e m

abbrev pub error_made : ℕ → ErrorKind → Val → Val → Does Answer
error_made s kind m p = do
  e ← make (new_thing s None (Fault kind) p)
  error_message s e m

abbrev pub error_fn : ℕ → ErrorKind → Val → Val → Val → Does Answer
error_fn s kind own target m = do
  p ← made_prototype s own (error_prototype kind) target
  error_made s kind m p

-- ---- Function.prototype (ECMA-262 20.2.3)

abbrev pub function_call : ℕ → Val → List Val → Does Answer
function_call s f vs = do
  _ ← need_callable s f
  apply_listed s f (arg vs 0) (drop 1 vs)

abbrev pub function_apply_list : ℕ → Val → Val → Val → Does Answer
function_apply_list s f this x = do
  vs ← list_of s false x
  apply_listed s f this vs

abbrev pub function_apply : ℕ → Val → List Val → Does Answer
function_apply s f vs = do
  _ ← need_callable s f
  if is_nullish (arg vs 1) then apply_listed s f (arg vs 0) [] else function_apply_list s f (arg vs 0) (arg vs 1)
