use Rattle.std.specs.Prelude.{ℕ, ◌+◌, List, [], ◌∷◌, ◌++◌, length, true, false, nat_lt, Option, Some, None, if◌then◌else◌, codes}
use Rattle.mb_desc.specs.declared.descriptor.Desc.{Desc}
use Rattle.mb_world.specs.Value.{Val}
use Rattle.mb_world.specs.Key.{PropertyKey, Named}
use Rattle.mb_world.specs.Property.{open_property}
use Rattle.mb_desc.specs.Descriptors.{no_fields, descriptor_of}
use Rattle.mb_world.specs.Form.{PropName, Written, Computed, FunctionParts, Form, ValueForm, MethodForm, GetterForm, SetterForm}
use Rattle.mb_world.specs.Graph.{Thing}
use Rattle.mb_world.specs.Objects.{thing_at}
use Rattle.mb_world.specs.Ordinary.{ordinary_defined}
use Rattle.mb_world.specs.Symbols.{key_name}
use Rattle.mb_model.specs.Task.{Answer, Nothing}
use Rattle.mb_model.specs.Writing.{Does, ◌>>=◌, give, pay, look, range_error, is_value}
use Rattle.mb_model.specs.Operations.Makings.{make_function}
use Rattle.mb_model.specs.Operations.Conversions.{to_key, text_limit}
use Rattle.mb_model.specs.Objects.Methods.{settled, store_element}
use Rattle.mb_model.specs.Nodes.Scopes.{form_at, scope, binding, add_scope, initialize, code}
use Rattle.mb_model.specs.Nodes.Evaluation.{Context, eval}

-- literals and functions (ECMA-262 13.2, 15)

-- the elements from k on
abbrev pub elements : Context → Val → ℕ → List ℕ → Does Answer
elements c a k [] = is_value a
elements c a k (n ∷ ns) = do
  v ← eval c n
  _ ← store_element c.side a k v
  elements c a (k + 1) ns

-- a method's function, whose name is a prefix and the key (ECMA-262 10.2.9 SetFunctionName)
abbrev pub method_function : Context → ℕ → FunctionParts → List ℕ → Does Val
method_function c n parts name =
    if nat_lt text_limit (length name) then range_error c.side
    else make_function (code c.side n c.scope false None) None (length parts.params) name

-- the function of a method, getter or setter at a key
abbrev pub keyed_function : Context → ℕ → FunctionParts → List ℕ → PropertyKey → Does Val
keyed_function c n parts prefix k = do
  name ← look (λ g. key_name g k)
  method_function c n parts (prefix ++ name)

abbrev pub open_desc : Val → Desc Val
open_desc v = descriptor_of (open_property v)

abbrev pub getter_desc : Val → Desc Val
getter_desc f = record no_fields { get = Some f; enumerable = Some true; configurable = Some true }

abbrev pub setter_desc : Val → Desc Val
setter_desc f = record no_fields { set = Some f; enumerable = Some true; configurable = Some true }

abbrev pub define_on : ℕ → Val → PropertyKey → Desc Val → Option Thing → Does Answer
define_on s o k d None = give Nothing
define_on s o k d (Some t) = settled s o (ordinary_defined t k d)

abbrev pub prop_defined : ℕ → Val → PropertyKey → Desc Val → Does Answer
prop_defined s o k d = do
  t ← look (λ g. thing_at g o)
  define_on s o k d t

abbrev pub prop_value : ℕ → Val → PropertyKey → Val → Does Answer
prop_value s o k v = prop_defined s o k (open_desc v)

-- the key of a Prop node was found
abbrev pub prop_keyed : Context → Val → ℕ → Form → PropertyKey → Does Answer
prop_keyed c o n (ValueForm name e) k = do
  v ← eval c e
  prop_value c.side o k v
prop_keyed c o n (MethodForm name parts) k = do
  f ← keyed_function c n parts [] k
  prop_defined c.side o k (open_desc f)
prop_keyed c o n (GetterForm name parts) k = do
  f ← keyed_function c n parts (codes "get ") k
  prop_defined c.side o k (getter_desc f)
prop_keyed c o n (SetterForm name parts) k = do
  f ← keyed_function c n parts (codes "set ") k
  prop_defined c.side o k (setter_desc f)
prop_keyed c o n _ k = give Nothing

-- the key of a Prop node
abbrev pub prop_key : Context → PropName → Does PropertyKey
prop_key c (Written x) = give (Named x)
prop_key c (Computed e) = do
  v ← eval c e
  to_key c.side v

abbrev pub name_of_prop : Form → PropName
name_of_prop (ValueForm name e) = name
name_of_prop (MethodForm name parts) = name
name_of_prop (GetterForm name parts) = name
name_of_prop (SetterForm name parts) = name
name_of_prop _ = Written []

abbrev pub prop_of : Context → Val → ℕ → Option Form → Does Answer
prop_of c o n None = give Nothing
prop_of c o n (Some f) = do
  k ← prop_key c (name_of_prop f)
  prop_keyed c o n f k

-- PropertyDefinitionEvaluation (ECMA-262 13.2.5.5), 1 per Prop node
abbrev pub props : Context → Val → List ℕ → Does Answer
props c o [] = is_value o
props c o (n ∷ ns) = do
  _ ← pay 1
  f ← look (λ g. form_at g c.side n)
  _ ← prop_of c o n f
  props c o ns

-- a named function expression closes over one more scope, which binds its name for good (ECMA-262 15.2.5)
abbrev pub function_row : Context → ℕ → FunctionParts → Option (List ℕ) → Does Answer
function_row c n parts None = do
  f ← make_function (code c.side n c.scope true None) None (length parts.params) []
  is_value f
function_row c n parts (Some x) = do
  _ ← pay 1
  sc ← add_scope (scope c.side (Some c.scope) (binding x None true ∷ []))
  f ← make_function (code c.side n sc true None) (Some x) (length parts.params) x
  _ ← initialize sc x f
  is_value f
