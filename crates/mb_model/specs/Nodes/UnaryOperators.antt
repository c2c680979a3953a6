use Rattle.std.specs.Prelude.{ℕ, List, Bool, true, false, not, Option, Some, None, if◌then◌else◌, codes, neg_ℤ}
use Rattle.mb_tree.specs.declared.kind.Sign.{Sign}
use Rattle.mb_tree.specs.declared.kind.Sign.TheVariants.{Not, Minus, Typeof, Delete as DeleteSign}
use Rattle.mb_world.specs.Value.{Val, Undefined, Null, Truth, Whole, Text, Symbol, Object, BuiltIn, is_object, to_boolean, whole_of}
use Rattle.mb_world.specs.Key.{PropertyKey}
use Rattle.mb_world.specs.Form.{Form, NameForm}
use Rattle.mb_world.specs.Graph.{Binding, Graph}
use Rattle.mb_world.specs.Objects.{is_callable}
use Rattle.mb_model.specs.Task.{Delete, Answer}
use Rattle.mb_model.specs.Writing.{Does, ◌>>=◌, look, flag, perform, type_error, or_type_error, unless_type_error, is_value, truth}
use Rattle.mb_model.specs.Nodes.Scopes.{find_binding, bound_value}
use Rattle.mb_model.specs.Nodes.Evaluation.{Context, eval}
use Rattle.mb_model.specs.Nodes.References.{Reference, ToName, ToPlace, inside, bare_form, refer}

-- operators on one value (ECMA-262 13.5)

abbrev pub kind_word : Bool → List ℕ
kind_word true = codes "function"
kind_word false = codes "object"

-- the typeof operator (ECMA-262 13.5.3)
abbrev pub type_word : Graph → Val → List ℕ
type_word g Undefined = codes "undefined"
type_word g Null = codes "object"
type_word g (Truth b) = codes "boolean"
type_word g (Whole z) = codes "number"
type_word g (Text t) = codes "string"
type_word g (Symbol n) = codes "symbol"
type_word g (Object n) = kind_word (is_callable g (Object n))
type_word g (BuiltIn p) = kind_word (is_callable g (BuiltIn p))

abbrev pub typeof_value : Val → Does Answer
typeof_value v = do
  t ← look (λ g. type_word g v)
  is_value (Text t)

abbrev pub typeof_bound : ℕ → Option Binding → Does Answer
typeof_bound s None = is_value (Text (codes "undefined"))
typeof_bound s (Some b) = do
  v ← bound_value s (Some b)
  typeof_value v

abbrev pub typeof_of : Context → ℕ → Option Form → Does Answer
typeof_of c n (Some (NameForm x)) = do
  _ ← inside c n
  b ← look (λ g. find_binding g c.scope x)
  typeof_bound c.side b
typeof_of c n _ = do
  v ← eval c n
  typeof_value v

abbrev pub delete_done : ℕ → Bool → Does Answer
delete_done s b = do
  _ ← unless_type_error s b
  truth true

abbrev pub delete_at : ℕ → PropertyKey → Val → Does Answer
delete_at s k o = do
  b ← flag (perform s (Delete k) o)
  delete_done s b

-- the delete operator (ECMA-262 13.5.1)
abbrev pub delete_reference : Context → Reference → Does Answer
delete_reference c (ToName x) = type_error c.side
delete_reference c (ToPlace base k) = if is_object base then delete_at c.side k base else type_error c.side

abbrev pub delete_row : Context → ℕ → Does Answer
delete_row c n = do
  r ← refer c n
  delete_reference c r

abbrev pub negated : ℕ → Val → Does Answer
negated s v = do
  z ← or_type_error s (whole_of v)
  is_value (Whole (neg_ℤ z))

abbrev pub unary : Context → Sign → ℕ → Does Answer
unary c Not n = do
  v ← eval c n
  truth (not (to_boolean v))
unary c Minus n = do
  v ← eval c n
  negated c.side v
unary c Typeof n = do
  f ← look (λ g. bare_form g c.side n)
  typeof_of c n f
unary c DeleteSign n = delete_row c n
unary c _ n = type_error c.side
