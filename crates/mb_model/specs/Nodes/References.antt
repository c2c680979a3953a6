use Rattle.std.specs.Prelude.{ℕ, zero, suc, List, [], ◌∷◌, length, Option, Some, None, slice_get}
use Rattle.mb_world.specs.Value.{Val}
use Rattle.mb_world.specs.Key.{PropertyKey, Named}
use Rattle.mb_world.specs.Form.{Form, NameForm, GroupForm, MemberForm, IndexForm}
use Rattle.mb_world.specs.Graph.{Graph}
use Rattle.mb_model.specs.Task.{Answer}
use Rattle.mb_model.specs.Writing.{Does, ◌>>=◌, give, pay_each, look, type_error, is_value}
use Rattle.mb_model.specs.Operations.Conversions.{to_key}
use Rattle.mb_model.specs.Operations.Calls.{getv, putv}
use Rattle.mb_model.specs.Nodes.Scopes.{forms_of, read_name, write_name}
use Rattle.mb_model.specs.Nodes.Evaluation.{Context, eval}

-- references (ECMA-262 6.2.5)

pub data Reference : Type 0 where
  ToName : List ℕ → Reference
  ToPlace : (base : Val) → PropertyKey → Reference

-- a node and what is inside it, down through the Groups to the first that is none
abbrev pub layers_if : Option Form → (ℕ → List Form) → List Form
layers_if None inner = []
layers_if (Some (GroupForm n)) inner = GroupForm n ∷ inner n
layers_if (Some f) inner = f ∷ []

abbrev pub layers_from : ℕ → List Form → ℕ → List Form
layers_from zero fs n = []
layers_from (suc d) fs n = layers_if (slice_get fs n) (λ m. layers_from d fs m)

abbrev pub layers : Graph → ℕ → ℕ → List Form
layers g s n = layers_from (length (forms_of g s)) (forms_of g s) n

abbrev pub innermost : List Form → Option Form
innermost [] = None
innermost (f ∷ []) = Some f
innermost (f ∷ g ∷ fs) = innermost (g ∷ fs)

-- what is inside the Groups
abbrev pub bare_form : Graph → ℕ → ℕ → Option Form
bare_form g s n = innermost (layers g s n)

-- the Groups around a reference and the reference itself cost 1 each
abbrev pub inside : Context → ℕ → Does (Option Form)
inside c n = do
  fs ← look (λ g. layers g c.side n)
  _ ← pay_each fs
  give (innermost fs)

abbrev pub index_key_got : Context → Val → Val → Does Reference
index_key_got c base w = do
  k ← to_key c.side w
  give (ToPlace base k)

abbrev pub index_base_got : Context → ℕ → Val → Does Reference
index_base_got c key base = do
  w ← eval c key
  index_key_got c base w

abbrev pub member_base_got : List ℕ → Val → Does Reference
member_base_got x base = give (ToPlace base (Named x))

-- what a Name, Member or Index refers to; the static rules leave no other form
abbrev pub reference : Context → Option Form → Does Reference
reference c (Some (NameForm x)) = give (ToName x)
reference c (Some (MemberForm b x)) = do
  base ← eval c b
  member_base_got x base
reference c (Some (IndexForm b k)) = do
  base ← eval c b
  index_base_got c k base
reference c _ = type_error c.side

-- a node that is evaluated as a reference, with its own unit
abbrev pub refer : Context → ℕ → Does Reference
refer c n = do
  f ← inside c n
  reference c f

-- GetValue (ECMA-262 6.2.5.5)
abbrev pub get_value : Context → Reference → Does Val
get_value c (ToName x) = read_name c.side c.scope x
get_value c (ToPlace base k) = getv c.side base k

-- PutValue (ECMA-262 6.2.5.6)
abbrev pub put_value : Context → Reference → Val → Does Answer
put_value c (ToName x) v = write_name c.side c.scope x v
put_value c (ToPlace base k) v = putv c.side base k v

abbrev pub put_and_give : Context → Reference → Val → Val → Does Answer
put_and_give c r v w = do
  _ ← put_value c r v
  is_value w

abbrev pub get_reference : Context → Reference → Does Answer
get_reference c r = do
  v ← get_value c r
  is_value v
