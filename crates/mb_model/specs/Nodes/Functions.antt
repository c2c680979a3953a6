use Rattle.std.specs.Prelude.{ℕ, List, [], ◌∷◌, drop, Bool, true, false, Option, Some, None, if◌then◌else◌}
use Rattle.mb_world.specs.Value.{Val, Undefined}
use Rattle.mb_world.specs.Form.{FunctionParts, Form, FunctionDeclForm, MethodForm, GetterForm, SetterForm, FunctionForm, ArrowForm}
use Rattle.mb_world.specs.Graph.{Code, Kind, Function, Revoker, ScopeName, Thing}
use Rattle.mb_world.specs.Objects.{thing_at}
use Rattle.mb_model.specs.Task.{Answer, Nothing, Outcome, Normal, Throw, Return, Break, Continue}
use Rattle.mb_model.specs.Writing.{ends, outcome, Does, ◌>>=◌, give, look, is_value}
use Rattle.mb_model.specs.Nodes.Scopes.{form_at, bound_names, enter_names, initialize, declare}
use Rattle.mb_model.specs.BuiltIns.ProxyMaking.{revoke_proxy}
use Rattle.mb_model.specs.Nodes.Evaluation.{Context, task, eval}

-- entering a function (ECMA-262 10.2.1.4, 10.2.11)

abbrev pub bind_params : ℕ → List (List ℕ) → List Val → Does Answer
bind_params sc [] vs = give Nothing
bind_params sc (x ∷ xs) [] = do
  _ ← initialize sc x Undefined
  bind_params sc xs []
bind_params sc (x ∷ xs) (v ∷ vs) = do
  _ ← initialize sc x v
  bind_params sc xs vs

abbrev pub this_of : Option Val → Val → Val
this_of None this = this
this_of (Some bound) this = bound

-- a statement of a body ended; no jump leaves a body (ECMA-262 14.8.1, 14.9.1)
abbrev pub body_next : Does Answer → Outcome → Does Answer
body_next more (Normal a) = more
body_next more (Throw v) = ends (Throw v)
body_next more (Return v) = is_value v
body_next more Break = is_value Undefined
body_next more Continue = is_value Undefined

abbrev pub body : Context → List ℕ → Does Answer
body c [] = is_value Undefined
body c (n ∷ ns) = do
  o ← outcome (task c n)
  body_next (body c ns) o

abbrev pub body_or_value : Context → Bool → List ℕ → Does Answer
body_or_value c true ns = body c ns
body_or_value c false [] = is_value Undefined
body_or_value c false (n ∷ ns) = do
  v ← eval c n
  is_value v

-- the names that entering a function binds. Where it has a name of its own, the list of its node begins with that one,
-- which stands in a scope of its own already (ECMA-262 15.2.5)
abbrev pub entered_names : (own : Option (List ℕ)) → List ScopeName → List ScopeName
entered_names None xs = xs
entered_names (Some x) xs = drop 1 xs

abbrev pub enter_parts : Code → Val → List Val → (block : Bool) → (own : Option (List ℕ)) → FunctionParts → Does Answer
enter_parts k this vs block own parts = do
  xs ← look (λ g. bound_names g k.side k.node)
  sc ← enter_names k.side k.scope (entered_names own xs)
  _ ← bind_params sc parts.params vs
  _ ← declare k.side sc (if block then parts.body else [])
  body_or_value (record { side = k.side; scope = sc; this = this_of k.bound_this this }) block parts.body

abbrev pub enter_form : Code → Val → List Val → Option Form → Does Answer
enter_form k this vs (Some (FunctionDeclForm x parts)) = enter_parts k this vs true None parts
enter_form k this vs (Some (FunctionForm x parts)) = enter_parts k this vs true x parts
enter_form k this vs (Some (ArrowForm parts block)) = enter_parts k this vs block None parts
enter_form k this vs (Some (MethodForm name parts)) = enter_parts k this vs true None parts
enter_form k this vs (Some (GetterForm name parts)) = enter_parts k this vs true None parts
enter_form k this vs (Some (SetterForm name parts)) = enter_parts k this vs true None parts
enter_form k this vs _ = is_value Undefined

abbrev pub enter_kind : Val → List Val → Kind → Does Answer
enter_kind this vs (Function k) = do
  f ← look (λ g. form_at g k.side k.node)
  enter_form k this vs f
enter_kind this vs (Revoker p) = revoke_proxy p
enter_kind this vs _ = is_value Undefined

abbrev pub enter_thing : Val → List Val → Option Thing → Does Answer
enter_thing this vs None = is_value Undefined
enter_thing this vs (Some t) = enter_kind this vs t.kind

-- the row of entering a function
abbrev pub enter_row : Val → Val → List Val → Does Answer
enter_row f this vs = do
  t ← look (λ g. thing_at g f)
  enter_thing this vs t
