use Rattle.std.specs.Prelude.{ℕ, zero, suc, List, [], ◌∷◌, ◌++◌, length, map, Bool, true, false, nat_eq, Option, Some, None, slice_get, slice_set, position, is_some, if◌then◌else◌}
use Rattle.mb_world.specs.Value.{Val, same_units}
use Rattle.mb_world.specs.Form.{Form, FunctionDeclForm}
use Rattle.mb_world.specs.Graph.{Graph, Scope, Binding, Program, ScopeName, Code}
use Rattle.mb_world.specs.Key.{keep_if}
use Rattle.mb_model.specs.Task.{Answer, Nothing}
use Rattle.mb_model.specs.Writing.{Does, ◌>>=◌, give, pay_each, look, change, type_error, reference_error}
use Rattle.mb_model.specs.Operations.Makings.{make_function}

-- names and scopes (ECMA-262 9.1), and the functions of declarations

abbrev pub forms_if : Option Program → List Form
forms_if None = []
forms_if (Some p) = p.forms

-- the nodes of a side's script
abbrev pub forms_of : Graph → ℕ → List Form
forms_of g s = forms_if (slice_get g.programs s)

abbrev pub form_at : Graph → ℕ → ℕ → Option Form
form_at g s n = slice_get (forms_of g s) n

abbrev pub names_of_node : ℕ → List ScopeName → List ScopeName
names_of_node n [] = []
names_of_node n (x ∷ xs) = keep_if (nat_eq x.node n) x (names_of_node n xs)

abbrev pub names_if : ℕ → Option Program → List ScopeName
names_if n None = []
names_if n (Some p) = names_of_node n p.names

-- the names that a node's scope binds, in source order
abbrev pub bound_names : Graph → ℕ → ℕ → List ScopeName
bound_names g s n = names_if n (slice_get g.programs s)

abbrev pub binding : List ℕ → Option Val → Bool → Binding
binding x v fixed = record { name = x; value = v; fixed = fixed }

abbrev pub scope : ℕ → Option ℕ → List Binding → Scope
scope s parent bs = record { side = s; parent = parent; bindings = bs }

-- one more scope, with its number (ECMA-262 9.1.2.2 NewDeclarativeEnvironment)
abbrev pub add_scope : Scope → Does ℕ
add_scope sc = λ k g. k (length g.scopes) (record g { scopes = g.scopes ++ (sc ∷ []) })

-- a scope of names is entered: 1 for each, which isn't given yet
abbrev pub enter_names : ℕ → ℕ → List ScopeName → Does ℕ
enter_names s parent xs = do
  _ ← pay_each xs
  add_scope (scope s (Some parent) (map (λ x. binding x.name None x.fixed) xs))

-- a node's scope is entered
abbrev pub enter_scope : ℕ → ℕ → ℕ → Does ℕ
enter_scope s parent n = do
  xs ← look (λ g. bound_names g s n)
  enter_names s parent xs

abbrev pub copy_of : Option Scope → Scope
copy_of None = scope 0 None []
copy_of (Some sc) = sc

-- CreatePerIterationEnvironment (ECMA-262 14.7.4.4): 1 per name
abbrev pub copy_scope : ℕ → Does ℕ
copy_scope sc = do
  old ← look (λ g. copy_of (slice_get g.scopes sc))
  _ ← pay_each old.bindings
  add_scope old

-- where a name stands, from a scope on up (ECMA-262 9.4.2 ResolveBinding)
abbrev pub or_above : ℕ → Option ℕ → Option ℕ → (ℕ → Option (ℕ × ℕ)) → Option (ℕ × ℕ)
or_above sc (Some i) p up = Some (sc, i)
or_above sc None None up = None
or_above sc None (Some p) up = up p

abbrev pub find_from : ℕ → List ℕ → Option Scope → (ℕ → Option (ℕ × ℕ)) → Option (ℕ × ℕ)
find_from sc x None up = None
find_from sc x (Some s) up = or_above sc (position (λ b. same_units b.name x) s.bindings) s.parent up

abbrev pub find_name : ℕ → List Scope → ℕ → List ℕ → Option (ℕ × ℕ)
find_name zero ss sc x = None
find_name (suc n) ss sc x = find_from sc x (slice_get ss sc) (λ p. find_name n ss p x)

abbrev pub resolve : Graph → ℕ → List ℕ → Option (ℕ × ℕ)
resolve g sc x = find_name (length g.scopes) g.scopes sc x

abbrev pub binding_in : ℕ → Option Scope → Option Binding
binding_in i None = None
binding_in i (Some s) = slice_get s.bindings i

abbrev pub binding_at : Graph → Option (ℕ × ℕ) → Option Binding
binding_at g None = None
binding_at g (Some p) = binding_in p.1 (slice_get g.scopes p.0)

-- the name's binding, if some scope binds it
abbrev pub find_binding : Graph → ℕ → List ℕ → Option Binding
find_binding g sc x = binding_at g (resolve g sc x)

abbrev pub bind_with : List Binding → ℕ → Option Binding → Val → List Binding
bind_with bs i None v = bs
bind_with bs i (Some b) v = slice_set bs i (record b { value = Some v })

abbrev pub scope_with : Scope → ℕ → Val → Scope
scope_with s i v = record s { bindings = bind_with s.bindings i (slice_get s.bindings i) v }

abbrev pub scopes_with : List Scope → ℕ → ℕ → Option Scope → Val → List Scope
scopes_with ss k i None v = ss
scopes_with ss k i (Some s) v = slice_set ss k (scope_with s i v)

abbrev pub giving : Option (ℕ × ℕ) → Val → Graph → Graph
giving None v g = g
giving (Some p) v g = record g { scopes = scopes_with g.scopes p.0 p.1 (slice_get g.scopes p.0) v }

-- the name that a scope itself binds
abbrev pub own_place : ℕ → List ℕ → Option Scope → Option (ℕ × ℕ)
own_place sc x None = None
own_place sc x (Some s) = or_above sc (position (λ b. same_units b.name x) s.bindings) None (λ p. None)

abbrev pub is_given : Option Binding → Bool
is_given None = false
is_given (Some b) = is_some b.value

-- the place, if its name isn't given yet
abbrev pub unless_given : Graph → Option (ℕ × ℕ) → Option (ℕ × ℕ)
unless_given g p = if is_given (binding_at g p) then None else p

-- InitializeBinding (ECMA-262 9.1.1.1.4), of a name that isn't given yet
abbrev pub initialize : ℕ → List ℕ → Val → Does Answer
initialize sc x v = change (λ g. giving (unless_given g (own_place sc x (slice_get g.scopes sc))) v g)

abbrev pub value_bound : ℕ → Option Val → Does Val
value_bound s None = reference_error s
value_bound s (Some v) = give v

abbrev pub bound_value : ℕ → Option Binding → Does Val
bound_value s None = reference_error s
bound_value s (Some b) = value_bound s b.value

-- GetBindingValue (ECMA-262 9.1.1.1.6)
abbrev pub read_name : ℕ → ℕ → List ℕ → Does Val
read_name s sc x = do
  b ← look (λ g. find_binding g sc x)
  bound_value s b

abbrev pub write_value : ℕ → ℕ → List ℕ → Val → Bool → Option Val → Does Answer
write_value s sc x v fixed None = reference_error s
write_value s sc x v true (Some w) = type_error s
write_value s sc x v false (Some w) = change (λ g. giving (resolve g sc x) v g)

abbrev pub write_bound : ℕ → ℕ → List ℕ → Val → Option Binding → Does Answer
write_bound s sc x v None = reference_error s
write_bound s sc x v (Some b) = write_value s sc x v b.fixed b.value

-- SetMutableBinding (ECMA-262 9.1.1.1.5)
abbrev pub write_name : ℕ → ℕ → List ℕ → Val → Does Answer
write_name s sc x v = do
  b ← look (λ g. find_binding g sc x)
  write_bound s sc x v b

-- a function of a node: declarations and named expressions have their name as label
abbrev pub code : ℕ → ℕ → ℕ → Bool → Option Val → Code
code s n sc constructs this = record { side = s; node = n; scope = sc; constructs = constructs; bound_this = this }

abbrev pub declare_one : ℕ → ℕ → ℕ → Option Form → Does Answer
declare_one s sc n (Some (FunctionDeclForm x parts)) = do
  f ← make_function (code s n sc true None) (Some x) (length parts.params) x
  initialize sc x f
declare_one s sc n _ = give Nothing

-- the functions of the declarations among some statements are made first, in order (ECMA-262 14.2.3)
abbrev pub declare : ℕ → ℕ → List ℕ → Does Answer
declare s sc [] = give Nothing
declare s sc (n ∷ ns) = do
  f ← look (λ g. form_at g s n)
  _ ← declare_one s sc n f
  declare s sc ns
