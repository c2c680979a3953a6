use Rattle.std.specs.Prelude.{ℕ, List, [], ◌∷◌, ◌++◌, length, true, false, nat_lt, Option, Some, None, codes}
use Rattle.mb_world.specs.Value.{Val}
use Rattle.mb_world.specs.Key.{PropertyKey, Named}
use Rattle.mb_world.specs.Form.{PropName, Written, Computed, FunctionParts, Form, ValueForm, MethodForm, GetterForm, SetterForm}
use Rattle.mb_world.specs.Symbols.{key_name}
use Rattle.mb_model.specs.Task.{Nothing}
use Rattle.mb_model.specs.Writing.{◌>>=◌, pay, look, range_error, is_value}
use Rattle.mb_model.specs.Operations.Makings.{make_function}
use Rattle.mb_model.specs.Operations.Conversions.{to_key, text_limit}
use Rattle.mb_model.specs.Nodes.Scopes.{form_at, scope, binding, add_scope, initialize, code}
use Rattle.mb_model.specs.Nodes.Evaluation.{Context, eval}
use Rattle.mb_model.specs.Nodes.Literals.{method_function, keyed_function, open_desc, getter_desc, setter_desc, prop_defined, prop_value, prop_keyed, prop_key, name_of_prop, prop_of, props, function_row}
use Rattle.std.proofs.Common.{refl}
use Rattle.mb_model.proofs.Kept.Words.{Kept, Goes, keeps->>=, keeps-add_scope, keeps-give, keeps-if, keeps-is_value, keeps-look, keeps-pay, keeps-range_error}
use Rattle.mb_model.proofs.Kept.Made.{keeps-make_function}
use Rattle.mb_model.proofs.Kept.NodesEvaluation.{keeps-eval}
use Rattle.mb_model.proofs.Kept.Naming.{keeps-initialize}
use Rattle.mb_model.proofs.Kept.Defined.{keeps-prop_defined}
use Rattle.mb_model.proofs.Kept.OperationsConversions.{keeps-to_key}

-- what the parts of these rows keep (written by tools/kept.py)

pub keeps-method_function : (kept : Kept) (x0 : Context) (x1 : ℕ) (x2 : FunctionParts) (x3 : List ℕ) → Goes kept
    (method_function x0 x1 x2 x3)
keeps-method_function kept c n parts name = keeps-if kept (nat_lt text_limit (length name)) (range_error c.side)
    (make_function (code c.side n c.scope false None) None (length parts.params) name) (keeps-range_error kept
    c.side) (keeps-make_function kept (code c.side n c.scope false None) None (length parts.params) name)

pub keeps-keyed_function : (kept : Kept) (x0 : Context) (x1 : ℕ) (x2 : FunctionParts) (x3 : List ℕ) (x4 :
    PropertyKey) → Goes kept (keyed_function x0 x1 x2 x3 x4)
keeps-keyed_function kept c n parts prefix k = keeps->>= kept (look (λ g. key_name g k)) (λ name. method_function c
    n parts (prefix ++ name)) (keeps-look kept (λ g. key_name g k)) (λ name. keeps-method_function kept c n parts
    (prefix ++ name))

pub keeps-prop_value : (kept : Kept) (x0 : ℕ) (x1 : Val) (x2 : PropertyKey) (x3 : Val) → Goes kept (prop_value x0
    x1 x2 x3)
keeps-prop_value kept s o k v = keeps-prop_defined kept s o k (open_desc v) refl

pub keeps-prop_keyed : (kept : Kept) (x0 : Context) (x1 : Val) (x2 : ℕ) (x3 : Form) (x4 : PropertyKey) → Goes kept
    (prop_keyed x0 x1 x2 x3 x4)
keeps-prop_keyed kept c o n (ValueForm name e) k = keeps->>= kept (eval c e) (λ v. prop_value c.side o k v)
    (keeps-eval kept c e) (λ v. keeps-prop_value kept c.side o k v)
keeps-prop_keyed kept c o n (MethodForm name parts) k = keeps->>= kept (keyed_function c n parts [] k) (λ f.
    prop_defined c.side o k (open_desc f)) (keeps-keyed_function kept c n parts [] k) (λ f. keeps-prop_defined kept
    c.side o k (open_desc f) refl)
keeps-prop_keyed kept c o n (GetterForm name parts) k = keeps->>= kept (keyed_function c n parts (codes "get ") k)
    (λ f. prop_defined c.side o k (getter_desc f)) (keeps-keyed_function kept c n parts (codes "get ") k) (λ f.
    keeps-prop_defined kept c.side o k (getter_desc f) refl)
keeps-prop_keyed kept c o n (SetterForm name parts) k = keeps->>= kept (keyed_function c n parts (codes "set ") k)
    (λ f. prop_defined c.side o k (setter_desc f)) (keeps-keyed_function kept c n parts (codes "set ") k) (λ f.
    keeps-prop_defined kept c.side o k (setter_desc f) refl)
keeps-prop_keyed kept c o n _ k = keeps-give kept Nothing

pub keeps-prop_key : (kept : Kept) (x0 : Context) (x1 : PropName) → Goes kept (prop_key x0 x1)
keeps-prop_key kept c (Written x) = keeps-give kept (Named x)
keeps-prop_key kept c (Computed e) = keeps->>= kept (eval c e) (λ v. to_key c.side v) (keeps-eval kept c e) (λ v.
    keeps-to_key kept c.side v)

pub keeps-prop_of : (kept : Kept) (x0 : Context) (x1 : Val) (x2 : ℕ) (x3 : Option Form) → Goes kept (prop_of x0 x1
    x2 x3)
keeps-prop_of kept c o n None = keeps-give kept Nothing
keeps-prop_of kept c o n (Some f) = keeps->>= kept (prop_key c (name_of_prop f)) (λ k. prop_keyed c o n f k)
    (keeps-prop_key kept c (name_of_prop f)) (λ k. keeps-prop_keyed kept c o n f k)

pub keeps-props : (kept : Kept) (x0 : Context) (x1 : Val) (x2 : List ℕ) → Goes kept (props x0 x1 x2)
keeps-props kept c o [] = keeps-is_value kept o
keeps-props kept c o (n ∷ ns) = keeps->>= kept (pay 1) (λ _. (look (λ g. form_at g c.side n)) >>= (λ f. (prop_of c
    o n f) >>= (λ _. props c o ns))) (keeps-pay kept 1) (λ _. keeps->>= kept (look (λ g. form_at g c.side n)) (λ f.
    (prop_of c o n f) >>= (λ _. props c o ns)) (keeps-look kept (λ g. form_at g c.side n)) (λ f. keeps->>= kept
    (prop_of c o n f) (λ _. props c o ns) (keeps-prop_of kept c o n f) (λ _. keeps-props kept c o ns)))

pub keeps-function_row : (kept : Kept) (x0 : Context) (x1 : ℕ) (x2 : FunctionParts) (x3 : Option (List ℕ)) → Goes
    kept (function_row x0 x1 x2 x3)
keeps-function_row kept c n parts None = keeps->>= kept (make_function (code c.side n c.scope true None) None
    (length parts.params) []) (λ f. is_value f) (keeps-make_function kept (code c.side n c.scope true None) None
    (length parts.params) []) (λ f. keeps-is_value kept f)
keeps-function_row kept c n parts (Some x) = keeps->>= kept (pay 1) (λ _. (add_scope (scope c.side (Some c.scope)
    (binding x None true ∷ []))) >>= (λ sc. (make_function (code c.side n sc true None) (Some x) (length
    parts.params) x) >>= (λ f. (initialize sc x f) >>= (λ _. is_value f)))) (keeps-pay kept 1) (λ _. keeps->>= kept
    (add_scope (scope c.side (Some c.scope) (binding x None true ∷ []))) (λ sc. (make_function (code c.side n sc
    true None) (Some x) (length parts.params) x) >>= (λ f. (initialize sc x f) >>= (λ _. is_value f)))
    (keeps-add_scope kept (scope c.side (Some c.scope) (binding x None true ∷ []))) (λ sc. keeps->>= kept
    (make_function (code c.side n sc true None) (Some x) (length parts.params) x) (λ f. (initialize sc x f) >>= (λ
    _. is_value f)) (keeps-make_function kept (code c.side n sc true None) (Some x) (length parts.params) x) (λ f.
    keeps->>= kept (initialize sc x f) (λ _. is_value f) (keeps-initialize kept sc x f) (λ _. keeps-is_value kept
    f))))
