use Rattle.std.specs.Prelude.{ℕ, List, [], ◌∷◌, length, map, true, Option, Some, None, slice_get}
use Rattle.mb_world.specs.Value.{Val}
use Rattle.mb_world.specs.Form.{Form, FunctionDeclForm}
use Rattle.mb_world.specs.Graph.{Binding, ScopeName}
use Rattle.mb_model.specs.Task.{Nothing}
use Rattle.mb_model.specs.Writing.{◌>>=◌, pay_each, look}
use Rattle.mb_model.specs.Operations.Makings.{make_function}
use Rattle.mb_model.specs.Nodes.Scopes.{form_at, bound_names, binding, scope, add_scope, enter_names, enter_scope, copy_of, copy_scope, find_binding, initialize, value_bound, bound_value, read_name, code, declare_one, declare}
use Rattle.mb_model.proofs.Kept.Words.{Kept, Goes, keeps->>=, keeps-add_scope, keeps-give, keeps-look, keeps-pay_each, keeps-reference_error}
use Rattle.mb_model.proofs.Kept.Naming.{keeps-initialize}
use Rattle.mb_model.proofs.Kept.Made.{keeps-make_function}

-- what the parts of these rows keep (written by tools/kept.py)

pub keeps-enter_names : (kept : Kept) (x0 : ℕ) (x1 : ℕ) (x2 : List ScopeName) → Goes kept (enter_names x0 x1 x2)
keeps-enter_names kept s parent xs = keeps->>= kept (pay_each xs) (λ _. add_scope (scope s (Some parent) (map (λ x.
    binding x.name None x.fixed) xs))) (keeps-pay_each kept xs) (λ _. keeps-add_scope kept (scope s (Some parent)
    (map (λ x. binding x.name None x.fixed) xs)))

pub keeps-enter_scope : (kept : Kept) (x0 : ℕ) (x1 : ℕ) (x2 : ℕ) → Goes kept (enter_scope x0 x1 x2)
keeps-enter_scope kept s parent n = keeps->>= kept (look (λ g. bound_names g s n)) (λ xs. enter_names s parent xs)
    (keeps-look kept (λ g. bound_names g s n)) (λ xs. keeps-enter_names kept s parent xs)

pub keeps-copy_scope : (kept : Kept) (x0 : ℕ) → Goes kept (copy_scope x0)
keeps-copy_scope kept sc = keeps->>= kept (look (λ g. copy_of (slice_get g.scopes sc))) (λ old. (pay_each
    old.bindings) >>= (λ _. add_scope old)) (keeps-look kept (λ g. copy_of (slice_get g.scopes sc))) (λ old.
    keeps->>= kept (pay_each old.bindings) (λ _. add_scope old) (keeps-pay_each kept old.bindings) (λ _.
    keeps-add_scope kept old))

pub keeps-value_bound : (kept : Kept) (x0 : ℕ) (x1 : Option Val) → Goes kept (value_bound x0 x1)
keeps-value_bound kept s None = keeps-reference_error kept s
keeps-value_bound kept s (Some v) = keeps-give kept v

pub keeps-bound_value : (kept : Kept) (x0 : ℕ) (x1 : Option Binding) → Goes kept (bound_value x0 x1)
keeps-bound_value kept s None = keeps-reference_error kept s
keeps-bound_value kept s (Some b) = keeps-value_bound kept s b.value

pub keeps-read_name : (kept : Kept) (x0 : ℕ) (x1 : ℕ) (x2 : List ℕ) → Goes kept (read_name x0 x1 x2)
keeps-read_name kept s sc x = keeps->>= kept (look (λ g. find_binding g sc x)) (λ b. bound_value s b) (keeps-look
    kept (λ g. find_binding g sc x)) (λ b. keeps-bound_value kept s b)

pub keeps-declare_one : (kept : Kept) (x0 : ℕ) (x1 : ℕ) (x2 : ℕ) (x3 : Option Form) → Goes kept (declare_one x0 x1
    x2 x3)
keeps-declare_one kept s sc n (Some (FunctionDeclForm x parts)) = keeps->>= kept (make_function (code s n sc true
    None) (Some x) (length parts.params) x) (λ f. initialize sc x f) (keeps-make_function kept (code s n sc true
    None) (Some x) (length parts.params) x) (λ f. keeps-initialize kept sc x f)
keeps-declare_one kept s sc n _ = keeps-give kept Nothing

pub keeps-declare : (kept : Kept) (x0 : ℕ) (x1 : ℕ) (x2 : List ℕ) → Goes kept (declare x0 x1 x2)
keeps-declare kept s sc [] = keeps-give kept Nothing
keeps-declare kept s sc (n ∷ ns) = keeps->>= kept (look (λ g. form_at g s n)) (λ f. (declare_one s sc n f) >>= (λ
    _. declare s sc ns)) (keeps-look kept (λ g. form_at g s n)) (λ f. keeps->>= kept (declare_one s sc n f) (λ _.
    declare s sc ns) (keeps-declare_one kept s sc n f) (λ _. keeps-declare kept s sc ns))
