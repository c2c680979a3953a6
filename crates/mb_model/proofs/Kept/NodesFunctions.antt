use Rattle.std.specs.Prelude.{if◌then◌else◌, ℕ, List, [], ◌∷◌, Bool, true, false, Option, Some, None}
use Rattle.mb_world.specs.Value.{Val, Undefined}
use Rattle.mb_world.specs.Form.{FunctionParts, Form, FunctionDeclForm, MethodForm, GetterForm, SetterForm, FunctionForm, ArrowForm}
use Rattle.mb_world.specs.Graph.{Code, Kind, Function, Revoker, Thing}
use Rattle.mb_world.specs.Objects.{thing_at}
use Rattle.mb_model.specs.Task.{Answer, Nothing, Outcome, Normal, Throw, Return, Break, Continue}
use Rattle.mb_model.specs.Writing.{outcome, Does, ◌>>=◌, look, is_value}
use Rattle.mb_model.specs.Nodes.Scopes.{form_at, bound_names, enter_names, initialize, declare}
use Rattle.mb_model.specs.Nodes.Evaluation.{Context, task, eval}
use Rattle.mb_model.specs.Nodes.Functions.{bind_params, this_of, body_next, body, body_or_value, entered_names, enter_parts, enter_form, enter_kind, enter_thing, enter_row}
use Rattle.mb_model.proofs.Kept.Words.{Kept, Goes, keeps->>=, keeps-ends, keeps-give, keeps-is_value, keeps-look, keeps-outcome}
use Rattle.mb_model.proofs.Kept.NodesScopes.{keeps-declare, keeps-enter_names}
use Rattle.mb_model.proofs.Kept.Naming.{keeps-initialize}
use Rattle.mb_model.proofs.Kept.NodesEvaluation.{keeps-eval}
use Rattle.mb_model.proofs.Kept.Defined.{keeps-revoke_proxy}

-- what the parts of these rows keep (written by tools/kept.py)

pub keeps-bind_params : (kept : Kept) (x0 : ℕ) (x1 : List (List ℕ)) (x2 : List Val) → Goes kept (bind_params x0 x1 x2)
keeps-bind_params kept sc [] vs = keeps-give kept Nothing
keeps-bind_params kept sc (x ∷ xs) [] = keeps->>= kept (initialize sc x Undefined) (λ _. bind_params sc xs [])
    (keeps-initialize kept sc x Undefined) (λ _. keeps-bind_params kept sc xs [])
keeps-bind_params kept sc (x ∷ xs) (v ∷ vs) = keeps->>= kept (initialize sc x v) (λ _. bind_params sc xs vs)
    (keeps-initialize kept sc x v) (λ _. keeps-bind_params kept sc xs vs)

pub keeps-body_next : (kept : Kept) (x0 : Does Answer) (px0 : Goes kept (x0)) (x1 : Outcome) → Goes kept (body_next
    x0 x1)
keeps-body_next kept more keeps-more (Normal a) = keeps-more
keeps-body_next kept more keeps-more (Throw v) = keeps-ends kept (Throw v) tt
keeps-body_next kept more keeps-more (Return v) = keeps-is_value kept v
keeps-body_next kept more keeps-more Break = keeps-is_value kept Undefined
keeps-body_next kept more keeps-more Continue = keeps-is_value kept Undefined

pub keeps-body : (kept : Kept) (x0 : Context) (x1 : List ℕ) → Goes kept (body x0 x1)
keeps-body kept c [] = keeps-is_value kept Undefined
keeps-body kept c (n ∷ ns) = keeps->>= kept (outcome (task c n)) (λ o. body_next (body c ns) o) (keeps-outcome kept
    (task c n) (λ _. (λ _. tt, λ _. tt))) (λ o. keeps-body_next kept (body c ns) (keeps-body kept c ns) o)

pub keeps-body_or_value : (kept : Kept) (x0 : Context) (x1 : Bool) (x2 : List ℕ) → Goes kept (body_or_value x0 x1 x2)
keeps-body_or_value kept c true ns = keeps-body kept c ns
keeps-body_or_value kept c false [] = keeps-is_value kept Undefined
keeps-body_or_value kept c false (n ∷ ns) = keeps->>= kept (eval c n) (λ v. is_value v) (keeps-eval kept c n) (λ v.
    keeps-is_value kept v)

pub keeps-enter_parts : (kept : Kept) (x0 : Code) (x1 : Val) (x2 : List Val) (x3 : Bool) (x4 : Option (List ℕ)) (x5
    : FunctionParts) → Goes kept (enter_parts x0 x1 x2 x3 x4 x5)
keeps-enter_parts kept k this vs block own parts = keeps->>= kept (look (λ g. bound_names g k.side k.node)) (λ xs.
    (enter_names k.side k.scope (entered_names own xs)) >>= (λ sc. (bind_params sc parts.params vs) >>= (λ _.
    (declare k.side sc (if block then parts.body else [])) >>= (λ _. body_or_value (record {
      side = k.side;
      scope =
          sc;
      this = this_of k.bound_this this;
    }) block parts.body)))) (keeps-look kept (λ g. bound_names g k.side
    k.node)) (λ xs. keeps->>= kept (enter_names k.side k.scope (entered_names own xs)) (λ sc. (bind_params sc
    parts.params vs) >>= (λ _. (declare k.side sc (if block then parts.body else [])) >>= (λ _. body_or_value
    (record { side = k.side; scope = sc; this = this_of k.bound_this this }) block parts.body))) (keeps-enter_names
    kept k.side k.scope (entered_names own xs)) (λ sc. keeps->>= kept (bind_params sc parts.params vs) (λ _.
    (declare k.side sc (if block then parts.body else [])) >>= (λ _. body_or_value (record {
      side = k.side;
      scope =
          sc;
      this = this_of k.bound_this this;
    }) block parts.body)) (keeps-bind_params kept sc parts.params vs) (λ _.
    keeps->>= kept (declare k.side sc (if block then parts.body else [])) (λ _. body_or_value (record {
      side =
          k.side;
      scope = sc;
      this = this_of k.bound_this this;
    }) block parts.body) (keeps-declare kept k.side sc (if
    block then parts.body else [])) (λ _. keeps-body_or_value kept (record {
      side = k.side;
      scope = sc;
      this =
          this_of k.bound_this this;
    }) block parts.body))))

pub keeps-enter_form : (kept : Kept) (x0 : Code) (x1 : Val) (x2 : List Val) (x3 : Option Form) → Goes kept
    (enter_form x0 x1 x2 x3)
keeps-enter_form kept k this vs (Some (FunctionDeclForm x parts)) = keeps-enter_parts kept k this vs true None parts
keeps-enter_form kept k this vs (Some (FunctionForm x parts)) = keeps-enter_parts kept k this vs true x parts
keeps-enter_form kept k this vs (Some (ArrowForm parts block)) = keeps-enter_parts kept k this vs block None parts
keeps-enter_form kept k this vs (Some (MethodForm name parts)) = keeps-enter_parts kept k this vs true None parts
keeps-enter_form kept k this vs (Some (GetterForm name parts)) = keeps-enter_parts kept k this vs true None parts
keeps-enter_form kept k this vs (Some (SetterForm name parts)) = keeps-enter_parts kept k this vs true None parts
keeps-enter_form kept k this vs _ = keeps-is_value kept Undefined

pub keeps-enter_kind : (kept : Kept) (x0 : Val) (x1 : List Val) (x2 : Kind) → Goes kept (enter_kind x0 x1 x2)
keeps-enter_kind kept this vs (Function k) = keeps->>= kept (look (λ g. form_at g k.side k.node)) (λ f. enter_form
    k this vs f) (keeps-look kept (λ g. form_at g k.side k.node)) (λ f. keeps-enter_form kept k this vs f)
keeps-enter_kind kept this vs (Revoker p) = keeps-revoke_proxy kept p
keeps-enter_kind kept this vs _ = keeps-is_value kept Undefined

pub keeps-enter_thing : (kept : Kept) (x0 : Val) (x1 : List Val) (x2 : Option Thing) → Goes kept (enter_thing x0 x1
    x2)
keeps-enter_thing kept this vs None = keeps-is_value kept Undefined
keeps-enter_thing kept this vs (Some t) = keeps-enter_kind kept this vs t.kind

pub keeps-enter_row : (kept : Kept) (x0 : Val) (x1 : Val) (x2 : List Val) → Goes kept (enter_row x0 x1 x2)
keeps-enter_row kept f this vs = keeps->>= kept (look (λ g. thing_at g f)) (λ t. enter_thing this vs t) (keeps-look
    kept (λ g. thing_at g f)) (λ t. keeps-enter_thing kept this vs t)
