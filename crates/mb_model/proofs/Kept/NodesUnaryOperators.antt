use Rattle.std.specs.Prelude.{ℕ, Bool, true, not, Option, Some, None, codes, neg_ℤ}
use Rattle.mb_tree.specs.declared.kind.Sign.{Sign}
use Rattle.mb_tree.specs.declared.kind.Sign.TheVariants.{Not, Minus, Typeof, Delete as DeleteSign}
use Rattle.mb_world.specs.Value.{Val, Whole, Text, is_object, to_boolean, whole_of}
use Rattle.mb_world.specs.Key.{PropertyKey}
use Rattle.mb_world.specs.Form.{Form, NameForm}
use Rattle.mb_world.specs.Graph.{Binding}
use Rattle.mb_model.specs.Task.{Delete}
use Rattle.mb_model.specs.Writing.{◌>>=◌, look, flag, perform, type_error, or_type_error, unless_type_error, is_value, truth}
use Rattle.mb_model.specs.Nodes.Scopes.{find_binding, bound_value}
use Rattle.mb_model.specs.Nodes.Evaluation.{Context, eval}
use Rattle.mb_model.specs.Nodes.References.{Reference, ToName, ToPlace, inside, bare_form, refer}
use Rattle.mb_model.specs.Nodes.UnaryOperators.{type_word, typeof_value, typeof_bound, typeof_of, delete_done, delete_at, delete_reference, delete_row, negated, unary}
use Rattle.std.proofs.Common.{refl}
use Rattle.mb_model.proofs.Kept.Words.{Kept, Goes, keeps->>=, keeps-flag, keeps-if, keeps-is_value, keeps-look, keeps-or_type_error, keeps-truth, keeps-type_error, keeps-unless_type_error}
use Rattle.mb_model.proofs.Kept.NodesScopes.{keeps-bound_value}
use Rattle.mb_model.proofs.Kept.NodesEvaluation.{keeps-eval}
use Rattle.mb_model.proofs.Kept.NodesReferences.{keeps-inside, keeps-refer}

-- what the parts of these rows keep (written by tools/kept.py)

pub keeps-typeof_value : (kept : Kept) (x0 : Val) → Goes kept (typeof_value x0)
keeps-typeof_value kept v = keeps->>= kept (look (λ g. type_word g v)) (λ t. is_value (Text t)) (keeps-look kept (λ
    g. type_word g v)) (λ t. keeps-is_value kept (Text t))

pub keeps-typeof_bound : (kept : Kept) (x0 : ℕ) (x1 : Option Binding) → Goes kept (typeof_bound x0 x1)
keeps-typeof_bound kept s None = keeps-is_value kept (Text (codes "undefined"))
keeps-typeof_bound kept s (Some b) = keeps->>= kept (bound_value s (Some b)) (λ v. typeof_value v)
    (keeps-bound_value kept s (Some b)) (λ v. keeps-typeof_value kept v)

pub keeps-typeof_of : (kept : Kept) (x0 : Context) (x1 : ℕ) (x2 : Option Form) → Goes kept (typeof_of x0 x1 x2)
keeps-typeof_of kept c n (Some (NameForm x)) = keeps->>= kept (inside c n) (λ _. (look (λ g. find_binding g c.scope
    x)) >>= (λ b. typeof_bound c.side b)) (keeps-inside kept c n) (λ _. keeps->>= kept (look (λ g. find_binding g
    c.scope x)) (λ b. typeof_bound c.side b) (keeps-look kept (λ g. find_binding g c.scope x)) (λ b.
    keeps-typeof_bound kept c.side b))
keeps-typeof_of kept c n _ = keeps->>= kept (eval c n) (λ v. typeof_value v) (keeps-eval kept c n) (λ v.
    keeps-typeof_value kept v)

pub keeps-delete_done : (kept : Kept) (x0 : ℕ) (x1 : Bool) → Goes kept (delete_done x0 x1)
keeps-delete_done kept s b = keeps->>= kept (unless_type_error s b) (λ _. truth true) (keeps-unless_type_error kept
    s b) (λ _. keeps-truth kept true)

pub keeps-delete_at : (kept : Kept) (x0 : ℕ) (x1 : PropertyKey) (x2 : Val) → Goes kept (delete_at x0 x1 x2)
keeps-delete_at kept s k o = keeps->>= kept (flag (perform s (Delete k) o)) (λ b. delete_done s b) (keeps-flag kept
    (perform s (Delete k) o) (λ _. (λ _. tt, λ _ _. refl))) (λ b. keeps-delete_done kept s b)

pub keeps-delete_reference : (kept : Kept) (x0 : Context) (x1 : Reference) → Goes kept (delete_reference x0 x1)
keeps-delete_reference kept c (ToName x) = keeps-type_error kept c.side
keeps-delete_reference kept c (ToPlace base k) = keeps-if kept (is_object base) (delete_at c.side k base)
    (type_error c.side) (keeps-delete_at kept c.side k base) (keeps-type_error kept c.side)

pub keeps-delete_row : (kept : Kept) (x0 : Context) (x1 : ℕ) → Goes kept (delete_row x0 x1)
keeps-delete_row kept c n = keeps->>= kept (refer c n) (λ r. delete_reference c r) (keeps-refer kept c n) (λ r.
    keeps-delete_reference kept c r)

pub keeps-negated : (kept : Kept) (x0 : ℕ) (x1 : Val) → Goes kept (negated x0 x1)
keeps-negated kept s v = keeps->>= kept (or_type_error s (whole_of v)) (λ z. is_value (Whole (neg_ℤ z)))
    (keeps-or_type_error kept s (whole_of v)) (λ z. keeps-is_value kept (Whole (neg_ℤ z)))

pub keeps-unary : (kept : Kept) (x0 : Context) (x1 : Sign) (x2 : ℕ) → Goes kept (unary x0 x1 x2)
keeps-unary kept c Not n = keeps->>= kept (eval c n) (λ v. truth (not (to_boolean v))) (keeps-eval kept c n) (λ v.
    keeps-truth kept (not (to_boolean v)))
keeps-unary kept c Minus n = keeps->>= kept (eval c n) (λ v. negated c.side v) (keeps-eval kept c n) (λ v.
    keeps-negated kept c.side v)
keeps-unary kept c Typeof n = keeps->>= kept (look (λ g. bare_form g c.side n)) (λ f. typeof_of c n f) (keeps-look
    kept (λ g. bare_form g c.side n)) (λ f. keeps-typeof_of kept c n f)
keeps-unary kept c DeleteSign n = keeps-delete_row kept c n
keeps-unary kept c _ n = keeps-type_error kept c.side
