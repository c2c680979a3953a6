use Rattle.std.specs.Prelude.{ℕ, List, Option, Some}
use Rattle.mb_world.specs.Value.{Val}
use Rattle.mb_world.specs.Key.{Named}
use Rattle.mb_world.specs.Form.{Form, NameForm, MemberForm, IndexForm}
use Rattle.mb_model.specs.Writing.{◌>>=◌, give, pay_each, look, is_value}
use Rattle.mb_model.specs.Operations.Conversions.{to_key}
use Rattle.mb_model.specs.Nodes.Evaluation.{Context, eval}
use Rattle.mb_model.specs.Nodes.References.{Reference, ToName, ToPlace, layers, innermost, inside, index_key_got, index_base_got, member_base_got, reference, refer, get_value, put_value, put_and_give, get_reference}
use Rattle.mb_model.proofs.Kept.Words.{Kept, Goes, keeps->>=, keeps-give, keeps-is_value, keeps-look, keeps-pay_each, keeps-type_error}
use Rattle.mb_model.proofs.Kept.NodesEvaluation.{keeps-eval}
use Rattle.mb_model.proofs.Kept.OperationsCalls.{keeps-getv, keeps-putv}
use Rattle.mb_model.proofs.Kept.NodesScopes.{keeps-read_name}
use Rattle.mb_model.proofs.Kept.Naming.{keeps-write_name}
use Rattle.mb_model.proofs.Kept.OperationsConversions.{keeps-to_key}

-- what the parts of these rows keep (written by tools/kept.py)

pub keeps-inside : (kept : Kept) (x0 : Context) (x1 : ℕ) → Goes kept (inside x0 x1)
keeps-inside kept c n = keeps->>= kept (look (λ g. layers g c.side n)) (λ fs. (pay_each fs) >>= (λ _. give
    (innermost fs))) (keeps-look kept (λ g. layers g c.side n)) (λ fs. keeps->>= kept (pay_each fs) (λ _. give
    (innermost fs)) (keeps-pay_each kept fs) (λ _. keeps-give kept (innermost fs)))

pub keeps-index_key_got : (kept : Kept) (x0 : Context) (x1 : Val) (x2 : Val) → Goes kept (index_key_got x0 x1 x2)
keeps-index_key_got kept c base w = keeps->>= kept (to_key c.side w) (λ k. give (ToPlace base k)) (keeps-to_key
    kept c.side w) (λ k. keeps-give kept (ToPlace base k))

pub keeps-index_base_got : (kept : Kept) (x0 : Context) (x1 : ℕ) (x2 : Val) → Goes kept (index_base_got x0 x1 x2)
keeps-index_base_got kept c key base = keeps->>= kept (eval c key) (λ w. index_key_got c base w) (keeps-eval kept c
    key) (λ w. keeps-index_key_got kept c base w)

pub keeps-member_base_got : (kept : Kept) (x0 : List ℕ) (x1 : Val) → Goes kept (member_base_got x0 x1)
keeps-member_base_got kept x base = keeps-give kept (ToPlace base (Named x))

pub keeps-reference : (kept : Kept) (x0 : Context) (x1 : Option Form) → Goes kept (reference x0 x1)
keeps-reference kept c (Some (NameForm x)) = keeps-give kept (ToName x)
keeps-reference kept c (Some (MemberForm b x)) = keeps->>= kept (eval c b) (λ base. member_base_got x base)
    (keeps-eval kept c b) (λ base. keeps-member_base_got kept x base)
keeps-reference kept c (Some (IndexForm b k)) = keeps->>= kept (eval c b) (λ base. index_base_got c k base)
    (keeps-eval kept c b) (λ base. keeps-index_base_got kept c k base)
keeps-reference kept c _ = keeps-type_error kept c.side

pub keeps-refer : (kept : Kept) (x0 : Context) (x1 : ℕ) → Goes kept (refer x0 x1)
keeps-refer kept c n = keeps->>= kept (inside c n) (λ f. reference c f) (keeps-inside kept c n) (λ f.
    keeps-reference kept c f)

pub keeps-get_value : (kept : Kept) (x0 : Context) (x1 : Reference) → Goes kept (get_value x0 x1)
keeps-get_value kept c (ToName x) = keeps-read_name kept c.side c.scope x
keeps-get_value kept c (ToPlace base k) = keeps-getv kept c.side base k

pub keeps-put_value : (kept : Kept) (x0 : Context) (x1 : Reference) (x2 : Val) → Goes kept (put_value x0 x1 x2)
keeps-put_value kept c (ToName x) v = keeps-write_name kept c.side c.scope x v
keeps-put_value kept c (ToPlace base k) v = keeps-putv kept c.side base k v

pub keeps-put_and_give : (kept : Kept) (x0 : Context) (x1 : Reference) (x2 : Val) (x3 : Val) → Goes kept
    (put_and_give x0 x1 x2 x3)
keeps-put_and_give kept c r v w = keeps->>= kept (put_value c r v) (λ _. is_value w) (keeps-put_value kept c r v)
    (λ _. keeps-is_value kept w)

pub keeps-get_reference : (kept : Kept) (x0 : Context) (x1 : Reference) → Goes kept (get_reference x0 x1)
keeps-get_reference kept c r = keeps->>= kept (get_value c r) (λ v. is_value v) (keeps-get_value kept c r) (λ v.
    keeps-is_value kept v)
