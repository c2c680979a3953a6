use Rattle.std.specs.Prelude.{ℕ, List, [], ◌∷◌, ◌++◌, Bool, true, false, Option, Some}
use Rattle.mb_world.specs.Value.{Val, Undefined, to_boolean}
use Rattle.mb_world.specs.Form.{Form, MemberForm, IndexForm}
use Rattle.mb_world.specs.Objects.{is_callable, is_constructor}
use Rattle.mb_model.specs.Task.{Call, Construct}
use Rattle.mb_model.specs.Writing.{answer, look, perform, is_value}
use Rattle.mb_model.specs.Operations.Calls.{getv}
use Rattle.mb_model.specs.Nodes.Evaluation.{Context, task, eval}
use Rattle.mb_model.specs.Nodes.References.{Reference, ToName, ToPlace, refer}
use Rattle.mb_model.specs.Nodes.Invocations.{call_if, call_all, new_if, new_all, arguments, callee_got, call_reference, call_place, call_row, constructor_got, or_got, and_got, sequence}
use Rattle.std.proofs.Common.{refl}
use Rattle.mb_model.proofs.Kept.Words.{Kept, Goes, keeps->>=, keeps-answer, keeps-give, keeps-if, keeps-is_value, keeps-look, keeps-type_error}
use Rattle.mb_model.proofs.Kept.NodesEvaluation.{keeps-eval}
use Rattle.mb_model.proofs.Kept.OperationsCalls.{keeps-getv}
use Rattle.mb_model.proofs.Kept.NodesReferences.{keeps-refer}

-- what the parts of these rows keep (written by tools/kept.py)

pub keeps-call_if : (kept : Kept) (x0 : ℕ) (x1 : Val) (x2 : Val) (x3 : List Val) (x4 : Bool) → Goes kept (call_if
    x0 x1 x2 x3 x4)
keeps-call_if kept s f this vs false = keeps-type_error kept s
keeps-call_if kept s f this vs true = keeps-answer kept (perform s (Call this vs) f) (λ _. (λ _. tt, λ _ _. refl))

pub keeps-call_all : (kept : Kept) (x0 : ℕ) (x1 : Val) (x2 : Val) (x3 : List Val) → Goes kept (call_all x0 x1 x2 x3)
keeps-call_all kept s f this vs = keeps->>= kept (look (λ g. is_callable g f)) (λ c. call_if s f this vs c)
    (keeps-look kept (λ g. is_callable g f)) (λ c. keeps-call_if kept s f this vs c)

pub keeps-new_if : (kept : Kept) (x0 : ℕ) (x1 : Val) (x2 : List Val) (x3 : Bool) → Goes kept (new_if x0 x1 x2 x3)
keeps-new_if kept s f vs false = keeps-type_error kept s
keeps-new_if kept s f vs true = keeps-answer kept (perform s (Construct vs f) f) (λ _. (λ _. tt, λ _ _. refl))

pub keeps-new_all : (kept : Kept) (x0 : ℕ) (x1 : Val) (x2 : List Val) → Goes kept (new_all x0 x1 x2)
keeps-new_all kept s f vs = keeps->>= kept (look (λ g. is_constructor g f)) (λ c. new_if s f vs c) (keeps-look kept
    (λ g. is_constructor g f)) (λ c. keeps-new_if kept s f vs c)

pub keeps-arguments : (kept : Kept) (x0 : Context) (x1 : List ℕ) (x2 : List Val) → Goes kept (arguments x0 x1 x2)
keeps-arguments kept c [] vs = keeps-give kept vs
keeps-arguments kept c (n ∷ ns) vs = keeps->>= kept (eval c n) (λ v. arguments c ns (vs ++ (v ∷ []))) (keeps-eval
    kept c n) (λ v. keeps-arguments kept c ns (vs ++ (v ∷ [])))

pub keeps-callee_got : (kept : Kept) (x0 : Context) (x1 : List ℕ) (x2 : Val) (x3 : Val) → Goes kept (callee_got x0
    x1 x2 x3)
keeps-callee_got kept c ns this f = keeps->>= kept (arguments c ns []) (λ vs. call_all c.side f this vs)
    (keeps-arguments kept c ns []) (λ vs. keeps-call_all kept c.side f this vs)

pub keeps-call_reference : (kept : Kept) (x0 : Context) (x1 : List ℕ) (x2 : Reference) → Goes kept (call_reference
    x0 x1 x2)
keeps-call_reference kept c ns (ToName x) = keeps-type_error kept c.side
keeps-call_reference kept c ns (ToPlace base k) = keeps->>= kept (getv c.side base k) (λ f. callee_got c ns base f)
    (keeps-getv kept c.side base k) (λ f. keeps-callee_got kept c ns base f)

pub keeps-call_place : (kept : Kept) (x0 : Context) (x1 : ℕ) (x2 : List ℕ) → Goes kept (call_place x0 x1 x2)
keeps-call_place kept c n ns = keeps->>= kept (refer c n) (λ r. call_reference c ns r) (keeps-refer kept c n) (λ r.
    keeps-call_reference kept c ns r)

pub keeps-call_row : (kept : Kept) (x0 : Context) (x1 : ℕ) (x2 : List ℕ) (x3 : Option Form) → Goes kept (call_row
    x0 x1 x2 x3)
keeps-call_row kept c n ns (Some (MemberForm b x)) = keeps-call_place kept c n ns
keeps-call_row kept c n ns (Some (IndexForm b k)) = keeps-call_place kept c n ns
keeps-call_row kept c n ns _ = keeps->>= kept (eval c n) (λ f. callee_got c ns Undefined f) (keeps-eval kept c n)
    (λ f. keeps-callee_got kept c ns Undefined f)

pub keeps-constructor_got : (kept : Kept) (x0 : Context) (x1 : List ℕ) (x2 : Val) → Goes kept (constructor_got x0
    x1 x2)
keeps-constructor_got kept c ns f = keeps->>= kept (arguments c ns []) (λ vs. new_all c.side f vs) (keeps-arguments
    kept c ns []) (λ vs. keeps-new_all kept c.side f vs)

pub keeps-or_got : (kept : Kept) (x0 : Context) (x1 : ℕ) (x2 : Val) → Goes kept (or_got x0 x1 x2)
keeps-or_got kept c right v = keeps-if kept (to_boolean v) (is_value v) (answer (task c right)) (keeps-is_value
    kept v) (keeps-answer kept (task c right) (λ _. (λ _. tt, λ _. tt)))

pub keeps-and_got : (kept : Kept) (x0 : Context) (x1 : ℕ) (x2 : Val) → Goes kept (and_got x0 x1 x2)
keeps-and_got kept c right v = keeps-if kept (to_boolean v) (answer (task c right)) (is_value v) (keeps-answer kept
    (task c right) (λ _. (λ _. tt, λ _. tt))) (keeps-is_value kept v)

pub keeps-sequence : (kept : Kept) (x0 : Context) (x1 : List ℕ) (x2 : Val) → Goes kept (sequence x0 x1 x2)
keeps-sequence kept c [] v = keeps-is_value kept v
keeps-sequence kept c (n ∷ ns) v = keeps->>= kept (eval c n) (λ w. sequence c ns w) (keeps-eval kept c n) (λ w.
    keeps-sequence kept c ns w)
