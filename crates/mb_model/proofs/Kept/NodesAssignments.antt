use Rattle.std.specs.Prelude.{if◌then◌else◌, ℕ, Bool}
use Rattle.mb_tree.specs.declared.kind.Sign.{Sign}
use Rattle.mb_world.specs.Value.{Val, whole_of}
use Rattle.mb_model.specs.Writing.{◌>>=◌, value_in, or_type_error}
use Rattle.mb_model.specs.Operations.Conversions.{whole}
use Rattle.mb_model.specs.Nodes.Evaluation.{Context, eval}
use Rattle.mb_model.specs.Nodes.References.{Reference, refer, get_value, put_and_give}
use Rattle.mb_model.specs.Nodes.BinaryOperators.{operate}
use Rattle.mb_model.specs.Nodes.Assignments.{assigned, assign_to, assign_row, compound_got, compound_old, compound_to, compound_row, stepped, update_old, update_to, update_row}
use Rattle.mb_model.proofs.Kept.Words.{Kept, Goes, keeps->>=, keeps-or_type_error}
use Rattle.mb_model.proofs.Kept.NodesEvaluation.{keeps-eval}
use Rattle.mb_model.proofs.Kept.NodesReferences.{keeps-get_value, keeps-put_and_give, keeps-refer}
use Rattle.mb_model.proofs.Kept.NodesBinaryOperators.{keeps-operate}
use Rattle.mb_model.proofs.Kept.OperationsConversions.{keeps-whole}

-- what the parts of these rows keep (written by tools/kept.py)

pub keeps-assigned : (kept : Kept) (x0 : Context) (x1 : Reference) (x2 : Val) → Goes kept (assigned x0 x1 x2)
keeps-assigned kept c r v = keeps-put_and_give kept c r v v

pub keeps-assign_to : (kept : Kept) (x0 : Context) (x1 : ℕ) (x2 : Reference) → Goes kept (assign_to x0 x1 x2)
keeps-assign_to kept c n r = keeps->>= kept (eval c n) (λ v. assigned c r v) (keeps-eval kept c n) (λ v.
    keeps-assigned kept c r v)

pub keeps-assign_row : (kept : Kept) (x0 : Context) (x1 : ℕ) (x2 : ℕ) → Goes kept (assign_row x0 x1 x2)
keeps-assign_row kept c target n = keeps->>= kept (refer c target) (λ r. assign_to c n r) (keeps-refer kept c
    target) (λ r. keeps-assign_to kept c n r)

pub keeps-compound_got : (kept : Kept) (x0 : Context) (x1 : Sign) (x2 : Reference) (x3 : Val) (x4 : Val) → Goes
    kept (compound_got x0 x1 x2 x3 x4)
keeps-compound_got kept c sign r old v = keeps->>= kept (operate c.side sign old v) (λ a. put_and_give c r
    (value_in a) (value_in a)) (keeps-operate kept c.side sign old v) (λ a. keeps-put_and_give kept c r (value_in
    a) (value_in a))

pub keeps-compound_old : (kept : Kept) (x0 : Context) (x1 : Sign) (x2 : ℕ) (x3 : Reference) (x4 : Val) → Goes kept
    (compound_old x0 x1 x2 x3 x4)
keeps-compound_old kept c sign n r old = keeps->>= kept (eval c n) (λ v. compound_got c sign r old v) (keeps-eval
    kept c n) (λ v. keeps-compound_got kept c sign r old v)

pub keeps-compound_to : (kept : Kept) (x0 : Context) (x1 : Sign) (x2 : ℕ) (x3 : Reference) → Goes kept (compound_to
    x0 x1 x2 x3)
keeps-compound_to kept c sign n r = keeps->>= kept (get_value c r) (λ old. compound_old c sign n r old)
    (keeps-get_value kept c r) (λ old. keeps-compound_old kept c sign n r old)

pub keeps-compound_row : (kept : Kept) (x0 : Context) (x1 : Sign) (x2 : ℕ) (x3 : ℕ) → Goes kept (compound_row x0 x1
    x2 x3)
keeps-compound_row kept c sign target n = keeps->>= kept (refer c target) (λ r. compound_to c sign n r)
    (keeps-refer kept c target) (λ r. keeps-compound_to kept c sign n r)

pub keeps-update_old : (kept : Kept) (x0 : Context) (x1 : Bool) (x2 : Bool) (x3 : Reference) (x4 : Val) → Goes kept
    (update_old x0 x1 x2 x3 x4)
keeps-update_old kept c plus prefix r old = keeps->>= kept (or_type_error c.side (whole_of old)) (λ z. (whole
    c.side (stepped plus z)) >>= (λ new. put_and_give c r new (if prefix then new else old))) (keeps-or_type_error
    kept c.side (whole_of old)) (λ z. keeps->>= kept (whole c.side (stepped plus z)) (λ new. put_and_give c r new
    (if prefix then new else old)) (keeps-whole kept c.side (stepped plus z)) (λ new. keeps-put_and_give kept c r
    new (if prefix then new else old)))

pub keeps-update_to : (kept : Kept) (x0 : Context) (x1 : Bool) (x2 : Bool) (x3 : Reference) → Goes kept (update_to
    x0 x1 x2 x3)
keeps-update_to kept c plus prefix r = keeps->>= kept (get_value c r) (λ old. update_old c plus prefix r old)
    (keeps-get_value kept c r) (λ old. keeps-update_old kept c plus prefix r old)

pub keeps-update_row : (kept : Kept) (x0 : Context) (x1 : Bool) (x2 : Bool) (x3 : ℕ) → Goes kept (update_row x0 x1
    x2 x3)
keeps-update_row kept c plus prefix target = keeps->>= kept (refer c target) (λ r. update_to c plus prefix r)
    (keeps-refer kept c target) (λ r. keeps-update_to kept c plus prefix r)
