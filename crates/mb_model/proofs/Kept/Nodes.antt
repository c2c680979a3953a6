use Rattle.std.specs.Prelude.{ℕ, [], length, false, Option, Some, None}
use Rattle.mb_world.specs.Value.{Undefined, Whole, Text, to_boolean}
use Rattle.mb_world.specs.Form.{Form, ScriptForm, LetForm, ConstForm, DeclForm, FunctionDeclForm, BlockForm, EmptyForm, ExprStmtForm, IfForm, WhileForm, DoWhileForm, ForForm, ReturnForm, ThrowForm, BreakForm, ContinueForm, TryForm, ParamForm, ThisForm, NameForm, NumberForm, TextForm, LiteralForm, ArrayForm, ObjectForm, ValueForm, MethodForm, GetterForm, SetterForm, FunctionForm, ArrowForm, GroupForm, MemberForm, IndexForm, AssignForm, CompoundForm, UpdateForm, CallForm, NewForm, CondForm, OrForm, AndForm, SeqForm, UnaryForm, BinaryForm}
use Rattle.mb_world.specs.Standard.{object_prototype}
use Rattle.mb_model.specs.Task.{Nothing, Break, Continue}
use Rattle.mb_model.specs.Writing.{outcome, throw, look, is_value}
use Rattle.mb_model.specs.Operations.Makings.{make_plain, make_function}
use Rattle.mb_model.specs.Nodes.Scopes.{form_at, read_name, code}
use Rattle.mb_model.specs.Nodes.Evaluation.{Context, task, eval, branch}
use Rattle.mb_model.specs.Nodes.Statements.{expr_done, body_ended, while_tested, do_test, tried}
use Rattle.mb_model.specs.Nodes.Literals.{props}
use Rattle.mb_model.specs.Nodes.References.{bare_form, reference, get_reference}
use Rattle.mb_model.specs.Nodes.BinaryOperators.{left_got}
use Rattle.mb_model.specs.Nodes.Invocations.{call_row, constructor_got, or_got, and_got}
use Rattle.mb_model.specs.Nodes.Functions.{body}
use Rattle.mb_model.specs.Nodes.{node, node_if, node_row}
use Rattle.mb_model.proofs.Kept.Words.{Kept, Goes, keeps->>=, keeps-answer, keeps-ends, keeps-give, keeps-is_value, keeps-look, keeps-outcome, keeps-throw}
use Rattle.mb_model.proofs.Kept.Made.{keeps-make_function}
use Rattle.mb_model.proofs.Kept.NodesInvocations.{keeps-and_got, keeps-call_row, keeps-constructor_got, keeps-or_got, keeps-sequence}
use Rattle.mb_model.proofs.Kept.Stored.{keeps-array_literal}
use Rattle.mb_model.proofs.Kept.NodesAssignments.{keeps-assign_row, keeps-compound_row, keeps-update_row}
use Rattle.mb_model.proofs.Kept.NodesStatements.{keeps-body_ended, keeps-do_test, keeps-expr_done, keeps-for_row, keeps-give_each, keeps-return_row, keeps-run_scoped, keeps-tried, keeps-while_tested}
use Rattle.mb_model.proofs.Kept.NodesEvaluation.{keeps-branch, keeps-eval}
use Rattle.mb_model.proofs.Kept.NodesLiterals.{keeps-function_row, keeps-props}
use Rattle.mb_model.proofs.Kept.NodesReferences.{keeps-get_reference, keeps-reference}
use Rattle.mb_model.proofs.Kept.NodesBinaryOperators.{keeps-left_got}
use Rattle.mb_model.proofs.Kept.OperationsMakings.{keeps-make_plain}
use Rattle.mb_model.proofs.Kept.NodesScopes.{keeps-read_name}
use Rattle.mb_model.proofs.Kept.NodesUnaryOperators.{keeps-unary}

-- what the parts of these rows keep (written by tools/kept.py)

pub keeps-node : (kept : Kept) (x0 : Context) (x1 : ℕ) (x2 : Form) → Goes kept (node x0 x1 x2)
keeps-node kept c n (ScriptForm ns) = keeps-run_scoped kept c n ns
keeps-node kept c n (LetForm ds) = keeps-give_each kept c ds
keeps-node kept c n (ConstForm ds) = keeps-give_each kept c ds
keeps-node kept c n (DeclForm x v) = keeps-give kept Nothing
keeps-node kept c n (FunctionDeclForm x parts) = keeps-give kept Nothing
keeps-node kept c n (BlockForm ns) = keeps-run_scoped kept c n ns
keeps-node kept c n EmptyForm = keeps-give kept Nothing
keeps-node kept c n (ExprStmtForm e) = keeps->>= kept (eval c e) (λ v. expr_done v) (keeps-eval kept c e) (λ v.
    keeps-expr_done kept v)
keeps-node kept c n (IfForm test main other) = keeps->>= kept (eval c test) (λ x. branch c main other (to_boolean
    x)) (keeps-eval kept c test) (λ x. keeps-branch kept c main other (to_boolean x))
keeps-node kept c n (WhileForm test body) = keeps->>= kept (eval c test) (λ x. while_tested c (task c n) body
    (to_boolean x)) (keeps-eval kept c test) (λ x. keeps-while_tested kept c (task c n) (λ _. (λ _. tt, λ _. tt))
    body (to_boolean x))
keeps-node kept c n (DoWhileForm body test) = keeps->>= kept (outcome (task c body)) (λ o. body_ended (do_test c
    (task c n) test) o) (keeps-outcome kept (task c body) (λ _. (λ _. tt, λ _. tt))) (λ o. keeps-body_ended kept
    (do_test c (task c n) test) (keeps-do_test kept c (task c n) (λ _. (λ _. tt, λ _. tt)) test) o)
keeps-node kept c n (ForForm first test last body) = keeps-for_row kept c n first test last body
keeps-node kept c n (ReturnForm e) = keeps-return_row kept c e
keeps-node kept c n (ThrowForm e) = keeps->>= kept (eval c e) (λ v. throw v) (keeps-eval kept c e) (λ v.
    keeps-throw kept v)
keeps-node kept c n BreakForm = keeps-ends kept Break tt
keeps-node kept c n ContinueForm = keeps-ends kept Continue tt
keeps-node kept c n (TryForm block x h ending) = keeps->>= kept (outcome (task c block)) (λ o. tried c n x h ending
    o) (keeps-outcome kept (task c block) (λ _. (λ _. tt, λ _. tt))) (λ o. keeps-tried kept c n x h ending o)
keeps-node kept c n (ParamForm x) = keeps-give kept Nothing
keeps-node kept c n ThisForm = keeps-is_value kept c.this
keeps-node kept c n (NameForm x) = keeps->>= kept (read_name c.side c.scope x) (λ v. is_value v) (keeps-read_name
    kept c.side c.scope x) (λ v. keeps-is_value kept v)
keeps-node kept c n (NumberForm z) = keeps-is_value kept (Whole z)
keeps-node kept c n (TextForm t) = keeps-is_value kept (Text t)
keeps-node kept c n (LiteralForm v) = keeps-is_value kept v
keeps-node kept c n (ArrayForm ns) = keeps-array_literal kept c ns
keeps-node kept c n (ObjectForm ps) = keeps->>= kept (make_plain c.side None object_prototype) (λ o. props c o ps)
    (keeps-make_plain kept c.side None object_prototype) (λ o. keeps-props kept c o ps)
keeps-node kept c n (ValueForm k e) = keeps-give kept Nothing
keeps-node kept c n (MethodForm k parts) = keeps-give kept Nothing
keeps-node kept c n (GetterForm k parts) = keeps-give kept Nothing
keeps-node kept c n (SetterForm k parts) = keeps-give kept Nothing
keeps-node kept c n (FunctionForm x parts) = keeps-function_row kept c n parts x
keeps-node kept c n (ArrowForm parts block) = keeps->>= kept (make_function (code c.side n c.scope false (Some
    c.this)) None (length parts.params) []) (λ f. is_value f) (keeps-make_function kept (code c.side n c.scope
    false (Some c.this)) None (length parts.params) []) (λ f. keeps-is_value kept f)
keeps-node kept c n (GroupForm e) = keeps-answer kept (task c e) (λ _. (λ _. tt, λ _. tt))
keeps-node kept c n (MemberForm b x) = keeps->>= kept (reference c (Some (MemberForm b x))) (λ r. get_reference c
    r) (keeps-reference kept c (Some (MemberForm b x))) (λ r. keeps-get_reference kept c r)
keeps-node kept c n (IndexForm b k) = keeps->>= kept (reference c (Some (IndexForm b k))) (λ r. get_reference c r)
    (keeps-reference kept c (Some (IndexForm b k))) (λ r. keeps-get_reference kept c r)
keeps-node kept c n (AssignForm target e) = keeps-assign_row kept c target e
keeps-node kept c n (CompoundForm sign target e) = keeps-compound_row kept c sign target e
keeps-node kept c n (UpdateForm plus prefix target) = keeps-update_row kept c plus prefix target
keeps-node kept c n (CallForm callee ns) = keeps->>= kept (look (λ g. bare_form g c.side callee)) (λ f. call_row c
    callee ns f) (keeps-look kept (λ g. bare_form g c.side callee)) (λ f. keeps-call_row kept c callee ns f)
keeps-node kept c n (NewForm callee ns) = keeps->>= kept (eval c callee) (λ f. constructor_got c ns f) (keeps-eval
    kept c callee) (λ f. keeps-constructor_got kept c ns f)
keeps-node kept c n (CondForm test main other) = keeps->>= kept (eval c test) (λ x. branch c main (Some other)
    (to_boolean x)) (keeps-eval kept c test) (λ x. keeps-branch kept c main (Some other) (to_boolean x))
keeps-node kept c n (OrForm a b) = keeps->>= kept (eval c a) (λ v. or_got c b v) (keeps-eval kept c a) (λ v.
    keeps-or_got kept c b v)
keeps-node kept c n (AndForm a b) = keeps->>= kept (eval c a) (λ v. and_got c b v) (keeps-eval kept c a) (λ v.
    keeps-and_got kept c b v)
keeps-node kept c n (SeqForm ns) = keeps-sequence kept c ns Undefined
keeps-node kept c n (UnaryForm sign e) = keeps-unary kept c sign e
keeps-node kept c n (BinaryForm sign a b) = keeps->>= kept (eval c a) (λ x. left_got c sign b x) (keeps-eval kept c
    a) (λ x. keeps-left_got kept c sign b x)

pub keeps-node_if : (kept : Kept) (x0 : Context) (x1 : ℕ) (x2 : Option Form) → Goes kept (node_if x0 x1 x2)
keeps-node_if kept c n None = keeps-give kept Nothing
keeps-node_if kept c n (Some f) = keeps-node kept c n f

pub keeps-node_row : (kept : Kept) (x0 : Context) (x1 : ℕ) → Goes kept (node_row x0 x1)
keeps-node_row kept c n = keeps->>= kept (look (λ g. form_at g c.side n)) (λ f. node_if c n f) (keeps-look kept (λ
    g. form_at g c.side n)) (λ f. keeps-node_if kept c n f)
