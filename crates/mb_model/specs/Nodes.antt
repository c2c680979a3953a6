use Rattle.std.specs.Prelude.{ℕ, [], length, false, Option, Some, None}
use Rattle.mb_world.specs.Value.{Undefined, Whole, Text, to_boolean}
use Rattle.mb_world.specs.Form.{Form, ScriptForm, LetForm, ConstForm, DeclForm, FunctionDeclForm, BlockForm, EmptyForm, ExprStmtForm, IfForm, WhileForm, DoWhileForm, ForForm, ReturnForm, ThrowForm, BreakForm, ContinueForm, TryForm, ParamForm, ThisForm, NameForm, NumberForm, TextForm, LiteralForm, ArrayForm, ObjectForm, ValueForm, MethodForm, GetterForm, SetterForm, FunctionForm, ArrowForm, GroupForm, MemberForm, IndexForm, AssignForm, CompoundForm, UpdateForm, CallForm, NewForm, CondForm, OrForm, AndForm, SeqForm, UnaryForm, BinaryForm}
use Rattle.mb_world.specs.Standard.{object_prototype}
use Rattle.mb_model.specs.Task.{Answer, Nothing, Break, Continue}
use Rattle.mb_model.specs.Writing.{ends, outcome, Does, ◌>>=◌, give, throw, answer, look, is_value}
use Rattle.mb_model.specs.Operations.Makings.{make_plain, make_array, make_function}
use Rattle.mb_model.specs.Nodes.Scopes.{form_at, read_name, code}
use Rattle.mb_model.specs.Nodes.Evaluation.{Context, task, eval, branch}
use Rattle.mb_model.specs.Nodes.Statements.{run_scoped, give_each, expr_done, body_ended, while_tested, do_test, for_row, tried, return_row}
use Rattle.mb_model.specs.Nodes.Literals.{elements, props, function_row}
use Rattle.mb_model.specs.Nodes.References.{bare_form, reference, get_reference}
use Rattle.mb_model.specs.Nodes.BinaryOperators.{left_got}
use Rattle.mb_model.specs.Nodes.UnaryOperators.{unary}
use Rattle.mb_model.specs.Nodes.Assignments.{assign_row, compound_row, update_row}
use Rattle.mb_model.specs.Nodes.Invocations.{call_row, constructor_got, or_got, and_got, sequence}
use Rattle.mb_model.specs.Nodes.Functions.{body}
pub mod Scopes
pub mod Lasting
pub mod Evaluation
pub mod Statements
pub mod Literals
pub mod References
pub mod BinaryOperators
pub mod UnaryOperators
pub mod Assignments
pub mod Invocations
pub mod Functions

-- what each node of a script does, by its own row

abbrev pub node : Context → ℕ → Form → Does Answer
node c n (ScriptForm ns) = run_scoped c n ns
node c n (LetForm ds) = give_each c ds
node c n (ConstForm ds) = give_each c ds
node c n (DeclForm x v) = give Nothing
node c n (FunctionDeclForm x parts) = give Nothing
node c n (BlockForm ns) = run_scoped c n ns
node c n EmptyForm = give Nothing
node c n (ExprStmtForm e) = do
  v ← eval c e
  expr_done v
node c n (IfForm test main other) = do
  x ← eval c test
  branch c main other (to_boolean x)
node c n (WhileForm test body) = do
  x ← eval c test
  while_tested c (task c n) body (to_boolean x)
node c n (DoWhileForm body test) = do
  o ← outcome (task c body)
  body_ended (do_test c (task c n) test) o
node c n (ForForm first test last body) = for_row c n first test last body
node c n (ReturnForm e) = return_row c e
node c n (ThrowForm e) = do
  v ← eval c e
  throw v
node c n BreakForm = ends Break
node c n ContinueForm = ends Continue
node c n (TryForm block x h ending) = do
  o ← outcome (task c block)
  tried c n x h ending o
node c n (ParamForm x) = give Nothing
node c n ThisForm = is_value c.this
node c n (NameForm x) = do
  v ← read_name c.side c.scope x
  is_value v
node c n (NumberForm z) = is_value (Whole z)
node c n (TextForm t) = is_value (Text t)
node c n (LiteralForm v) = is_value v
node c n (ArrayForm ns) = do
  a ← make_array c.side []
  elements c a 0 ns
node c n (ObjectForm ps) = do
  o ← make_plain c.side None object_prototype
  props c o ps
node c n (ValueForm k e) = give Nothing
node c n (MethodForm k parts) = give Nothing
node c n (GetterForm k parts) = give Nothing
node c n (SetterForm k parts) = give Nothing
node c n (FunctionForm x parts) = function_row c n parts x
node c n (ArrowForm parts block) = do
  f ← make_function (code c.side n c.scope false (Some c.this)) None (length parts.params) []
  is_value f
node c n (GroupForm e) = answer (task c e)
node c n (MemberForm b x) = do
  r ← reference c (Some (MemberForm b x))
  get_reference c r
node c n (IndexForm b k) = do
  r ← reference c (Some (IndexForm b k))
  get_reference c r
node c n (AssignForm target e) = assign_row c target e
node c n (CompoundForm sign target e) = compound_row c sign target e
node c n (UpdateForm plus prefix target) = update_row c plus prefix target
node c n (CallForm callee ns) = do
  f ← look (λ g. bare_form g c.side callee)
  call_row c callee ns f
node c n (NewForm callee ns) = do
  f ← eval c callee
  constructor_got c ns f
node c n (CondForm test main other) = do
  x ← eval c test
  branch c main (Some other) (to_boolean x)
node c n (OrForm a b) = do
  v ← eval c a
  or_got c b v
node c n (AndForm a b) = do
  v ← eval c a
  and_got c b v
node c n (SeqForm ns) = sequence c ns Undefined
node c n (UnaryForm sign e) = unary c sign e
node c n (BinaryForm sign a b) = do
  x ← eval c a
  left_got c sign b x

abbrev pub node_if : Context → ℕ → Option Form → Does Answer
node_if c n None = give Nothing
node_if c n (Some f) = node c n f

-- the row of a node
abbrev pub node_row : Context → ℕ → Does Answer
node_row c n = do
  f ← look (λ g. form_at g c.side n)
  node_if c n f
