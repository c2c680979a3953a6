-- What the usual moves give: an outcome of its sort, a throw whatever is wanted, and an expression's node a value.
use Rattle.mb_base.specs.declared.value.NodeId.{NodeId}
use Rattle.mb_base.specs.declared.value.Side.{Side}
use Rattle.mb_base.specs.declared.value.Value.{Value}
use Rattle.mb_frames.proofs.Linking.{completes, fits-same}
use Rattle.mb_frames.specs.Kinds.{Expression, NodeSort, form_sort, is_evaluated, is_evaluated_sort, is_expression, is_expression_sort}
use Rattle.mb_frames.specs.Ready.{Gives}
use Rattle.mb_frames.specs.Sorts.{ACompletion, AValue, IsAnswer, IsOfSort, Sort, fits, form_gives, frame_sort, task_gives, waits_for}
use Rattle.mb_frames.specs.Standing.{forms_at}
use Rattle.mb_frames.specs.declared.frame.Frame.{Frame}
use Rattle.mb_frames.specs.declared.frame.Move.TheVariants as move
use Rattle.mb_frames.specs.declared.task.Answer.{Answer}
use Rattle.mb_frames.specs.declared.task.Answer.TheVariants as a
use Rattle.mb_frames.specs.declared.task.Context.{Context}
use Rattle.mb_frames.specs.declared.task.Outcome.{Outcome}
use Rattle.mb_frames.specs.declared.task.Outcome.TheVariants as o
use Rattle.mb_frames.specs.declared.task.Task.{Task}
use Rattle.mb_frames.specs.declared.task.Task.TheVariants as task
use Rattle.mb_world.specs.Data.{Data}
use Rattle.mb_world.specs.Form.{BlockForm, BreakForm, ConstForm, ContinueForm, DeclForm, DoWhileForm, EmptyForm, ExprStmtForm, ForForm, Form, FunctionDeclForm, IfForm, LetForm, ReturnForm, ScriptForm, ThrowForm, TryForm, WhileForm}
use Rattle.std.proofs.Common.{None, Option, Some, refl, slice_get, sym, true, true≢false, ◌≡◌}

-- ---- forms

expression-sort : (s : NodeSort) → is_expression_sort s ≡ true → is_evaluated_sort s ≡ true
expression-sort Expression h = refl
expression-sort _ h = absurd (true≢false (sym h))

pub expression-evaluated : (f : Option Form) → is_expression f ≡ true → is_evaluated f ≡ true
expression-evaluated None h = h
expression-evaluated (Some f) h = expression-sort (form_sort f) h

pub expression-gives : (f : Option Form) → is_expression f ≡ true → form_gives f ≡ AValue
expression-gives None h = refl
expression-gives (Some (ScriptForm ns)) h = cc
expression-gives (Some (LetForm ns)) h = cc
expression-gives (Some (ConstForm ns)) h = cc
expression-gives (Some (DeclForm name value)) h = cc
expression-gives (Some (FunctionDeclForm name parts)) h = cc
expression-gives (Some (BlockForm ns)) h = cc
expression-gives (Some EmptyForm) h = cc
expression-gives (Some (ExprStmtForm value)) h = cc
expression-gives (Some (IfForm test main other)) h = cc
expression-gives (Some (WhileForm test body)) h = cc
expression-gives (Some (DoWhileForm body test)) h = cc
expression-gives (Some (ForForm first test last body)) h = cc
expression-gives (Some (ReturnForm value)) h = cc
expression-gives (Some (ThrowForm value)) h = cc
expression-gives (Some BreakForm) h = cc
expression-gives (Some ContinueForm) h = cc
expression-gives (Some (TryForm block caught handler ending)) h = cc
expression-gives (Some _) h = refl

-- ---- outcomes

any-answer : (y : Answer) → IsAnswer ACompletion y
any-answer a.Nothing = tt
any-answer (a.Value x) = tt
any-answer (a.Flag b) = tt
any-answer (a.Prop p) = tt
any-answer (a.Given g) = tt
any-answer (a.Keys ks) = tt
any-answer (a.Values vs) = tt
any-answer (a.Place b k) = tt
any-answer (a.Pair k x) = tt
any-answer a.Empty = tt

-- each outcome is a completion
pub any-outcome : (y : Outcome) → IsOfSort ACompletion y
any-outcome (o.Normal y) = any-answer y
any-outcome (o.Throw x) = tt
any-outcome (o.Return x) = tt
any-outcome o.Break = tt
any-outcome o.Continue = tt

-- ---- moves

module _ (d : Data) (home : Side) where
  pub gives-outcome : (wanted : Sort) (y : Outcome) → IsOfSort wanted y → Gives d home wanted (move.Done y)
  gives-outcome wanted y h = (wanted, h, fits-same wanted)

  pub gives-value : (x : Value) → Gives d home AValue (move.Done (o.Normal (a.Value x)))
  gives-value x = gives-outcome AValue (o.Normal (a.Value x)) tt

  pub gives-throw : (wanted : Sort) (x : Value) → Gives d home wanted (move.Done (o.Throw x))
  gives-throw wanted x = gives-outcome wanted (o.Throw x) tt

  pub gives-any : (y : Outcome) → Gives d home ACompletion (move.Done y)
  gives-any y = gives-outcome ACompletion y (any-outcome y)

  pub gives-next : (t : Task) → Gives d home ACompletion (move.Next t)
  gives-next t = completes (task_gives (forms_at d home) t)

  pub gives-anew : (t : Task) → Gives d home ACompletion (move.Anew t)
  gives-anew t = completes (task_gives (forms_at d home) t)

  -- an expression
  module _ (node : NodeId) (at : Context) (h : is_expression (slice_get (forms_at d home) node.0) ≡ true) where
    its-sort : task_gives (forms_at d home) (task.Evaluate node at) ≡ AValue
    its-sort = expression-gives (slice_get (forms_at d home) node.0) h

    pub gives-expression : Gives d home AValue (move.Next (task.Evaluate node at))
    gives-expression = rw its-sort refl

    pub waits-expression : (wanted : Sort) (y : Frame) → waits_for y AValue ≡ true
        → fits (frame_sort (forms_at d home) y AValue) wanted ≡ true
        → Gives d home wanted (move.Wait y (task.Evaluate node at))
    waits-expression wanted y e f = rw its-sort (e, f)
