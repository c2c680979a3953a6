-- What a statement's part leaves may be held, and gives a completion.
use Rattle.std.proofs.Common.{◌≡◌, None, Option, Some, refl, slice_get, sym, true, true≢false}
use Rattle.std.proofs.lemmas.List.Elements.{All-nil}
use Rattle.mb_base.specs.declared.value.NodeId.{NodeId}
use Rattle.mb_base.specs.declared.value.Side.{Side}
use Rattle.mb_base.specs.declared.value.Value.TheVariants as v
use Rattle.mb_frames.proofs.Giving.{expression-evaluated, expression-gives}
use Rattle.mb_frames.proofs.Keeping.{leaves-any, leaves-wait, node-held}
use Rattle.mb_frames.proofs.Linking.{completes}
use Rattle.mb_frames.specs.Held.{HeldNodeIf, HeldValue}
use Rattle.mb_frames.specs.Holding.{stmt_held, task_held}
use Rattle.mb_frames.specs.Kinds.{is_do_form, is_evaluated, is_expression, is_while_form}
use Rattle.mb_frames.specs.Ready.{Holds, Leaves, MayHold}
use Rattle.mb_frames.specs.Sorts.{ACompletion, AValue, stmt_waits, task_gives}
use Rattle.mb_frames.specs.Standing.{forms_at}
use Rattle.mb_frames.specs.declared.frame.Frame.TheVariants as x
use Rattle.mb_frames.specs.declared.frame.Move.TheVariants as move
use Rattle.mb_frames.specs.declared.statements.StmtFrame.{StmtFrame}
use Rattle.mb_frames.specs.declared.task.Answer.TheVariants as a
use Rattle.mb_frames.specs.declared.task.Context.{Context}
use Rattle.mb_frames.specs.declared.task.Outcome.TheVariants as o
use Rattle.mb_frames.specs.declared.task.Task.TheVariants as task
use Rattle.mb_world.specs.Contained.{IsOwn}
use Rattle.mb_world.specs.Data.{Data}
use Rattle.mb_world.specs.Form.{DoWhileForm, Form, WhileForm}
use Rattle.mb_eval_stmt.specs.machine.Keeping.{context_held}

pub while-evaluated : (f : Option Form) → is_while_form f ≡ true → is_evaluated f ≡ true
while-evaluated None h = absurd (true≢false (sym h))
while-evaluated (Some (WhileForm t b)) h = refl
while-evaluated (Some _) h = absurd (true≢false (sym h))

pub do-evaluated : (f : Option Form) → is_do_form f ≡ true → is_evaluated f ≡ true
do-evaluated None h = absurd (true≢false (sym h))
do-evaluated (Some (DoWhileForm b t)) h = refl
do-evaluated (Some _) h = absurd (true≢false (sym h))

module _ (d : Data) (home : Side) where
  pub node-of-if : (id : NodeId) → MayHold d home (HeldNodeIf (Some id))
      → is_evaluated (slice_get (forms_at d home) id.0) ≡ true
  node-of-if id h = h.sound

  pub undefined-held : MayHold d home (HeldValue v.Undefined)
  undefined-held = record { within = tt; sound = tt; own = λ u. All-nil (IsOwn d home) }

  pub ends-nothing : Leaves d home ACompletion (move.Done (o.Normal a.Nothing))
  ends-nothing = leaves-any d home (o.Normal a.Nothing) tt

  pub begins : (node : NodeId) (at : Context) → Holds d home (context_held at)
      → is_evaluated (slice_get (forms_at d home) node.0) ≡ true → Holds d home (task_held (task.Evaluate node at))
  begins node at h e = (h.0, (h.1.0, (node-held d home is_evaluated node.0 e, tt)))

  -- a part of any kind
  pub waits-any : (y : StmtFrame) (node : NodeId) (at : Context) → stmt_waits y ≡ ACompletion
      → Holds d home (stmt_held y) → Holds d home (context_held at)
      → is_evaluated (slice_get (forms_at d home) node.0) ≡ true
      → Leaves d home ACompletion (move.Wait (x.Stmt y) (task.Evaluate node at))
  waits-any y node at e h k s =
      leaves-wait d home ACompletion (x.Stmt y) (task.Evaluate node at) h (begins node at k s) tt tt
      (rw e (completes (task_gives (forms_at d home) (task.Evaluate node at))), refl)

  -- an expression
  pub waits-value : (y : StmtFrame) (node : NodeId) (at : Context) → stmt_waits y ≡ AValue
      → Holds d home (stmt_held y) → Holds d home (context_held at)
      → is_expression (slice_get (forms_at d home) node.0) ≡ true
      → Leaves d home ACompletion (move.Wait (x.Stmt y) (task.Evaluate node at))
  waits-value y node at e h k s =
      leaves-wait d home ACompletion (x.Stmt y) (task.Evaluate node at) h
      (begins node at k (expression-evaluated (slice_get (forms_at d home) node.0) s)) tt tt
      (rw (e, expression-gives (slice_get (forms_at d home) node.0) s) refl, refl)
