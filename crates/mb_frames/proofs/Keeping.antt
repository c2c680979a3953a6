-- What parts of rows leave and keep: nodes that may be held, moves that may be left, and parts after parts.
use Rattle.mb_frames.specs.Wholeness.{IsFitBegun, IsFitFrame, IsFitTask}
use Rattle.mb_base.specs.declared.value.NodeId.{NodeId}
use Rattle.mb_base.specs.declared.value.Side.{Side}
use Rattle.mb_base.specs.declared.value.Value.{Value}
use Rattle.mb_frames.proofs.Giving.{expression-evaluated, gives-any, gives-anew, gives-expression, gives-next, gives-throw, gives-value, waits-expression}
use Rattle.mb_frames.proofs.Parts.{all-both}
use Rattle.mb_frames.proofs.Readying.{changed-same, changed-then}
use Rattle.mb_frames.proofs.Sorting.{sort-passes}
use Rattle.mb_frames.specs.Held.{HeldNode, HeldNodeIf, HeldScope, HeldValue}
use Rattle.mb_frames.specs.Holding.{frame_held, outcome_held, task_held}
use Rattle.mb_frames.specs.Kinds.{Expression, Statement, is_evaluated, is_evaluated_sort, is_expression, is_expression_sort}
use Rattle.mb_frames.specs.Ready.{Changed, Gives, Holds, IsReady, KeepsBy, Leaves, LeavesBy, MayHold}
use Rattle.mb_frames.specs.Sorts.{ACompletion, AValue, Sort, fits, frame_sort, waits_for}
use Rattle.mb_frames.specs.Standing.{forms_at}
use Rattle.mb_frames.specs.Told.{IsNodeOf}
use Rattle.mb_frames.specs.declared.frame.Frame.{Frame}
use Rattle.mb_frames.specs.declared.frame.Move.{Move}
use Rattle.mb_frames.specs.declared.frame.Move.TheVariants as move
use Rattle.mb_frames.specs.declared.machine.Halt.{Halt}
use Rattle.mb_frames.specs.declared.task.Answer.TheVariants as a
use Rattle.mb_frames.specs.declared.task.Context.{Context}
use Rattle.mb_frames.specs.declared.task.Outcome.{Outcome}
use Rattle.mb_frames.specs.declared.task.Outcome.TheVariants as o
use Rattle.mb_frames.specs.declared.task.Task.{Task}
use Rattle.mb_frames.specs.declared.task.Task.TheVariants as task
use Rattle.mb_world.specs.Contained.{IsOwn}
use Rattle.mb_world.specs.Data.{Data}
use Rattle.mb_world.specs.Form.{Form}
use Rattle.mb_world.specs.Ids.{Maybe}
use Rattle.std.proofs.Common.{Bool, Err, None, Ok, Option, Result, Some, [], inl, inr, slice_get, true, ℕ, ◌<◌, ◌∷◌, ◌≡◌, ◌⊎◌}
use Rattle.std.proofs.lemmas.List.Elements.{All-nil}

-- ---- nodes

module _ (d : Data) (home : Side) where
  pub node-held : (test : Option Form → Bool) (n : ℕ) → test (slice_get (forms_at d home) n) ≡ true
      → MayHold d home (HeldNode test n)
  node-held test n h = record { within = tt; sound = h; own = λ u. All-nil (IsOwn d home) }

  pub expression-is : (id : NodeId) → IsNodeOf d home Expression id
      → is_expression (slice_get (forms_at d home) id.0) ≡ true
  expression-is id h = sort-passes is_expression_sort Expression (slice_get (forms_at d home) id.0) h

  pub evaluated-is : (id : NodeId) → IsNodeOf d home Expression id
      → is_evaluated (slice_get (forms_at d home) id.0) ≡ true
  evaluated-is id h = sort-passes is_evaluated_sort Expression (slice_get (forms_at d home) id.0) h

  pub statement-is : (id : NodeId) → IsNodeOf d home Statement id
      → is_evaluated (slice_get (forms_at d home) id.0) ≡ true
  statement-is id h = sort-passes is_evaluated_sort Statement (slice_get (forms_at d home) id.0) h

  pub expression-held : (id : NodeId) → IsNodeOf d home Expression id → MayHold d home (HeldNode is_expression id.0)
  expression-held id h = node-held is_expression id.0 (expression-is id h)

  pub evaluated-held : (id : NodeId) → MayHold d home (HeldNode is_expression id.0)
      → MayHold d home (HeldNode is_evaluated id.0)
  evaluated-held id h =
      node-held is_evaluated id.0 (expression-evaluated (slice_get (forms_at d home) id.0) h.sound)

  pub node-if-held : (id : Option NodeId)
      → Maybe (λ x. is_evaluated (slice_get (forms_at d home) x.0) ≡ true) id → MayHold d home (HeldNodeIf id)
  node-if-held None h = record { within = tt; sound = tt; own = λ u. All-nil (IsOwn d home) }
  node-if-held (Some id) h = record { within = tt; sound = h; own = λ u. All-nil (IsOwn d home) }

  pub statement-if-held : (id : Option NodeId) → Maybe (IsNodeOf d home Statement) id → MayHold d home (HeldNodeIf id)
  statement-if-held None h = node-if-held None tt
  statement-if-held (Some id) h = node-if-held (Some id) (statement-is id h)

  -- an expression or a statement
  pub either-if-held : (id : Option NodeId) → Maybe (λ x. IsNodeOf d home Expression x ⊎ IsNodeOf d home Statement x) id
      → MayHold d home (HeldNodeIf id)
  either-if-held None h = node-if-held None tt
  either-if-held (Some id) h =
      node-if-held (Some id) (elim h [ inl r ↦ evaluated-is id r | inr r ↦ statement-is id r ])

  -- ---- moves

  pub leaves-value : (x : Value) → MayHold d home (HeldValue x) → Leaves d home AValue (move.Done (o.Normal (a.Value x)))
  leaves-value x h = record { holds = (h, tt); fit = tt; gives = gives-value d home x }

  pub leaves-throw : (wanted : Sort) (x : Value) → MayHold d home (HeldValue x)
      → Leaves d home wanted (move.Done (o.Throw x))
  leaves-throw wanted x h = record { holds = (h, tt); fit = tt; gives = gives-throw d home wanted x }

  -- a statement's part ends in any way
  pub leaves-any : (y : Outcome) → Holds d home (outcome_held y) → Leaves d home ACompletion (move.Done y)
  leaves-any y h = record { holds = h; fit = tt; gives = gives-any d home y }

  pub leaves-next : (t : Task) → Holds d home (task_held t) → IsFitTask d t → Leaves d home ACompletion (move.Next t)
  leaves-next t h n = record { holds = h; fit = n; gives = gives-next d home t }

  pub leaves-anew : (t : Task) → Holds d home (task_held t) → IsFitBegun d t → Leaves d home ACompletion (move.Anew t)
  leaves-anew t h n = record { holds = h; fit = n; gives = gives-anew d home t }

  pub leaves-wait : (wanted : Sort) (y : Frame) (t : Task) → Holds d home (frame_held y) → Holds d home (task_held t)
      → IsFitFrame d y → IsFitTask d t → Gives d home wanted (move.Wait y t) → Leaves d home wanted (move.Wait y t)
  leaves-wait wanted y t h k w n g =
      record { holds = all-both (MayHold d home) (frame_held y) (task_held t) h k; fit = (w, n); gives = g }

  module _ (node : NodeId) (at : Context) (scope : Holds d home (HeldScope at.scope ∷ HeldValue at.this ∷ [])) where
    -- the task of a node
    pub evaluates : MayHold d home (HeldNode is_evaluated node.0) → Holds d home (task_held (task.Evaluate node at))
    evaluates h = (scope.0, (scope.1.0, (h, tt)))

    module _ (h : MayHold d home (HeldNode is_expression node.0)) where
      pub leaves-expression : Leaves d home AValue (move.Next (task.Evaluate node at))
      leaves-expression =
          record { holds = evaluates (evaluated-held node h); fit = tt; gives = gives-expression d home node at h.sound }

      pub leaves-waiting : (wanted : Sort) (y : Frame) → Holds d home (frame_held y) → IsFitFrame d y → waits_for y AValue ≡ true
          → fits (frame_sort (forms_at d home) y AValue) wanted ≡ true
          → Leaves d home wanted (move.Wait y (task.Evaluate node at))
      leaves-waiting wanted y k w e f = leaves-wait wanted y (task.Evaluate node at) k
          (evaluates (evaluated-held node h)) w tt
          (waits-expression d home node at h.sound wanted y e f)

-- ---- parts after parts

module _ (home : Side) (d d' : Data) (k : Changed home d d') where
  pub inside-still : home.0 < d.sides → home.0 < d'.sides
  inside-still h = rw k.found.grew.sides h

module _ (home : Side) (wanted : Sort) where
  -- where nothing changes
  pub keeps-same : (result : Result Move Halt) (d : Data) → IsReady d → LeavesBy d home wanted result
      → KeepsBy home wanted result d d
  keeps-same result d r h = record { changed = changed-same home d r; leaves = h }

  pub keeps-left : (m : Move) (d d' : Data) → Changed home d d' → Leaves d' home wanted m
      → KeepsBy home wanted (Ok m) d d'
  keeps-left m d d' k h = record { changed = k; leaves = h }

  pub keeps-halted : (halt : Halt) (d d' : Data) → Changed home d d' → KeepsBy home wanted (Err halt) d d'
  keeps-halted halt d d' k = record { changed = k; leaves = tt }

  -- after a change
  pub keeps-then : (result : Result Move Halt) (d d1 d2 : Data) → Changed home d d1
      → KeepsBy home wanted result d1 d2 → KeepsBy home wanted result d d2
  keeps-then result d d1 d2 k h = record { changed = changed-then home d d1 d2 k h.changed; leaves = h.leaves }
