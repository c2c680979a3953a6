-- Bodies of functions: the next statement, or the expression of an arrow function.
use Rattle.std.proofs.Common.{◌≡◌, ◌+◌, ◌∷◌, Bool, List, None, Some, [], ap, drop, false, refl, slice_get, true, ℕ}
use Rattle.mb_base.specs.declared.value.NodeId.{NodeId}
use Rattle.mb_base.specs.declared.value.Side.{Side}
use Rattle.mb_call.specs.machine.Functions.{sort_by_block}
use Rattle.mb_frames.proofs.Keeping.{evaluated-is, expression-is, leaves-wait, leaves-waiting, node-held, statement-is}
use Rattle.mb_frames.proofs.Linking.{completes}
use Rattle.mb_frames.proofs.Steps.{Sure-wait, drop-at}
use Rattle.mb_frames.specs.Holding.{call_held}
use Rattle.mb_frames.specs.Kinds.{Expression, is_evaluated, is_expression}
use Rattle.mb_frames.specs.Ready.{Holds, Leaves}
use Rattle.mb_frames.specs.Resolved.{context_in}
use Rattle.mb_frames.specs.Rest.Parts.{body_at}
use Rattle.mb_frames.specs.Sorts.{AValue, form_gives}
use Rattle.mb_frames.specs.Standing.{forms_at}
use Rattle.mb_frames.specs.Stepping.{Sure}
use Rattle.mb_frames.specs.Told.{IsNodeOf}
use Rattle.mb_frames.specs.declared.calls.CallFrame.TheVariants as y
use Rattle.mb_frames.specs.declared.frame.Frame.TheVariants as x
use Rattle.mb_frames.specs.declared.frame.Move.TheVariants as move
use Rattle.mb_frames.specs.declared.task.Context.{Context}
use Rattle.mb_frames.specs.declared.task.Task.TheVariants as task
use Rattle.mb_model.specs.Meaning.{finished}
use Rattle.mb_model.specs.Nodes.Evaluation.{Context as AContext}
use Rattle.mb_model.specs.Nodes.Functions.{body, body_or_value}
use Rattle.mb_world.specs.Data.{Data}
use Rattle.mb_world.specs.Image.{Image, names_of}

-- a list with a first element begins with it
first-of : (ns : List ℕ) (n : ℕ) → slice_get ns 0 ≡ Some n → ns ≡ n ∷ drop 1 ns
first-of [] n e = cc
first-of (m ∷ ns) n e = cc

pub none-of : (ns : List ℕ) → slice_get ns 0 ≡ None → ns ≡ []
none-of [] e = refl
none-of (m ∷ ns) e = cc

module _ (d : Data) (home : Side) (at : Context) (node part : NodeId)
    (h : Holds d home (call_held (y.Statement at node 0))) where
  part-evaluated : (b : Bool) → IsNodeOf d home (sort_by_block b) part
      → is_evaluated (slice_get (forms_at d home) part.0) ≡ true
  part-evaluated true k = statement-is d home part k
  part-evaluated false k = evaluated-is d home part k

  -- a statement of a body is evaluated
  pub next-statement : (next nx : ℕ) → slice_get (body_at (forms_at d home) node.0) next ≡ Some part.0 → nx ≡ next + 1
      → Sure home d
      (body (context_in (names_of d) home.0 at) (drop next (body_at (forms_at d home) node.0)) finished)
      (move.Wait (x.Call (y.Statement at node nx)) (task.Evaluate part at))
  next-statement next nx e n =
      let c : AContext = context_in (names_of d) home.0 at in
      let ns : List ℕ = body_at (forms_at d home) node.0 in
      rw n
      (Sure-wait home d (x.Call (y.Statement at node (next + 1))) (task.Evaluate part at)
      (body c (drop next ns) finished) _
      (λ log. ap (λ (ms : List ℕ). body c ms finished (Image d log)) (drop-at ns next part.0 e)) tt (λ q g. refl)
      (h.0.within, (h.1.0.within, (tt, (h.0.within, (h.1.0.within, (tt, tt)))))))

  pub leaves-statement : (nx : ℕ) (b : Bool) → IsNodeOf d home (sort_by_block b) part
      → Leaves d home AValue (move.Wait (x.Call (y.Statement at node nx)) (task.Evaluate part at))
  leaves-statement nx b k =
      leaves-wait d home AValue (x.Call (y.Statement at node nx)) (task.Evaluate part at) h
      (h.0, (h.1.0, (node-held d home is_evaluated part.0 (part-evaluated b k), tt))) tt tt
      (completes (form_gives (slice_get (forms_at d home) part.0)), refl)

  -- the expression of an arrow function is evaluated
  pub next-value : slice_get (body_at (forms_at d home) node.0) 0 ≡ Some part.0
      → Sure home d
      (body_or_value (context_in (names_of d) home.0 at) false (body_at (forms_at d home) node.0) finished)
      (move.Wait (x.Call y.ArrowValue) (task.Evaluate part at))
  next-value e =
      let c : AContext = context_in (names_of d) home.0 at in
      let ns : List ℕ = body_at (forms_at d home) node.0 in
      Sure-wait home d (x.Call y.ArrowValue) (task.Evaluate part at) (body_or_value c false ns finished) _
      (λ log. ap (λ (ms : List ℕ). body_or_value c false ms finished (Image d log)) (first-of ns part.0 e)) tt
      (λ q g. refl) (h.0.within, (h.1.0.within, (tt, tt)))

  pub leaves-expression : IsNodeOf d home Expression part
      → Leaves d home AValue (move.Wait (x.Call y.ArrowValue) (task.Evaluate part at))
  leaves-expression k =
      leaves-waiting d home part at (h.0, (h.1.0, tt)) (node-held d home is_expression part.0
      (expression-is d home part k)) AValue
      (x.Call y.ArrowValue) tt tt refl refl
