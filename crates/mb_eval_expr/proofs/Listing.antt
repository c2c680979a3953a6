-- Elements of array literals, one after the other.
use Rattle.std.proofs.Common.{true, true≢false, Option, ◌≡◌, ◌∙◌, List, None, Ok, Result, Some, ap, drop, refl}
use Rattle.std.proofs.Common.{slice_get, sym, ℕ}
use Rattle.mb_base.specs.declared.value.NodeId.{NodeId}
use Rattle.mb_base.specs.declared.value.ObjId.{ObjId}
use Rattle.mb_base.specs.declared.value.Side.{Side}
use Rattle.mb_parts.proofs.Places.{drop-past}
use Rattle.mb_parts.specs.Standing.{ContextIn}
use Rattle.mb_frames.proofs.Forms.{context-grows, forms-grow}
use Rattle.mb_frames.proofs.Passed.{Part-by, Part-sure}
use Rattle.mb_frames.proofs.Steps.{Sure-wait, drop-at}
use Rattle.mb_frames.specs.Passing.{Part}
use Rattle.mb_frames.specs.Resolved.{context_in}
use Rattle.mb_frames.specs.Rest.Parts.{parts_at}
use Rattle.mb_frames.specs.Standing.{forms_at}
use Rattle.mb_frames.specs.Stepping.{Grew, Sure}
use Rattle.mb_frames.specs.declared.expressions.ExprFrame.TheVariants as e
use Rattle.mb_frames.specs.declared.frame.Frame.TheVariants as x
use Rattle.mb_frames.specs.declared.frame.Move.{Move}
use Rattle.mb_frames.specs.declared.frame.Move.TheVariants as move
use Rattle.mb_frames.specs.declared.machine.Halt.{Halt}
use Rattle.mb_frames.specs.declared.task.Context.{Context}
use Rattle.mb_frames.specs.declared.task.Task.TheVariants as t
use Rattle.mb_model.specs.Meaning.{finished}
use Rattle.mb_model.specs.Nodes.Evaluation.{Context as AContext}
use Rattle.mb_model.specs.Nodes.Literals.{elements}
use Rattle.mb_model.specs.Task.{Answer}
use Rattle.mb_model.specs.Writing.{Does, is_value}
use Rattle.mb_world.specs.Data.{Data}
use Rattle.mb_frames.specs.Kinds.{Expression, is_array_form}
use Rattle.mb_frames.specs.Told.{IsNodeOf, sort_of_parts}
use Rattle.mb_world.specs.Form.{ArrayForm, Form}
use Rattle.mb_world.specs.Ids.{HasItsIds, ObjIn}
use Rattle.mb_world.specs.Image.{Image, names_of, object_in}
use Rattle.mb_world.specs.Value.{Val}

-- the elements are the same in a world that grew
pub elements-grow : (d d' : Data) (home : Side) (at : Context) → HasItsIds d → Grew d d' → ContextIn d at
    → (node : ℕ) (a : Val) (place : ℕ)
    → elements (context_in (names_of d) home.0 at) a place (drop place (parts_at (forms_at d home) node))
    ≡ elements (context_in (names_of d') home.0 at) a place (drop place (parts_at (forms_at d' home) node))
elements-grow d d' home at i g h node a place =
    sym (ap (λ (c : AContext). elements c a place (drop place (parts_at (forms_at d' home) node)))
    (context-grows d d' home at h.1 g)
    ∙ ap (λ (fs : List Form). elements (context_in (names_of d) home.0 at) a place (drop place (parts_at fs node)))
    (forms-grow d d' home i g))

module _ (home : Side) (d : Data) (f : ℕ) (at : Context) (node : NodeId) (array : ObjId) (place : ℕ)
    (a : ContextIn d at) (o : ObjIn d array) where
  pub Part-element : (part : NodeId) → slice_get (parts_at (forms_at d home) node.0) place ≡ Some part.0
      → Part home (Ok (move.Wait (x.Expr (e.Element at node array place)) (t.Evaluate part at))) d d f f
      (elements (context_in (names_of d) home.0 at) (object_in (names_of d) array) place
      (drop place (parts_at (forms_at d home) node.0)) finished)
  Part-element part g =
      let n = names_of d in
      let ns = parts_at (forms_at d home) node.0 in
      Part-sure home d f _ _
      (Sure-wait home d (x.Expr (e.Element at node array place)) (t.Evaluate part at)
      (elements (context_in n home.0 at) (object_in n array) place (drop place ns) finished)
      _
      (λ log. ap (λ ms. elements (context_in n home.0 at) (object_in n array) place ms finished (Image d log))
      (drop-at ns place part.0 g))
      tt (λ q i. refl)
      (a.0, (a.1, (tt, (o, (a.0, (a.1, (tt, tt))))))))

  pub Part-elements : slice_get (parts_at (forms_at d home) node.0) place ≡ None → (step : Move)
      → Sure home d (is_value (object_in (names_of d) array) finished) step
      → Part home (Ok step) d d f f
      (elements (context_in (names_of d) home.0 at) (object_in (names_of d) array) place
      (drop place (parts_at (forms_at d home) node.0)) finished)
  Part-elements g step s =
      let n = names_of d in
      let ns = parts_at (forms_at d home) node.0 in
      Part-by home (Ok step) d d f f _ (is_value (object_in n array) finished)
      (λ log. ap (λ ms. elements (context_in n home.0 at) (object_in n array) place ms finished (Image d log))
      (drop-past ns place g))
      (Part-sure home d f _ step s)

-- another way to write a part
pub Part-same : (home : Side) (r : Result Move Halt) (d d' : Data) (f f' : ℕ) (p q : Does Answer) → p ≡ q
    → Part home r d d' f f' (q finished) → Part home r d d' f f' (p finished)
Part-same home r d d' f f' p q e s =
    Part-by home r d d' f f' (p finished) (q finished) (λ log. ap (λ (z : Does Answer). z finished (Image d log)) e) s

-- an element is an expression
pub array-part : (d : Data) (home : Side) (node part : NodeId) → is_array_form (slice_get (forms_at d home) node.0)
    ≡ true
    → IsNodeOf d home (sort_of_parts (slice_get (forms_at d home) node.0)) part → IsNodeOf d home Expression part
array-part d home node part h s = by (slice_get (forms_at d home) node.0) h s
  where
    by : (o : Option Form) → is_array_form o ≡ true → IsNodeOf d home (sort_of_parts o) part → IsNodeOf d home
        Expression part
    by (Some (ArrayForm ns)) k p = p
    by None k p = absurd (true≢false (sym k))
    by (Some _) k p = absurd (true≢false (sym k))
