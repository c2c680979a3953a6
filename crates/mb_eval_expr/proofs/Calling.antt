-- Calls and `new`: the next argument is evaluated, or what has them all is called.
use Rattle.std.proofs.Common.{◌+◌, List, None, Ok, Result, Some, ap, drop, false, length, refl, slice_get, true, ℕ, ◌∙◌}
use Rattle.std.proofs.Common.{◌≡◌}
use Rattle.std.specs.Prelude.{All}
use Rattle.mb_base.specs.declared.value.NodeId.{NodeId}
use Rattle.mb_base.specs.declared.value.ObjId.{ObjId}
use Rattle.mb_base.specs.declared.value.Side.{Side}
use Rattle.mb_base.specs.declared.value.Value.{Value}
use Rattle.mb_base.specs.declared.value.Value.TheVariants as v
use Rattle.mb_frames.proofs.Passed.{Part-by, Part-sure}
use Rattle.mb_frames.specs.Passing.{Part}
use Rattle.mb_parts.specs.Standing.{ContextIn}
use Rattle.mb_frames.proofs.Steps.{Sure-by, Sure-wait, drop-at}
use Rattle.mb_frames.specs.Resolved.{context_in, method_in, values_in}
use Rattle.mb_frames.specs.Rest.Parts.{parts_at}
use Rattle.mb_frames.specs.Standing.{forms_at}
use Rattle.mb_frames.specs.Stepping.{Sure}
use Rattle.mb_frames.specs.declared.expressions.ExprFrame.TheVariants as e
use Rattle.mb_frames.specs.declared.frame.Frame.TheVariants as x
use Rattle.mb_frames.specs.declared.frame.Move.{Move}
use Rattle.mb_frames.specs.declared.frame.Move.TheVariants as move
use Rattle.mb_frames.specs.declared.machine.Halt.{Halt}
use Rattle.mb_frames.specs.declared.task.Context.{Context}
use Rattle.mb_frames.specs.declared.task.Method.TheVariants as m
use Rattle.mb_frames.specs.declared.task.Task.TheVariants as t
use Rattle.mb_model.specs.Meaning.{finished}
use Rattle.mb_model.specs.Nodes.Invocations.{arguments, call_all, call_if, new_all, new_if, sequence}
use Rattle.mb_model.specs.Task.{Call, Construct}
use Rattle.mb_model.specs.Writing.{◌>>=◌, answer, is_value, perform, type_error}
use Rattle.mb_world.specs.Data.{Data}
use Rattle.mb_world.specs.Graph.{Item}
use Rattle.mb_world.specs.Ids.{ValueIn}
use Rattle.mb_world.specs.Image.{Image, Resolve, names_of, object_in}
use Rattle.mb_world.specs.Objects.{is_callable, is_constructor}
use Rattle.mb_parts.proofs.Places.{drop-past}

module _ (home : Side) (d : Data) (f : ℕ) where
  pub Part-called : (callee : Value) (object : ObjId) (this : Value) (vs : List Value) (step : Move)
      → callee ≡ v.Object object → ((log : List Item) → is_callable (Image d log) (Resolve (names_of d) callee) ≡ true)
      → Sure home d (answer (perform home.0 (method_in (names_of d) (m.Call this vs))
      (object_in (names_of d) object)) finished) step
      → Part home (Ok step) d d f f (call_all home.0 (Resolve (names_of d) callee) (Resolve (names_of d) this)
      (values_in (names_of d) vs) finished)
  Part-called callee object this vs step i h s =
      let n = names_of d in
      Part-sure home d f (call_all home.0 (Resolve n callee) (Resolve n this) (values_in n vs) finished) step
      (Sure-by home d (call_all home.0 (Resolve n callee) (Resolve n this) (values_in n vs) finished)
      (answer (perform home.0 (Call (Resolve n this) (values_in n vs)) (object_in n object)) finished) step
      (λ log. ap (λ b. call_if home.0 (Resolve n callee) (Resolve n this) (values_in n vs) b finished (Image d log))
      (h log)
      ∙ ap (λ y. answer (perform home.0 (Call (Resolve n this) (values_in n vs)) (Resolve n y)) finished
      (Image d log)) i) s)

  pub Part-uncalled : (r : Result Move Halt) (d' : Data) (callee this : Value) (vs : List Value)
      → ((log : List Item) → is_callable (Image d log) (Resolve (names_of d) callee) ≡ false)
      → Part home r d d' f f (type_error home.0 finished)
      → Part home r d d' f f (call_all home.0 (Resolve (names_of d) callee) (Resolve (names_of d) this)
      (values_in (names_of d) vs) finished)
  Part-uncalled r d' callee this vs h s =
      let n = names_of d in
      Part-by home r d d' f f (call_all home.0 (Resolve n callee) (Resolve n this) (values_in n vs) finished)
      (type_error home.0 finished)
      (λ log. ap (λ b. call_if home.0 (Resolve n callee) (Resolve n this) (values_in n vs) b finished (Image d log))
      (h log)) s

  pub Part-made : (callee : Value) (object : ObjId) (vs : List Value) (step : Move)
      → callee ≡ v.Object object → ((log : List Item) → is_constructor (Image d log) (Resolve (names_of d) callee)
      ≡ true)
      → Sure home d (answer (perform home.0 (method_in (names_of d) (m.Construct vs (v.Object object)))
      (object_in (names_of d) object)) finished) step
      → Part home (Ok step) d d f f (new_all home.0 (Resolve (names_of d) callee) (values_in (names_of d) vs) finished)
  Part-made callee object vs step i h s =
      let n = names_of d in
      Part-sure home d f (new_all home.0 (Resolve n callee) (values_in n vs) finished) step
      (Sure-by home d (new_all home.0 (Resolve n callee) (values_in n vs) finished)
      (answer (perform home.0 (Construct (values_in n vs) (object_in n object)) (object_in n object)) finished) step
      (λ log. ap (λ b. new_if home.0 (Resolve n callee) (values_in n vs) b finished (Image d log)) (h log)
      ∙ ap (λ y. answer (perform home.0 (Construct (values_in n vs) (Resolve n y)) (Resolve n y)) finished
      (Image d log)) i) s)

  pub Part-unmade : (r : Result Move Halt) (d' : Data) (callee : Value) (vs : List Value)
      → ((log : List Item) → is_constructor (Image d log) (Resolve (names_of d) callee) ≡ false)
      → Part home r d d' f f (type_error home.0 finished)
      → Part home r d d' f f (new_all home.0 (Resolve (names_of d) callee) (values_in (names_of d) vs) finished)
  Part-unmade r d' callee vs h s =
      let n = names_of d in
      Part-by home r d d' f f (new_all home.0 (Resolve n callee) (values_in n vs) finished) (type_error home.0 finished)
      (λ log. ap (λ b. new_if home.0 (Resolve n callee) (values_in n vs) b finished (Image d log)) (h log)) s

  module _ (at : Context) (node : NodeId) (callee : Value) (vs : List Value)
      (a : ContextIn d at) (k : ValueIn d callee) (o : All (ValueIn d) vs) where
    pub Part-argument : (next : NodeId) (this : Value) → ValueIn d this
        → slice_get (parts_at (forms_at d home) node.0) (length vs) ≡ Some next.0
        → Part home (Ok (move.Wait (x.Expr (e.Argument at node callee this vs)) (t.Evaluate next at))) d d f f
        ((arguments (context_in (names_of d) home.0 at) (drop (length vs) (parts_at (forms_at d home) node.0))
        (values_in (names_of d) vs)
        >>= call_all home.0 (Resolve (names_of d) callee) (Resolve (names_of d) this)) finished)
    Part-argument next this h g =
        let n = names_of d in
        let ns = parts_at (forms_at d home) node.0 in
        Part-sure home d f _ _
        (Sure-wait home d (x.Expr (e.Argument at node callee this vs)) (t.Evaluate next at)
        ((arguments (context_in n home.0 at) (drop (length vs) ns) (values_in n vs) >>= call_all home.0
        (Resolve n callee) (Resolve n this)) finished)
        _
        (λ log. ap (λ ms. (arguments (context_in n home.0 at) ms (values_in n vs) >>= call_all home.0
        (Resolve n callee) (Resolve n this)) finished (Image d log))
        (drop-at ns (length vs) next.0 g))
        tt (λ q i. refl)
        (a.0, (a.1, (tt, (k, (h, (o, (a.0, (a.1, (tt, tt))))))))))

    pub Part-argument-new : (next : NodeId)
        → slice_get (parts_at (forms_at d home) node.0) (length vs) ≡ Some next.0
        → Part home (Ok (move.Wait (x.Expr (e.NewArgument at node callee vs)) (t.Evaluate next at))) d d f f
        ((arguments (context_in (names_of d) home.0 at) (drop (length vs) (parts_at (forms_at d home) node.0))
        (values_in (names_of d) vs)
        >>= new_all home.0 (Resolve (names_of d) callee)) finished)
    Part-argument-new next g =
        let n = names_of d in
        let ns = parts_at (forms_at d home) node.0 in
        Part-sure home d f _ _
        (Sure-wait home d (x.Expr (e.NewArgument at node callee vs)) (t.Evaluate next at)
        ((arguments (context_in n home.0 at) (drop (length vs) ns) (values_in n vs) >>= new_all home.0
        (Resolve n callee)) finished)
        _
        (λ log. ap (λ ms. (arguments (context_in n home.0 at) ms (values_in n vs) >>= new_all home.0
        (Resolve n callee)) finished (Image d log))
        (drop-at ns (length vs) next.0 g))
        tt (λ q i. refl)
        (a.0, (a.1, (tt, (k, (o, (a.0, (a.1, (tt, tt)))))))))

    pub Part-arguments : (r : Result Move Halt) (d' : Data) (this : Value)
        → slice_get (parts_at (forms_at d home) node.0) (length vs) ≡ None
        → Part home r d d' f f (call_all home.0 (Resolve (names_of d) callee) (Resolve (names_of d) this)
        (values_in (names_of d) vs) finished)
        → Part home r d d' f f
        ((arguments (context_in (names_of d) home.0 at) (drop (length vs) (parts_at (forms_at d home) node.0))
        (values_in (names_of d) vs)
        >>= call_all home.0 (Resolve (names_of d) callee) (Resolve (names_of d) this)) finished)
    Part-arguments r d' this g s =
        let n = names_of d in
        let ns = parts_at (forms_at d home) node.0 in
        Part-by home r d d' f f _ (call_all home.0 (Resolve n callee) (Resolve n this) (values_in n vs) finished)
        (λ log. ap (λ ms. (arguments (context_in n home.0 at) ms (values_in n vs) >>= call_all home.0
        (Resolve n callee) (Resolve n this)) finished (Image d log))
        (drop-past ns (length vs) g)) s

    pub Part-arguments-new : (r : Result Move Halt) (d' : Data)
        → slice_get (parts_at (forms_at d home) node.0) (length vs) ≡ None
        → Part home r d d' f f (new_all home.0 (Resolve (names_of d) callee) (values_in (names_of d) vs) finished)
        → Part home r d d' f f
        ((arguments (context_in (names_of d) home.0 at) (drop (length vs) (parts_at (forms_at d home) node.0))
        (values_in (names_of d) vs)
        >>= new_all home.0 (Resolve (names_of d) callee)) finished)
    Part-arguments-new r d' g s =
        let n = names_of d in
        let ns = parts_at (forms_at d home) node.0 in
        Part-by home r d d' f f _ (new_all home.0 (Resolve n callee) (values_in n vs) finished)
        (λ log. ap (λ ms. (arguments (context_in n home.0 at) ms (values_in n vs) >>= new_all home.0
        (Resolve n callee)) finished (Image d log))
        (drop-past ns (length vs) g)) s

  module _ (at : Context) (node : NodeId) (a : ContextIn d at) where
    pub Part-sequence : (part : NodeId) (next : ℕ) (y : Value) → ValueIn d y
        → slice_get (parts_at (forms_at d home) node.0) next ≡ Some part.0
        → Part home (Ok (move.Wait (x.Expr (e.Seq at node (next + 1))) (t.Evaluate part at))) d d f f
        (sequence (context_in (names_of d) home.0 at) (drop next (parts_at (forms_at d home) node.0))
        (Resolve (names_of d) y) finished)
    Part-sequence part next y h g =
        let n = names_of d in
        let ns = parts_at (forms_at d home) node.0 in
        Part-sure home d f _ _
        (Sure-wait home d (x.Expr (e.Seq at node (next + 1))) (t.Evaluate part at)
        (sequence (context_in n home.0 at) (drop next ns) (Resolve n y) finished)
        _
        (λ log. ap (λ ms. sequence (context_in n home.0 at) ms (Resolve n y) finished (Image d log))
        (drop-at ns next part.0 g))
        tt (λ q i. refl)
        (a.0, (a.1, (tt, (a.0, (a.1, (tt, tt)))))))

    pub Part-sequenced : (next : ℕ) (y : Value) → ValueIn d y → slice_get (parts_at (forms_at d home) node.0) next
        ≡ None
        → (step : Move) → Sure home d (is_value (Resolve (names_of d) y) finished) step
        → Part home (Ok step) d d f f
        (sequence (context_in (names_of d) home.0 at) (drop next (parts_at (forms_at d home) node.0))
        (Resolve (names_of d) y) finished)
    Part-sequenced next y h g step s =
        let n = names_of d in
        let ns = parts_at (forms_at d home) node.0 in
        Part-by home (Ok step) d d f f _ (is_value (Resolve n y) finished)
        (λ log. ap (λ ms. sequence (context_in n home.0 at) ms (Resolve n y) finished (Image d log))
        (drop-past ns next g))
        (Part-sure home d f _ step s)
