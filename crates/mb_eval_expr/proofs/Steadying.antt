-- What a ready machine with an expression on top holds.
use Rattle.std.proofs.Common.{◌++◌, ◌≡◌, ◌∙◌, ◌∷◌, subst, List, None, Ok, Option, Some, [], slice_get, refl, sym, true}
use Rattle.std.proofs.Common.{true≢false, ℕ, Result}
use Rattle.mb_base.specs.declared.value.Side.{Side}
use Rattle.mb_base.specs.declared.value.Value.{Value}
use Rattle.mb_base.specs.declared.value.Value.TheVariants as v
use Rattle.mb_eval_expr.specs.Ours.{IsExpressionFrame, IsExpressionTask}
use Rattle.mb_eval_expr.specs.machine.Resuming.{Takes, value_held, IsGiven}
use Rattle.mb_frames.proofs.Apartness.{value-real, values-apart}
use Rattle.mb_frames.proofs.HeldLess.{object-value, undefined-held}
use Rattle.mb_frames.proofs.Steadying.{done-holds, machine-ready, step-keeps, top-holds, top-home}
use Rattle.mb_frames.proofs.Parts.{all-both}
use Rattle.mb_frames.specs.Wholeness.{StepsKept, sort_by}
use Rattle.mb_frames.specs.Kinds.{is_expression}
use Rattle.mb_frames.specs.declared.frame.Move.{Move}
use Rattle.mb_frames.specs.declared.task.Task.{Task}
use Rattle.mb_frames.specs.declared.task.Task.TheVariants as task
use Rattle.mb_frames.specs.Held.{HeldValue}
use Rattle.mb_frames.specs.Holding.{answer_held, done_held, expr_held, frame_held, task_held}
use Rattle.mb_frames.specs.Ready.{Holds, IsReady, IsReadyMachine, Keeps, KeepsBy, Leaves, MayHold}
use Rattle.mb_frames.specs.Sorts.{AFlag, ACompletion, AProperty, APrototype, ASlot, AValue, AnObject, AreLinked}
use Rattle.mb_frames.specs.Sorts.{IsAnswer, IsOfSort, SomeKeys, Sort, expr_waits, fits, form_gives, frame_sort}
use Rattle.mb_frames.specs.Sorts.{task_gives, waits_for}
use Rattle.mb_frames.specs.Standing.{Here, forms_at}
use Rattle.mb_frames.specs.Stepping.{HasItsOutcome, IsStart, MayCross, Stepped, Written}
use Rattle.mb_frames.specs.declared.expressions.ExprFrame.{ExprFrame}
use Rattle.mb_frames.specs.declared.expressions.ExprFrame.TheVariants as e
use Rattle.mb_frames.specs.declared.frame.Frame.{Frame}
use Rattle.mb_frames.specs.declared.frame.Frame.TheVariants as x
use Rattle.mb_frames.specs.declared.machine.Halt.{Halt}
use Rattle.mb_frames.specs.declared.machine.Machine.{Machine}
use Rattle.mb_frames.specs.declared.machine.Waiting.{Waiting}
use Rattle.mb_frames.specs.declared.task.Answer.{Answer}
use Rattle.mb_frames.specs.declared.task.Answer.TheVariants as a
use Rattle.mb_frames.specs.declared.task.Outcome.{Outcome}
use Rattle.mb_frames.specs.declared.task.Outcome.TheVariants as o
use Rattle.mb_world.specs.Data.{Data}
use Rattle.mb_world.specs.Form.{BlockForm, BreakForm, ConstForm, ContinueForm, DeclForm, DoWhileForm, EmptyForm}
use Rattle.mb_world.specs.Form.{ExprStmtForm, ForForm, Form, FunctionDeclForm, GetterForm, IfForm, LetForm, MethodForm}
use Rattle.mb_world.specs.Form.{ParamForm, ReturnForm, ScriptForm, SetterForm, ThrowForm, TryForm, ValueForm, WhileForm}
use Rattle.mb_world.specs.Formed.{IsNullOrObject}
use Rattle.mb_world.specs.Ids.{Maybe}

-- ---- frames of expressions

-- none of them crosses
pub no-crossing : (d : Data) (home : Side) (y : Frame) → IsExpressionFrame d home y → MayCross y → ⊥
no-crossing d home (x.Begin t) h k = k
no-crossing d home (x.Begun t) h k = k
no-crossing d home (x.Anew t) h k = k
no-crossing d home (x.Expr y) h k = k
no-crossing d home (x.Stmt y) h k = k
no-crossing d home (x.Call y) h k = k
no-crossing d home (x.Reflect y) h k = k
no-crossing d home (x.Array y) h k = k
no-crossing d home (x.Proxy y) h k = k
no-crossing d home (x.Collect y) h k = k
no-crossing d home (x.Membrane y) h k = h
no-crossing d home (x.Entry y) h k = k

-- ---- what a frame takes

-- a prototype is null or an object
prototype-is : (s : Sort) (y : Answer) → fits s APrototype ≡ true → IsAnswer s y → IsNullOrObject (value_held y)
prototype-is AnObject (a.Value v.Null) f h = absurd h
prototype-is AnObject (a.Value (v.Object id)) f h = tt
prototype-is APrototype (a.Value z) f h = h
prototype-is AnObject (a.Value v.Undefined) f h = absurd h
prototype-is AnObject (a.Value (v.Bool b)) f h = absurd h
prototype-is AnObject (a.Value (v.Whole z)) f h = absurd h
prototype-is AnObject (a.Value (v.Text t)) f h = absurd h
prototype-is AnObject (a.Value (v.Symbol t)) f h = absurd h
prototype-is AnObject _ f h = absurd h
prototype-is APrototype _ f h = absurd h
prototype-is AValue y f h = absurd (true≢false (sym f))
prototype-is AFlag y f h = absurd (true≢false (sym f))
prototype-is AProperty y f h = absurd (true≢false (sym f))
prototype-is SomeKeys y f h = absurd (true≢false (sym f))
prototype-is ASlot y f h = absurd (true≢false (sym f))
prototype-is ACompletion y f h = absurd (true≢false (sym f))

module _ (d : Data) (home : Side) (r : IsReady d) where
  pub answer-value : (y : Answer) → Holds d home (answer_held y) → MayHold d home (HeldValue (value_held y))
  answer-value (a.Value z) h = h.0
  answer-value a.Nothing h = undefined-held d home
  answer-value (a.Flag b) h = undefined-held d home
  answer-value (a.Prop p) h = undefined-held d home
  answer-value (a.Given z) h = undefined-held d home
  answer-value (a.Keys ks) h = undefined-held d home
  answer-value (a.Values vs) h = undefined-held d home
  answer-value (a.Place b k) h = undefined-held d home
  answer-value (a.Pair k z) h = undefined-held d home
  answer-value a.Empty h = undefined-held d home

  pub takes-it : (s : Sort) (y : ExprFrame) (z : Answer) → fits s (expr_waits y) ≡ true → IsAnswer s z
      → Holds d home (expr_held y) → Holds d home (answer_held z) → Takes d home y (value_held z)
  takes-it s y z f i h j = by y f h
    where
      k : MayHold d home (HeldValue (value_held z))
      k = answer-value z j

      by : (y : ExprFrame) → fits s (expr_waits y) ≡ true → Holds d home (expr_held y) → Takes d home y (value_held z)
      by (e.Callee at node this) f h = value-real d r home (value_held z) k
      by (e.Constructor at node) f h = value-real d r home (value_held z) k
      by (e.Argument at node callee this done) f h = value-real d r home callee h.1.1.1.0
      by (e.NewArgument at node callee done) f h = value-real d r home callee h.1.1.1.0
      by (e.CompoundValue at sign old to) f h = (h.1.1.1.0.sound, values-apart d r home old (value_held z) h.1.1.0 k)
      by e.Negate f h = k.sound
      by e.Typeof f h = value-real d r home (value_held z) k
      by (e.Right sign left) f h =
          (value-real d r home (value_held z) k, values-apart d r home left (value_held z) h.0 k)
      by (e.Chain prototype) f h = (
        prototype-is s z f i,
        values-apart d r home (value_held z) (v.Object prototype) k
            (object-value d home prototype h.0),
      )
      by (e.Element at node array place) f h = (r, (h.1.1.1.0, (k, tt)))
      by (e.PropKey at node object property place) f h = (r, (k, h))
      by (e.PropValue at node object place key) f h = (r, (k, h))
      by _ f h = tt

-- ---- the frame on top, and what it takes

-- an expression waits for no completion
no-completion : (y : ExprFrame) → fits ACompletion (expr_waits y) ≡ true → ⊥
no-completion (e.Put g) h = true≢false (sym h)
no-completion e.Deleted h = true≢false (sym h)
no-completion e.Has h = true≢false (sym h)
no-completion (e.Chain p) h = true≢false (sym h)
no-completion _ h = true≢false (sym h)

no-return : (s : Sort) (y : ExprFrame) (z : Value) → fits s (expr_waits y) ≡ true → IsOfSort s (o.Return z) → ⊥
no-return ACompletion y z f h = no-completion y f
no-return AnObject y z f h = h
no-return APrototype y z f h = h
no-return AValue y z f h = h
no-return AFlag y z f h = h
no-return AProperty y z f h = h
no-return SomeKeys y z f h = h
no-return ASlot y z f h = h

no-break : (s : Sort) (y : ExprFrame) → fits s (expr_waits y) ≡ true → IsOfSort s o.Break → ⊥
no-break ACompletion y f h = no-completion y f
no-break AnObject y f h = h
no-break APrototype y f h = h
no-break AValue y f h = h
no-break AFlag y f h = h
no-break AProperty y f h = h
no-break SomeKeys y f h = h
no-break ASlot y f h = h

no-continue : (s : Sort) (y : ExprFrame) → fits s (expr_waits y) ≡ true → IsOfSort s o.Continue → ⊥
no-continue ACompletion y f h = no-completion y f
no-continue AnObject y f h = h
no-continue APrototype y f h = h
no-continue AValue y f h = h
no-continue AFlag y f h = h
no-continue AProperty y f h = h
no-continue SomeKeys y f h = h
no-continue ASlot y f h = h

top-started : (below : List Waiting) (top : Waiting) (done : Option Outcome) → HasItsOutcome (below ++ (top ∷ [])) done
    → done ≡ None → IsStart top.frame
top-started [] top None h e = h
top-started [] top (Some y) h e = cc
top-started (y ∷ []) top done h e = top-started [] top done h.1 e
top-started (y ∷ z ∷ below) top done h e = top-started (z ∷ below) top done h.1 e

top-waits : (forms : Side → List Form) (below : List Waiting) (top : Waiting) (s : Sort)
    → AreLinked forms (below ++ (top ∷ [])) s → waits_for top.frame s ≡ true
top-waits forms [] top s h = h.0
top-waits forms (y ∷ below) top s h = top-waits forms below top s h.1

module _ (d : Data) (m : Machine) (below : List Waiting) (top : Waiting) (done : Option Outcome)
    (h : IsReadyMachine d m) (was : m.stack.items ≡ below ++ (top ∷ [])) (ended : done ≡ m.done)
    (ours : IsExpressionFrame d top.home top.frame) where
  started : done ≡ None → IsStart top.frame
  started e = top-started below top done (rw (← was, ended) h.formed.outcome) e

  waits : waits_for top.frame h.formed.sort ≡ true
  waits = top-waits (forms_at d) below top h.formed.sort (rw (← was) h.formed.linked)

  pub given-is : IsGiven d top.home top.frame done
  given-is = by top.frame refl done refl
    where
      by : (y : Frame) → top.frame ≡ y → (q : Option Outcome) → done ≡ q → IsGiven d top.home y q
      by (x.Expr y) i None j = subst (λ (z : Frame). IsStart z) i (started j)
      by (x.Expr y) i (Some (o.Normal z)) j =
          takes-it d top.home h.world h.formed.sort y z (subst (λ (z : Frame). waits_for z h.formed.sort ≡ true) i
          waits) (subst (λ (q : Option Outcome). Maybe (IsOfSort h.formed.sort) q) (sym ended ∙ j) h.formed.of_sort)
          (subst (λ (q : Frame). Holds d top.home (frame_held q)) i (top-holds d m below top h was))
          (subst (λ (q : Option Outcome). Holds d top.home (done_held q)) (sym ended ∙ j)
          (done-holds d m below top h was (no-crossing d top.home top.frame ours)))
      by (x.Expr y) i (Some (o.Throw z)) j = tt
      by (x.Expr y) i (Some (o.Return z)) j =
          no-return h.formed.sort y z (subst (λ (q : Frame). waits_for q h.formed.sort ≡ true) i waits)
          (subst (λ (q : Option Outcome). Maybe (IsOfSort h.formed.sort) q) (sym ended ∙ j) h.formed.of_sort)
      by (x.Expr y) i (Some o.Break) j =
          no-break h.formed.sort y (subst (λ (q : Frame). waits_for q h.formed.sort ≡ true) i waits)
          (subst (λ (q : Option Outcome). Maybe (IsOfSort h.formed.sort) q) (sym ended ∙ j) h.formed.of_sort)
      by (x.Expr y) i (Some o.Continue) j =
          no-continue h.formed.sort y (subst (λ (q : Frame). waits_for q h.formed.sort ≡ true) i waits)
          (subst (λ (q : Option Outcome). Maybe (IsOfSort h.formed.sort) q) (sym ended ∙ j) h.formed.of_sort)
      by (x.Begin t) i q j = tt
      by (x.Begun t) i q j = tt
      by (x.Anew t) i q j = tt
      by (x.Stmt y) i q j = tt
      by (x.Call y) i q j = tt
      by (x.Reflect y) i q j = tt
      by (x.Array y) i q j = tt
      by (x.Proxy y) i q j = tt
      by (x.Collect y) i q j = tt
      by (x.Membrane y) i q j = tt
      by (x.Entry y) i q j = tt

-- ---- what frames of expressions give

form-values : (f : Option Form) → is_expression f ≡ true → form_gives f ≡ AValue
form-values None h = absurd (true≢false (sym h))
form-values (Some (ScriptForm ns)) h = absurd (true≢false (sym h))
form-values (Some (LetForm ns)) h = absurd (true≢false (sym h))
form-values (Some (ConstForm ns)) h = absurd (true≢false (sym h))
form-values (Some (DeclForm n e)) h = absurd (true≢false (sym h))
form-values (Some (FunctionDeclForm n p)) h = absurd (true≢false (sym h))
form-values (Some (BlockForm ns)) h = absurd (true≢false (sym h))
form-values (Some EmptyForm) h = absurd (true≢false (sym h))
form-values (Some (ExprStmtForm e)) h = absurd (true≢false (sym h))
form-values (Some (IfForm t m e)) h = absurd (true≢false (sym h))
form-values (Some (WhileForm t b)) h = absurd (true≢false (sym h))
form-values (Some (DoWhileForm b t)) h = absurd (true≢false (sym h))
form-values (Some (ForForm f t l b)) h = absurd (true≢false (sym h))
form-values (Some (ReturnForm e)) h = absurd (true≢false (sym h))
form-values (Some (ThrowForm e)) h = absurd (true≢false (sym h))
form-values (Some BreakForm) h = absurd (true≢false (sym h))
form-values (Some ContinueForm) h = absurd (true≢false (sym h))
form-values (Some (TryForm b c m e)) h = absurd (true≢false (sym h))
form-values (Some (ParamForm n)) h = absurd (true≢false (sym h))
form-values (Some (ValueForm n e)) h = absurd (true≢false (sym h))
form-values (Some (MethodForm n p)) h = absurd (true≢false (sym h))
form-values (Some (GetterForm n p)) h = absurd (true≢false (sym h))
form-values (Some (SetterForm n p)) h = absurd (true≢false (sym h))
form-values (Some _) h = refl

task-values : (d : Data) (home : Side) (t : Task) → IsExpressionTask d home t → Holds d home (task_held t)
    → task_gives (forms_at d home) t ≡ AValue
task-values d home (task.Evaluate node at) s h =
    form-values (slice_get (forms_at d home) node.0) s
task-values d home (task.Loop node at) s h = absurd s
task-values d home (task.Chain a b) s h = refl
task-values d home (task.Walk a b c) s h = absurd s
task-values d home (task.Perform a b c e) s h = absurd s
task-values d home (task.Enter a b c) s h = absurd s
task-values d home (task.Run a b c e) s h = absurd s
task-values d home (task.Access a b c) s h = absurd s
task-values d home (task.Visit a b c e f) s h = absurd s

-- each gives a completion
frame-values : (d : Data) (home : Side) (y : Frame) (s : Sort) → IsExpressionFrame d home y
    → Holds d home (frame_held y) → frame_sort (forms_at d home) y s ≡ AValue
frame-values d home (x.Begin t) s h k = task-values d home t h k
frame-values d home (x.Begun t) s h k = absurd h
frame-values d home (x.Anew t) s h k = task-values d home t h k
frame-values d home (x.Expr y) s h k = refl
frame-values d home (x.Stmt y) s h k = absurd h
frame-values d home (x.Call y) s h k = absurd h
frame-values d home (x.Reflect y) s h k = absurd h
frame-values d home (x.Array y) s h k = absurd h
frame-values d home (x.Proxy y) s h k = absurd h
frame-values d home (x.Collect y) s h k = absurd h
frame-values d home (x.Membrane y) s h k = absurd h
frame-values d home (x.Entry y) s h k = absurd h

-- ---- what is taken

module _ (d : Data) (m : Machine) (below : List Waiting) (top : Waiting) (done : Option Outcome)
    (h : IsReadyMachine d m) (was : m.stack.items ≡ below ++ (top ∷ [])) (ended : done ≡ m.done)
    (ours : IsExpressionFrame d top.home top.frame) where
  pub taken : Holds d top.home (frame_held top.frame ++ done_held done)
  taken = all-both (MayHold d top.home) (frame_held top.frame) (done_held done) (top-holds d m below top h was)
      (rw ended (done-holds d m below top h was (no-crossing d top.home top.frame ours)))

  -- what the frame keeps that takes it
  pub took : {r : Result Move Halt} (d' : Data)
      → Keeps top.home AValue (frame_held top.frame ++ done_held done) r d d' → KeepsBy top.home AValue r d d'
  took {r} d' k = k h.world (top-home d m below top h was) taken

  pub values-sort : (s : Sort) → sort_by d top s ≡ AValue
  values-sort s = frame-values d top.home top.frame s ours (top-holds d m below top h was)

-- ---- a step

module _ (m m' : Machine) (d d' : Data) (f f' : ℕ) (l l' : Written) (q : Stepped m m' d d' f f' l l')
    (h : IsReadyMachine d m) (y : Move) (p : q.passage ≡ Here q.top.home y)
    (ours : IsExpressionFrame d q.top.home q.top.frame) (k : KeepsBy q.top.home AValue (Ok y) d d') where
  wanted : Leaves d' q.top.home (sort_by d q.top h.formed.sort) y
  wanted = subst (λ (s : Sort). Leaves d' q.top.home s y)
      (sym (values-sort d m q.below q.top m.done h q.was refl ours h.formed.sort)) k.leaves

  pub step-ready : IsReadyMachine d' m'
  step-ready = machine-ready m m' d d' f f' l l' q h y p k.changed wanted

  pub step-kept : StepsKept (Ok tt) m m' d d'
  step-kept = step-keeps m m' d d' f f' l l' q h y p k.changed wanted
