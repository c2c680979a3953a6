-- References that are read and written: an object is asked, and what is no object is told at once.
use Rattle.std.proofs.Common.{◌&&◌, ◌++◌, ◌∷◌, [], Bool, List, nat_eq, None, Ok, Option, Result, Some, ap, false, refl}
use Rattle.std.proofs.Common.{slice_get, sym, true, ℕ, ◌∙◌, ◌≡◌}
use Rattle.std.specs.Cmp.Lexicographic.{pointwise}
use Rattle.std.specs.List.{AllByRecursion}
use Rattle.std.specs.Prelude.{if◌then◌else◌}
use Rattle.mb_base.specs.declared.value.Key.{Key}
use Rattle.mb_base.specs.declared.value.ObjId.{ObjId}
use Rattle.mb_base.specs.declared.value.Side.{Side}
use Rattle.mb_base.specs.declared.value.Value.{Value}
use Rattle.mb_base.specs.declared.value.Value.TheVariants as v
use Rattle.mb_frames.proofs.Forms.{forms-grow}
use Rattle.mb_parts.proofs.Writing.{Grew-texts}
use Rattle.mb_eval_expr.specs.machine.Names.{unit_found}
use Rattle.mb_frames.proofs.Agreeing.{expr-agrees, grown-agree}
use Rattle.mb_frames.proofs.Passed.{Part-by, Part-sure}
use Rattle.mb_eval_expr.specs.declared.uses.Use.{Use}
use Rattle.mb_eval_expr.specs.declared.uses.Use.TheVariants as u
use Rattle.mb_frames.specs.Passing.{Part, TextsGrew}
use Rattle.mb_parts.specs.Standing.{ContextIn}
use Rattle.mb_eval_expr.specs.machine.Uses.{UseIn, use_frame, used}
use Rattle.mb_frames.proofs.Steps.{Sure-wait}
use Rattle.mb_frames.specs.Held.{AreIn, HeldIn}
use Rattle.mb_frames.specs.Holding.{frame_held, reference_held, task_held}
use Rattle.mb_frames.specs.Resolved.{context_in, reference_in}
use Rattle.mb_frames.specs.Rest.Expressions.{expr_rest}
use Rattle.mb_frames.specs.Standing.{forms_at}
use Rattle.mb_frames.specs.declared.expressions.ExprFrame.{ExprFrame}
use Rattle.mb_frames.specs.declared.expressions.ExprFrame.TheVariants as e
use Rattle.mb_frames.specs.declared.frame.Frame.{Frame}
use Rattle.mb_frames.specs.declared.frame.Frame.TheVariants as x
use Rattle.mb_frames.specs.declared.frame.Move.{Move}
use Rattle.mb_frames.specs.declared.frame.Move.TheVariants as move
use Rattle.mb_frames.specs.declared.machine.Halt.{Halt}
use Rattle.mb_base.specs.declared.value.NodeId.{NodeId}
use Rattle.mb_eval_expr.specs.machine.Names.{bound_to}
use Rattle.mb_frames.specs.declared.expressions.Reference.{Reference as AReference}
use Rattle.mb_frames.specs.declared.task.Context.{Context as AContext}
use Rattle.mb_model.specs.Nodes.Assignments.{assign_to}
use Rattle.mb_model.specs.Nodes.Scopes.{bound_value, value_bound}
use Rattle.mb_world.specs.Graph.{Binding}
use Rattle.mb_frames.specs.declared.task.Method.TheVariants as m
use Rattle.mb_frames.specs.declared.task.Task.{Task}
use Rattle.mb_frames.specs.declared.task.Task.TheVariants as t
use Rattle.mb_model.specs.Meaning.{finished}
use Rattle.mb_model.specs.Nodes.References.{ToPlace, put_and_give}
use Rattle.mb_model.specs.Nodes.UnaryOperators.{delete_at, delete_reference}
use Rattle.mb_model.specs.Operations.Calls.{get, getv, set_in, text_index, unit_at}
use Rattle.mb_model.specs.Task as model
use Rattle.mb_model.specs.Task.{Answer, Get, Outcome, Value as ValueAnswer}
use Rattle.mb_model.specs.Writing.{◌>>=◌, Does, Row, give, is_value, pass, reference_error, type_error, value_in}
use Rattle.mb_world.specs.Data.{AtPlace, Before, Counted, Data, Hidden, Stand}
use Rattle.mb_world.specs.Graph.{Graph}
use Rattle.mb_world.specs.Ids.{HasItsIds, KeyIn, ObjIn, ValueIn}
use Rattle.mb_world.specs.Image.{Image, Names, Resolve, key_in, names_of, object_in, stood}
use Rattle.mb_world.specs.Key.{PropertyKey}
use Rattle.mb_world.specs.Value.{BuiltIn, Object, Text, Undefined, Val, is_object, same_units}

-- ---- what a reference stands for is an object

pub object-cases : (n : Names) (o : ObjId) (P : Val → Type 0) → ((i : ℕ) → P (Object i)) → ((p : ℕ) → P (BuiltIn p))
    → P (object_in n o)
object-cases n o P a b = by (slice_get n.stands o.0)
  where
    by : (s : Option Stand) → P (stood n o.0 s)
    by (Some Counted) = a _
    by (Some (AtPlace place)) = b place
    by (Some (Before behind)) = a _
    by (Some Hidden) = a _
    by None = a _

pub object-is : (n : Names) (o : ObjId) → is_object (object_in n o) ≡ true
object-is n o = object-cases n o (λ v. is_object v ≡ true) (λ i. refl) (λ p. refl)

pub no-object : (n : Names) (x : Value) → ((o : ObjId) → x ≡ v.Object o → ⊥) → is_object (Resolve n x) ≡ false
no-object n v.Undefined h = refl
no-object n v.Null h = refl
no-object n (v.Bool b) h = refl
no-object n (v.Whole z) h = refl
no-object n (v.Text t) h = refl
no-object n (v.Symbol s) h = refl
no-object n (v.Object o) h = absurd (h o refl)

pub getv-object : (s : ℕ) (n : Names) (o : ObjId) (k : PropertyKey) → getv s (object_in n o) k ≡ get s (object_in n o) k
getv-object s n o k = object-cases n o (λ v. getv s v k ≡ get s v k) (λ i. refl) (λ p. refl)

-- ---- what is done with a value reads the value alone

used-value : (d : Data) (home : Side) (next : Use) (a : Answer)
    → expr_rest (names_of d) (forms_at d home) home.0 (use_frame next) a ≡ used d home next (value_in a)
used-value d home u.Give a = refl
used-value d home (u.Compound at sign value to) a = refl
used-value d home (u.Update at plus prefix to) a = refl
used-value d home (u.Call at node this) a = refl

pass-by : (q : Outcome) (k l : Answer → Graph → Row) (g : Graph) → ((a : Answer) → k a ≡ l a) → pass q k g ≡ pass q l g
pass-by (model.Normal a) k l g e = ap (λ p. p g) (e a)
pass-by (model.Throw y) k l g e = refl
pass-by (model.Return y) k l g e = refl
pass-by model.Break k l g e = refl
pass-by model.Continue k l g e = refl

pub all-append : {A : Type 0} (P : A → Type 0) (xs ys : List A) → AllByRecursion P xs → AllByRecursion P ys
    → AllByRecursion P (xs ++ ys)
all-append P [] ys a b = b
all-append P (x ∷ xs) ys a b = (a.0, all-append P xs ys a.1 b)

module _ (home : Side) (d : Data) (f : ℕ) where
  -- an object is asked for a property, and the frame of the use waits
  pub Part-get : (object : ObjId) (key : Key) (next : Use) (frame : ExprFrame) (task : Task)
      → frame ≡ use_frame next → task ≡ t.Perform (m.Get key (v.Object object)) object home true
      → ObjIn d object → KeyIn d key → UseIn d next
      → Part home (Ok (move.Wait (x.Expr frame) task)) d d f f
      ((getv home.0 (object_in (names_of d) object) (key_in (names_of d) key) >>= used d home next) finished)
  Part-get object key next frame task i j o k h =
      let n = names_of d in
      let ask : Task = t.Perform (m.Get key (v.Object object)) object home true in
      rw (i, j) (Part-sure home d f _ _
      (Sure-wait home d (x.Expr (use_frame next)) ask
      ((getv home.0 (object_in n object) (key_in n key) >>= used d home next) finished)
      (λ q. pass q (λ a. used d home next (value_in a) finished))
      (λ log. ap (λ (p : Does Val). (p >>= used d home next) finished (Image d log))
      (getv-object home.0 n object (key_in n key)))
      tt
      (λ q g. pass-by q (λ a. used d home next (value_in a) finished)
      (λ a. expr_rest n (forms_at d home) home.0 (use_frame next) a finished) g
      (λ a. ap (λ (p : Does Answer). p finished) (sym (used-value d home next a))))
      (all-append (HeldIn d) (frame_held (x.Expr (use_frame next))) (task_held ask) h (o, (k, (o, tt))))))

  -- an object is asked to set a property, and the value is given then
  pub Part-put : (at : AContext) (object : ObjId) (key : Key) (y gives : Value) (task : Task)
      → task ≡ t.Perform (m.Set key y (v.Object object)) object home true
      → ObjIn d object → KeyIn d key → ValueIn d y → ValueIn d gives
      → Part home (Ok (move.Wait (x.Expr (e.Put gives)) task)) d d f f
      (put_and_give (context_in (names_of d) home.0 at) (ToPlace (object_in (names_of d) object)
      (key_in (names_of d) key))
      (Resolve (names_of d) y) (Resolve (names_of d) gives) finished)
  Part-put at object key y gives task j o k h i =
      let n = names_of d in
      let ask : Task = t.Perform (m.Set key y (v.Object object)) object home true in
      rw j (Part-sure home d f _ _
      (Sure-wait home d (x.Expr (e.Put gives)) ask
      (put_and_give (context_in n home.0 at) (ToPlace (object_in n object) (key_in n key)) (Resolve n y)
      (Resolve n gives) finished)
      _
      (λ log. ap (λ b. let p : Does Answer = if b then set_in home.0 (object_in n object) (key_in n key)
      (Resolve n y) else type_error home.0 in
      (p >>= (λ a. is_value (Resolve n gives))) finished (Image d log)) (object-is n object))
      tt (λ q g. refl)
      (i, (o, (k, (h, (o, tt)))))))

  -- a value that is no object takes no property
  pub Part-refused : (r : Result Move Halt) (d' : Data) (at : AContext) (base y gives : Value) (key : PropertyKey)
      → ((o : ObjId) → base ≡ v.Object o → ⊥) → Part home r d d' f f (type_error home.0 finished)
      → Part home r d d' f f
      (put_and_give (context_in (names_of d) home.0 at) (ToPlace (Resolve (names_of d) base) key)
      (Resolve (names_of d) y) (Resolve (names_of d) gives) finished)
  Part-refused r d' at base y gives key h s =
      let n = names_of d in
      Part-by home r d d' f f _ (type_error home.0 finished)
      (λ log. ap (λ b. let p : Does Answer = if b then set_in home.0 (Resolve n base) key
      (Resolve n y) else type_error home.0 in
      (p >>= (λ a. is_value (Resolve n gives))) finished (Image d log)) (no-object n base h)) s

pub resolve-either : (n : Names) (b : Bool) (a c : Value)
    → Resolve n (if b then a else c) ≡ (if b then Resolve n a else Resolve n c)
resolve-either n true a c = refl
resolve-either n false a c = refl

pub value-either : (d : Data) (b : Bool) (a c : Value) → ValueIn d a → ValueIn d c → ValueIn d (if b then a else c)
value-either d true a c h k = h
value-either d false a c h k = k

-- what is done with a value is the same once texts were added
pub used-grows : (d d' : Data) (home : Side) → HasItsIds d → TextsGrew d d' → (next : Use) → UseIn d next → (y : Val)
    → used d' home next y ≡ used d home next y
used-grows d d' home i t next h y =
    ap (λ fs. expr_rest (names_of d') fs home.0 (use_frame next) (ValueAnswer y))
    (forms-grow d d' home i (Grew-texts d d' t))
    ∙ expr-agrees d (names_of d) (names_of d') (grown-agree d d' t.becomes.grows) home.0 (forms_at d home)
    (use_frame next) h (ValueAnswer y)

-- what a text has at a key
pub text-unit : (units : List ℕ) (i : Option ℕ) (unit : ℕ) → unit_found units i ≡ Some unit → text_index units i
    ≡ Text (unit ∷ [])
text-unit units None unit e = cc
text-unit units (Some i) unit e = ap unit_at e

pub text-none : (units : List ℕ) (i : Option ℕ) → unit_found units i ≡ None → text_index units i ≡ Undefined
text-none units None e = refl
text-none units (Some i) e = ap unit_at e

pub same-pointwise : (x y : List ℕ) → pointwise nat_eq x y ≡ same_units x y
same-pointwise [] [] = refl
same-pointwise [] (b ∷ y) = refl
same-pointwise (a ∷ x) [] = refl
same-pointwise (a ∷ x) (b ∷ y) = ap (λ p. nat_eq a b && p) (same-pointwise x y)

-- ---- names

pub read-found : (s : ℕ) (b : Option Binding) (y : Val) → bound_to b ≡ Some y → bound_value s b ≡ give y
read-found s None y e = cc
read-found s (Some b) y e = ap (value_bound s) e

pub read-missing : (s : ℕ) (b : Option Binding) → bound_to b ≡ None → bound_value s b ≡ reference_error s
read-missing s None e = refl
read-missing s (Some b) e = ap (value_bound s) e

-- ---- what follows a reference

module _ (home : Side) (d : Data) (f : ℕ) where
  pub Part-deleted : (at : AContext) (object : ObjId) (key : Key) (task : Task)
      → task ≡ t.Perform (m.Delete key) object home true → ObjIn d object → KeyIn d key
      → Part home (Ok (move.Wait (x.Expr e.Deleted) task)) d d f f
      (delete_reference (context_in (names_of d) home.0 at) (ToPlace (object_in (names_of d) object)
      (key_in (names_of d) key)) finished)
  Part-deleted at object key task j o k =
      let n = names_of d in
      let ask : Task = t.Perform (m.Delete key) object home true in
      rw j (Part-sure home d f _ _
      (Sure-wait home d (x.Expr e.Deleted) ask
      (delete_reference (context_in n home.0 at) (ToPlace (object_in n object) (key_in n key)) finished)
      _
      (λ log. ap (λ b. let p : Does Answer = if b then delete_at home.0 (key_in n key)
      (object_in n object) else type_error home.0 in
      p finished (Image d log)) (object-is n object))
      tt (λ q g. refl)
      (o, (k, tt))))

  pub Part-not-deleted : (r : Result Move Halt) (d' : Data) (at : AContext) (base : Value) (key : PropertyKey)
      → ((o : ObjId) → base ≡ v.Object o → ⊥) → Part home r d d' f f (type_error home.0 finished)
      → Part home r d d' f f (delete_reference (context_in (names_of d) home.0 at)
      (ToPlace (Resolve (names_of d) base) key) finished)
  Part-not-deleted r d' at base key h s =
      let n = names_of d in
      Part-by home r d d' f f _ (type_error home.0 finished)
      (λ log. ap (λ b. let p : Does Answer = if b then delete_at home.0 key (Resolve n base) else type_error home.0 in
      p finished (Image d log)) (no-object n base h)) s

  pub Part-assign : (at : AContext) (to : AReference) (value : NodeId) → ContextIn d at → AreIn d (reference_held to)
      → Part home (Ok (move.Wait (x.Expr (e.AssignValue at to)) (t.Evaluate value at))) d d f f
      (assign_to (context_in (names_of d) home.0 at) value.0 (reference_in (names_of d) to) finished)
  Part-assign at to value a r =
      let y : Frame = x.Expr (e.AssignValue at to) in
      let k : Task = t.Evaluate value at in
      Part-sure home d f _ _ (Sure-wait home d y k _ _ (λ log. refl) tt (λ q g. refl)
      (all-append (HeldIn d) (frame_held y) (task_held k) (a.0, (a.1, r)) (a.0, (a.1, (tt, tt)))))
