-- Charges for the nodes around an operand, and what is inside them.
use Rattle.std.proofs.Common.{◌+◌, ◌++◌, ◌<◌, append_assoc, length-append, Err, List, None, Ok, Option, Result, Some}
use Rattle.std.proofs.Common.{[], ap, arith, length, refl, slice_get, subst, suc, sym, ℕ, ◌∙◌, ◌∷◌, ◌≡◌}
use Rattle.mb_base.specs.declared.value.Side.{Side}
use Rattle.mb_frames.proofs.Forms.{forms-are}
use Rattle.mb_frames.proofs.Passed.{Part-each, Part-passed, Passes-by, Passes-each, Passes-then}
use Rattle.mb_frames.specs.Passing.{Part, Passes}
use Rattle.mb_frames.specs.Told.{told_at}
use Rattle.mb_eval_expr.specs.machine.Targets.{IsOther, layers_at}
use Rattle.mb_base.specs.declared.value.NodeId.{NodeId}
use Rattle.mb_frames.proofs.Steps.{append-none}
use Rattle.mb_tree.specs.Seen.{seen}
use Rattle.mb_tree.specs.declared.form.Form.{Form as Given}
use Rattle.mb_tree.specs.declared.form.Form.TheVariants as g
use Rattle.mb_base.specs.declared.value.StrId.{StrId}
use Rattle.mb_frames.proofs.Passed.{Part-by, Part-sure}
use Rattle.mb_eval_expr.proofs.Referring.{all-append}
use Rattle.mb_parts.specs.Standing.{ContextIn}
use Rattle.mb_frames.proofs.Steps.{Sure-wait}
use Rattle.mb_frames.specs.Held.{AreIn, HeldIn}
use Rattle.mb_frames.specs.Holding.{after_held, frame_held, task_held}
use Rattle.mb_frames.specs.Resolved.{context_in}
use Rattle.mb_frames.specs.Rest.Expressions.{after_rest}
use Rattle.mb_frames.specs.declared.expressions.After.{After}
use Rattle.mb_frames.specs.declared.expressions.ExprFrame.TheVariants as e
use Rattle.mb_frames.specs.declared.frame.Frame.{Frame}
use Rattle.mb_frames.specs.declared.frame.Frame.TheVariants as x
use Rattle.mb_frames.specs.declared.frame.Move.{Move}
use Rattle.mb_frames.specs.declared.frame.Move.TheVariants as move
use Rattle.mb_frames.specs.declared.machine.Halt.{Halt}
use Rattle.mb_frames.specs.declared.task.Context.{Context as AContext}
use Rattle.mb_frames.specs.declared.task.Task.{Task as ATask}
use Rattle.mb_frames.specs.declared.task.Task.TheVariants as k
use Rattle.mb_model.specs.Meaning.{finished}
use Rattle.mb_world.specs.Ids.{TextIn}
use Rattle.mb_frames.specs.Standing.{forms_at}
use Rattle.mb_frames.specs.declared.machine.Halt.TheVariants.{Spent as SpentHalt}
use Rattle.mb_model.specs.Nodes.Evaluation.{Context}
use Rattle.mb_model.specs.Nodes.References.{Reference, innermost, layers, layers_from, layers_if, refer, reference}
use Rattle.mb_model.specs.Task.{Answer}
use Rattle.mb_model.specs.Writing.{◌>>=◌, Does, Row, pay_each, type_error}
use Rattle.mb_world.specs.Data.{Data}
use Rattle.mb_world.specs.Form.{Form, GroupForm, IndexForm, MemberForm, NameForm}
use Rattle.mb_world.specs.Graph.{Graph, Item}
use Rattle.mb_world.specs.Image.{Image, names_of, text_in}

-- the nodes around an operand are those of the world
pub layers-are : (d : Data) (home : Side) (n : ℕ) (log : List Item) → home.0 < d.sides
    → layers (Image d log) home.0 n ≡ layers_at d home n
layers-are d home n log h = ap (λ fs. layers_from (length fs) fs n) (forms-are d home log h)

-- ---- one layer after the other

pub layers-group : (fs : List Form) (m at inner : ℕ) → slice_get fs at ≡ Some (GroupForm inner)
    → layers_from (suc m) fs at ≡ GroupForm inner ∷ layers_from m fs inner
layers-group fs m at inner e = ap (λ o. layers_if o (λ n. layers_from m fs n)) e

pub layers-past : (fs : List Form) (m at : ℕ) → slice_get fs at ≡ None → layers_from (suc m) fs at ≡ []
layers-past fs m at e = ap (λ o. layers_if o (λ n. layers_from m fs n)) e

other-layer : (d : Data) (home : Side) (form : Given) (inner : ℕ → List Form) → ((i : NodeId) → form ≡ g.Group i → ⊥)
    → layers_if (Some (told_at d home (seen form))) inner ≡ told_at d home (seen form) ∷ []
other-layer d home (g.Group i) inner h = absurd (h i refl)
other-layer d home _ inner h = refl

pub layers-other : (d : Data) (home : Side) (form : Given) (fs : List Form) (m at : ℕ)
    → slice_get fs at ≡ Some (told_at d home (seen form)) → ((i : NodeId) → form ≡ g.Group i → ⊥)
    → layers_from (suc m) fs at ≡ told_at d home (seen form) ∷ []
layers-other d home form fs m at e h =
    ap (λ o. layers_if o (λ n. layers_from m fs n)) e ∙ other-layer d home form (λ n. layers_from m fs n) h

pub innermost-last : (gs : List Form) (f : Form) → innermost (gs ++ (f ∷ [])) ≡ Some f
innermost-last [] f = refl
innermost-last (y ∷ []) f = refl
innermost-last (y ∷ z ∷ gs) f = innermost-last (z ∷ gs) f

-- so many groups were gone through
pub record Gone (layers : List Form) (step : ℕ) (rest : List Form) : Type 0 where
  pub groups : List Form
  pub all : layers ≡ groups ++ rest
  pub steps : length groups ≡ step
  pub other : IsOther (innermost groups)

pub Gone-none : (layers : List Form) → Gone layers 0 layers
Gone-none layers = record { groups = []; all = refl; steps = refl; other = tt }

pub Gone-more : (layers : List Form) (step inner : ℕ) (rest more : List Form) → Gone layers step rest
    → rest ≡ GroupForm inner ∷ more → Gone layers (step + 1) more
Gone-more layers step inner rest more h e = record {
  groups = h.groups ++ (GroupForm inner ∷ []);
  all = h.all ∙ ap (λ xs. h.groups ++ xs) e ∙ sym (append_assoc h.groups (GroupForm inner ∷ []) more);
  steps = omega (arith, length-append h.groups (GroupForm inner ∷ []), h.steps);
  other = rw (innermost-last h.groups (GroupForm inner)) tt;
}

pub Gone-end : (layers : List Form) (step : ℕ) (rest : List Form) → Gone layers step rest → rest ≡ []
    → (length layers ≡ step) × IsOther (innermost layers)
Gone-end layers step rest h e =
    let a : layers ≡ h.groups = h.all ∙ ap (λ xs. h.groups ++ xs) e ∙ append-none h.groups in
    (ap length a ∙ h.steps, rw a h.other)

pub Gone-last : (layers : List Form) (step : ℕ) (rest : List Form) (f : Form) → Gone layers step rest → rest ≡ f ∷ []
    → (length layers ≡ step + 1) × (innermost layers ≡ Some f)
Gone-last layers step rest f h e =
    let a : layers ≡ h.groups ++ (f ∷ []) = h.all ∙ ap (λ xs. h.groups ++ xs) e in
    (omega (arith, ap length a, length-append h.groups (f ∷ []), h.steps), ap innermost a ∙ innermost-last h.groups f)

-- ---- references

pub other-reference : (c : Context) (o : Option Form) → IsOther o → reference c o ≡ type_error c.side
other-reference c None h = refl
other-reference c (Some (NameForm x)) h = absurd h
other-reference c (Some (MemberForm b x)) h = absurd h
other-reference c (Some (IndexForm b k)) h = absurd h
other-reference c (Some _) h = refl

module _ (home : Side) (d : Data) (at : AContext) (node : ℕ) (after : After) (sides : home.0 < d.sides) where
  abbrev here : Context
  here = context_in (names_of d) home.0 at

  abbrev goes : Reference → Does Answer
  goes = after_rest (forms_at d home) here after

  abbrev then-on : Option Form → Answer → Graph → Row
  then-on o a = (reference here o >>= goes) finished

  around : (log : List Item) → (refer here node >>= goes) finished (Image d log)
      ≡ pay_each (layers_at d home node) (then-on (innermost (layers_at d home node))) (Image d log)
  around log = ap (λ ls. pay_each ls (then-on (innermost ls)) (Image d log)) (layers-are d home node log sides)

  -- the nodes around it were paid
  pub Part-stripped : (r : Result Move Halt) (d' : Data) (f f' f'' : ℕ) (o : Option Form)
      → f' + length (layers_at d home node) ≡ f → innermost (layers_at d home node) ≡ o
      → Part home r d d' f' f'' ((reference (context_in (names_of d) home.0 at) o
      >>= after_rest (forms_at d home) (context_in (names_of d) home.0 at) after) finished)
      → Part home r d d' f f'' ((refer (context_in (names_of d) home.0 at) node
      >>= after_rest (forms_at d home) (context_in (names_of d) home.0 at) after) finished)
  Part-stripped r d' f f' f'' o e q s =
      let ls : List Form = layers_at d home node in
      Part-passed home r d d d' f f' f'' ((refer here node >>= goes) finished) ((reference here o >>= goes) finished)
      (Passes-then d d d f f f' ((refer here node >>= goes) finished) (λ g. pay_each ls (then-on (innermost ls)) g)
      ((reference here o >>= goes) finished)
      (Passes-by d f ((refer here node >>= goes) finished) (λ g. pay_each ls (then-on (innermost ls)) g) around)
      (subst (λ p. Passes d d f f' (λ g. pay_each ls (then-on (innermost ls)) g)
      ((reference here p >>= goes) finished)) q
      (Passes-each d ls f f' (then-on (innermost ls)) e)))
      s

  -- they couldn't be paid
  pub Part-not-stripped : (f : ℕ) → f < length (layers_at d home node)
      → Part home (Err SpentHalt) d d f 0 ((refer (context_in (names_of d) home.0 at) node
      >>= after_rest (forms_at d home) (context_in (names_of d) home.0 at) after) finished)
  Part-not-stripped f u =
      let ls : List Form = layers_at d home node in
      Part-by home (Err SpentHalt) d d f 0 ((refer here node >>= goes) finished)
      (λ g. pay_each ls (then-on (innermost ls)) g) around
      (Part-each home d ls f (then-on (innermost ls)) u)

  pub Part-member : (f : ℕ) (base : NodeId) (name : StrId) → ContextIn d at → TextIn d name → AreIn d (after_held after)
      → Part home (Ok (move.Wait (x.Expr (e.MemberBase at name after)) (k.Evaluate base at))) d d f f
      ((reference (context_in (names_of d) home.0 at) (Some (MemberForm base.0 (text_in (names_of d) name)))
      >>= after_rest (forms_at d home) (context_in (names_of d) home.0 at) after) finished)
  Part-member f base name a t h =
      let y : Frame = x.Expr (e.MemberBase at name after) in
      let ask : ATask = k.Evaluate base at in
      Part-sure home d f _ _ (Sure-wait home d y ask _ _ (λ log. refl) tt (λ q g. refl)
      (all-append (HeldIn d) (frame_held y) (task_held ask) (a.0, (a.1, (t, h))) (a.0, (a.1, (tt, tt)))))

  pub Part-index : (f : ℕ) (base key : NodeId) → ContextIn d at → AreIn d (after_held after)
      → Part home (Ok (move.Wait (x.Expr (e.IndexBase at key after)) (k.Evaluate base at))) d d f f
      ((reference (context_in (names_of d) home.0 at) (Some (IndexForm base.0 key.0))
      >>= after_rest (forms_at d home) (context_in (names_of d) home.0 at) after) finished)
  Part-index f base key a h =
      let y : Frame = x.Expr (e.IndexBase at key after) in
      let ask : ATask = k.Evaluate base at in
      Part-sure home d f _ _ (Sure-wait home d y ask _ _ (λ log. refl) tt (λ q g. refl)
      (all-append (HeldIn d) (frame_held y) (task_held ask) (a.0, (a.1, (tt, h))) (a.0, (a.1, (tt, tt)))))

  pub Part-other : (r : Result Move Halt) (d' : Data) (f : ℕ) (o : Option Form) → IsOther o
      → Part home r d d' f f (type_error home.0 finished)
      → Part home r d d' f f ((reference (context_in (names_of d) home.0 at) o
      >>= after_rest (forms_at d home) (context_in (names_of d) home.0 at) after) finished)
  Part-other r d' f o h s =
      Part-by home r d d' f f ((reference here o >>= goes) finished) (type_error home.0 finished)
      (λ log. ap (λ (p : Does Reference). (p >>= goes) finished (Image d log)) (other-reference here o h)) s
