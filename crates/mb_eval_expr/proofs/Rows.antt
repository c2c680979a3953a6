-- Rows of expressions as they begin.
use Rattle.std.proofs.Common.{◌+◌, ◌<◌, Err, List, None, Ok, Option, Result, Some, ap, length, refl, slice_get, suc}
use Rattle.std.proofs.Common.{sym, [], ◌∷◌, true, true≢false, ℕ, ◌∙◌, ◌≡◌}
use Rattle.mb_base.specs.declared.value.NodeId.{NodeId}
use Rattle.mb_base.specs.declared.value.Side.{Side}
use Rattle.mb_base.specs.declared.value.StrId.{StrId}
use Rattle.mb_base.specs.declared.value.Value.TheVariants as v
use Rattle.mb_frames.proofs.Forms.{forms-are}
use Rattle.mb_frames.proofs.Passed.{Part-by, Part-passed, Part-sure, Passes-by, Passes-then}
use Rattle.mb_eval_expr.proofs.Referring.{all-append}
use Rattle.mb_frames.proofs.Passed.{Part-each, Passes-each}
use Rattle.mb_eval_expr.proofs.Targeting.{layers-are}
use Rattle.mb_eval_expr.specs.declared.targets.Target.{Target}
use Rattle.mb_eval_expr.specs.declared.targets.Target.TheVariants as target
use Rattle.mb_frames.specs.Told.{numbers_of, told_at}
use Rattle.mb_world.specs.FormOf.{TreeNode, names_at}
use Rattle.mb_frames.specs.Passing.{Part}
use Rattle.mb_eval_expr.specs.machine.Plain.{is_plain}
use Rattle.mb_frames.specs.Kinds.{is_expression}
use Rattle.mb_parts.specs.Standing.{ContextIn}
use Rattle.mb_eval_expr.specs.machine.Targets.{IsOther, layers_at, targeted}
use Rattle.mb_frames.proofs.Steps.{Sure-wait}
use Rattle.mb_frames.specs.Held.{HeldIn}
use Rattle.mb_frames.specs.Holding.{frame_held, task_held}
use Rattle.mb_frames.specs.Resolved.{context_in, task_in}
use Rattle.mb_frames.specs.Rest.Parts.{parts_at}
use Rattle.mb_frames.specs.Standing.{forms_at}
use Rattle.mb_frames.specs.declared.expressions.ExprFrame.TheVariants as e
use Rattle.mb_frames.specs.declared.frame.Frame.{Frame}
use Rattle.mb_frames.specs.declared.frame.Frame.TheVariants as x
use Rattle.mb_frames.specs.declared.frame.Move.{Move}
use Rattle.mb_frames.specs.declared.frame.Move.TheVariants as move
use Rattle.mb_frames.specs.declared.machine.Halt.{Halt}
use Rattle.mb_frames.specs.declared.machine.Halt.TheVariants.{Spent as SpentHalt}
use Rattle.mb_frames.specs.declared.task.Context.{Context as AContext}
use Rattle.mb_frames.specs.declared.task.Task.{Task}
use Rattle.mb_frames.specs.declared.task.Task.TheVariants as t
use Rattle.mb_model.specs.Meaning.{finished, row}
use Rattle.mb_model.specs.Nodes.{node as node_form, node_if}
use Rattle.mb_model.specs.Nodes.Evaluation.{Context, eval}
use Rattle.mb_model.specs.Nodes.Invocations.{call_row, callee_got}
use Rattle.mb_model.specs.Nodes.References.{innermost}
use Rattle.mb_model.specs.Nodes.Scopes.{find_binding}
use Rattle.mb_model.specs.Nodes.UnaryOperators.{typeof_bound, typeof_of, typeof_value, unary}
use Rattle.mb_model.specs.Task.{Answer}
use Rattle.mb_model.specs.Writing.{◌>>=◌, Does, Row, look, pay_each, type_error}
use Rattle.mb_tree.specs.Seen.{seen}
use Rattle.mb_tree.specs.declared.form.Form.{Form as Given}
use Rattle.mb_tree.specs.declared.form.Form.TheVariants as g
use Rattle.mb_tree.specs.declared.kind.Sign.{Sign}
use Rattle.mb_tree.specs.declared.kind.Sign.TheVariants as sign
use Rattle.mb_world.specs.Data.{Data}
use Rattle.mb_world.specs.Form.{CallForm, Form, IndexForm, MemberForm, NameForm}
use Rattle.mb_world.specs.Graph.{Graph}
use Rattle.mb_world.specs.Image.{Image, names_of}
use Rattle.mb_world.specs.Value.{Undefined}

module _ (home : Side) (d : Data) (at : AContext) where
  abbrev here : Context
  here = context_in (names_of d) home.0 at

  -- the row of a task is that of its node
  pub Part-node : (r : Result Move Halt) (d' : Data) (u u' : ℕ) (node : NodeId) (form : Form) → home.0 < d.sides
      → slice_get (forms_at d home) node.0 ≡ Some form
      → Part home r d d' u u' (node_form (context_in (names_of d) home.0 at) node.0 form finished)
      → Part home r d d' u u' (row (task_in (names_of d) home.0 (t.Evaluate node at)))
  Part-node r d' u u' node form sides i s =
      Part-by home r d d' u u' (row (task_in (names_of d) home.0 (t.Evaluate node at)))
      (node_form here node.0 form finished)
      (λ log. ap (λ fs. node_if here node.0 (slice_get fs node.0) finished (Image d log)) (forms-are d home log sides)
      ∙ ap (λ o. node_if here node.0 o finished (Image d log)) i) s

  -- ---- calls

  pub not-place : (callee : ℕ) (ns : List ℕ) (y : Target) (o : Option Form) → targeted d y o
      → ((b : NodeId) (n : StrId) → y ≡ target.Member b n → ⊥) → ((b k : NodeId) → y ≡ target.Index b k → ⊥)
      → call_row here callee ns o ≡ (eval here callee >>= callee_got here ns Undefined)
  not-place callee ns (target.Name n) o h i j = rw h refl
  not-place callee ns (target.Member b n) o h i j = absurd (i b n refl)
  not-place callee ns (target.Index b k) o h i j = absurd (j b k refl)
  not-place callee ns target.Other o h i j = by o h
    where
      by : (o : Option Form) → IsOther o → call_row here callee ns o ≡ (eval here callee >>= callee_got here ns
          Undefined)
      by None h = refl
      by (Some (MemberForm b y)) h = absurd h
      by (Some (IndexForm b k)) h = absurd h
      by (Some _) h = refl

  pub Part-callee : (u : ℕ) (node callee : NodeId) → ContextIn d at
      → Part home (Ok (move.Wait (x.Expr (e.Callee at node v.Undefined)) (t.Evaluate callee at))) d d u u
      ((eval (context_in (names_of d) home.0 at) callee.0
      >>= callee_got (context_in (names_of d) home.0 at) (parts_at (forms_at d home) node.0) Undefined) finished)
  Part-callee u node callee a =
      let y : Frame = x.Expr (e.Callee at node v.Undefined) in
      let k : Task = t.Evaluate callee at in
      Part-sure home d u _ _ (Sure-wait home d y k _ _ (λ log. refl) tt (λ q i. refl)
      (all-append (HeldIn d) (frame_held y) (task_held k) (a.0, (a.1, (tt, (tt, tt)))) (a.0, (a.1, (tt, tt)))))

  pub Part-call : (r : Result Move Halt) (d' : Data) (u u' : ℕ) (node callee : NodeId) (ns : List ℕ) → home.0 < d.sides
      → parts_at (forms_at d home) node.0 ≡ ns
      → Part home r d d' u u' (call_row (context_in (names_of d) home.0 at) callee.0 (parts_at (forms_at d home) node.0)
      (innermost (layers_at d home callee.0)) finished)
      → Part home r d d' u u' (node_form (context_in (names_of d) home.0 at) node.0 (CallForm callee.0 ns) finished)
  Part-call r d' u u' node callee ns sides i s =
      Part-by home r d d' u u' (node_form here node.0 (CallForm callee.0 ns) finished)
      (call_row here callee.0 (parts_at (forms_at d home) node.0) (innermost (layers_at d home callee.0)) finished)
      (λ log. ap (λ ls. call_row here callee.0 ns (innermost ls) finished (Image d log))
      (layers-are d home callee.0 log sides)
      ∙ ap (λ ms. call_row here callee.0 ms (innermost (layers_at d home callee.0)) finished (Image d log)) (sym i)) s

  -- ---- `typeof`

  -- the names that scopes bind
  abbrev named : List ℕ → Does Answer
  named text = look (λ i. find_binding i at.scope.0 text) >>= typeof_bound home.0

  pub Part-typeof : (r : Result Move Halt) (d' : Data) (u u' u'' : ℕ) (operand : ℕ) (text : List ℕ) → home.0 < d.sides
      → u' + length (layers_at d home operand) ≡ u → innermost (layers_at d home operand) ≡ Some (NameForm text)
      → Part home r d d' u' u'' ((look (λ i. find_binding i at.scope.0 text) >>= typeof_bound home.0) finished)
      → Part home r d d' u u'' (typeof_of (context_in (names_of d) home.0 at) operand
      (innermost (layers_at d home operand)) finished)
  Part-typeof r d' u u' u'' operand text sides paid i s =
      let ls : List Form = layers_at d home operand in
      let p = typeof_of here operand (innermost ls) finished in
      let q : Graph → Row = λ j. pay_each ls (λ a. named text finished) j in
      Part-passed home r d d d' u u' u'' p (named text finished)
      (Passes-then d d d u u u' p q (named text finished)
      (Passes-by d u p q (λ log.
      ap (λ o. typeof_of here operand o finished (Image d log)) i
      ∙ ap (λ ms. pay_each ms (λ a. named text finished) (Image d log)) (layers-are d home operand log sides)))
      (Passes-each d ls u u' (λ a. named text finished) paid))
      s

  pub Part-typeof-unpaid : (u : ℕ) (operand : ℕ) (text : List ℕ) → home.0 < d.sides
      → u < length (layers_at d home operand) → innermost (layers_at d home operand) ≡ Some (NameForm text)
      → Part home (Err SpentHalt) d d u 0 (typeof_of (context_in (names_of d) home.0 at) operand
      (innermost (layers_at d home operand)) finished)
  Part-typeof-unpaid u operand text sides h i =
      let ls : List Form = layers_at d home operand in
      Part-by home (Err SpentHalt) d d u 0 (typeof_of here operand (innermost ls) finished)
      (λ j. pay_each ls (λ a. named text finished) j)
      (λ log. ap (λ o. typeof_of here operand o finished (Image d log)) i
      ∙ ap (λ ms. pay_each ms (λ a. named text finished) (Image d log)) (layers-are d home operand log sides))
      (Part-each home d ls u (λ a. named text finished) h)

  pub not-name : (operand : ℕ) (y : Target) (o : Option Form) → targeted d y o → ((n : StrId) → y ≡ target.Name n → ⊥)
      → typeof_of here operand o ≡ (eval here operand >>= typeof_value)
  not-name operand (target.Name n) o h i = absurd (i n refl)
  not-name operand (target.Member b n) o h i = rw h refl
  not-name operand (target.Index b k) o h i = rw h refl
  not-name operand target.Other o h i = by o h
    where
      by : (o : Option Form) → IsOther o → typeof_of here operand o ≡ (eval here operand >>= typeof_value)
      by None h = refl
      by (Some (NameForm y)) h = absurd h
      by (Some _) h = refl

  pub Part-typeof-eval : (u : ℕ) (operand : NodeId) → ContextIn d at
      → Part home (Ok (move.Wait (x.Expr e.Typeof) (t.Evaluate operand at))) d d u u
      ((eval (context_in (names_of d) home.0 at) operand.0 >>= typeof_value) finished)
  Part-typeof-eval u operand a =
      Part-sure home d u _ _ (Sure-wait home d (x.Expr e.Typeof) (t.Evaluate operand at) _ _ (λ log. refl) tt
      (λ q i. refl)
      (a.0, (a.1, (tt, tt))))

  pub Part-typeof-row : (r : Result Move Halt) (d' : Data) (u u' : ℕ) (operand : NodeId) → home.0 < d.sides
      → Part home r d d' u u' (typeof_of (context_in (names_of d) home.0 at) operand.0
      (innermost (layers_at d home operand.0)) finished)
      → Part home r d d' u u' (unary (context_in (names_of d) home.0 at) sign.Typeof operand.0 finished)
  Part-typeof-row r d' u u' operand sides s =
      Part-by home r d d' u u' (unary here sign.Typeof operand.0 finished)
      (typeof_of here operand.0 (innermost (layers_at d home operand.0)) finished)
      (λ log. ap (λ ls. typeof_of here operand.0 (innermost ls) finished (Image d log))
      (layers-are d home operand.0 log sides)) s

  -- ---- other operators with one operand

  pub Part-not : (u : ℕ) (operand : NodeId) → ContextIn d at
      → Part home (Ok (move.Wait (x.Expr e.Not) (t.Evaluate operand at))) d d u u
      (unary (context_in (names_of d) home.0 at) sign.Not operand.0 finished)
  Part-not u operand a =
      Part-sure home d u _ _ (Sure-wait home d (x.Expr e.Not) (t.Evaluate operand at) _ _ (λ log. refl) tt (λ q i. refl)
      (a.0, (a.1, (tt, tt))))

  pub Part-minus : (u : ℕ) (operand : NodeId) → ContextIn d at
      → Part home (Ok (move.Wait (x.Expr e.Negate) (t.Evaluate operand at))) d d u u
      (unary (context_in (names_of d) home.0 at) sign.Minus operand.0 finished)
  Part-minus u operand a =
      Part-sure home d u _ _ (Sure-wait home d (x.Expr e.Negate) (t.Evaluate operand at) _ _ (λ log. refl) tt
      (λ q i. refl)
      (a.0, (a.1, (tt, tt))))

pub other-unary : (c : Context) (n : ℕ) (y : Sign) → (y ≡ sign.Typeof → ⊥) → (y ≡ sign.Delete → ⊥) → (y ≡ sign.Not → ⊥)
    → (y ≡ sign.Minus → ⊥) → unary c y n ≡ type_error c.side
other-unary c n sign.Typeof h i j k = absurd (h refl)
other-unary c n sign.Delete h i j k = absurd (i refl)
other-unary c n sign.Not h i j k = absurd (j refl)
other-unary c n sign.Minus h i j k = absurd (k refl)
other-unary c n _ h i j k = refl

-- ---- what begins with one part, or with none

pub plain-is : (d : Data) (home : Side) (form : Given) → is_expression (Some (told_at d home (seen form))) ≡ true
    → ((n : _) → form ≡ g.Name n → ⊥) → ((a b : _) → form ≡ g.Assign a b → ⊥)
    → ((y a b : _) → form ≡ g.Compound y a b → ⊥)
    → ((p q a : _) → form ≡ g.Update p q a → ⊥) → ((a ns : _) → form ≡ g.Call a ns → ⊥)
    → ((ns : _) → form ≡ g.Seq ns → ⊥)
    → ((y a : _) → form ≡ g.Unary y a → ⊥) → ((ns : _) → form ≡ g.ArrayLit ns → ⊥)
    → ((ns : _) → form ≡ g.ObjectLit ns → ⊥)
    → ((y a : _) → form ≡ g.Function y a → ⊥) → ((y a : _) → form ≡ g.Arrow y a → ⊥) → is_plain (seen form) ≡ true
plain-is d home g.This h i j k l m n o p q r t = refl
plain-is d home (g.Number z) h i j k l m n o p q r t = refl
plain-is d home (g.Text y) h i j k l m n o p q r t = refl
plain-is d home (g.Literal y) h i j k l m n o p q r t = refl
plain-is d home (g.Group a) h i j k l m n o p q r t = refl
plain-is d home (g.Cond a b c) h i j k l m n o p q r t = refl
plain-is d home (g.Or a b) h i j k l m n o p q r t = refl
plain-is d home (g.And a b) h i j k l m n o p q r t = refl
plain-is d home (g.Binary y a b) h i j k l m n o p q r t = refl
plain-is d home (g.Member b y) h i j k l m n o p q r t = refl
plain-is d home (g.Index b a) h i j k l m n o p q r t = refl
plain-is d home (g.New a ns) h i j k l m n o p q r t = refl
plain-is d home (g.Name y) h i j k l m n o p q r t = absurd (i y refl)
plain-is d home (g.Assign a b) h i j k l m n o p q r t = absurd (j a b refl)
plain-is d home (g.Compound y a b) h i j k l m n o p q r t = absurd (k y a b refl)
plain-is d home (g.Update u v a) h i j k l m n o p q r t = absurd (l u v a refl)
plain-is d home (g.Call a ns) h i j k l m n o p q r t = absurd (m a ns refl)
plain-is d home (g.Seq ns) h i j k l m n o p q r t = absurd (n ns refl)
plain-is d home (g.Unary y a) h i j k l m n o p q r t = absurd (o y a refl)
plain-is d home (g.ArrayLit ns) h i j k l m n o p q r t = absurd (p ns refl)
plain-is d home (g.ObjectLit ns) h i j k l m n o p q r t = absurd (q ns refl)
plain-is d home (g.Function y a) h i j k l m n o p q r t = absurd (r y a refl)
plain-is d home (g.Arrow y a) h i j k l m n o p q r t = absurd (t y a refl)
plain-is d home _ h i j k l m n o p q r t = absurd (true≢false (sym h))

-- ---- Params

pub names-counted : (ns : List TreeNode) (is : List NodeId) → length (names_at ns (numbers_of is)) ≡ length is
names-counted ns [] = refl
names-counted ns (i ∷ is) = ap suc (names-counted ns is)
