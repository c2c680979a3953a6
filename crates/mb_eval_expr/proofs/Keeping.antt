-- What parts keep: what they leave may be held, what they hold may be held still after a change, and parts after parts.
use Rattle.mb_base.specs.declared.value.NodeId.{NodeId}
use Rattle.mb_base.specs.declared.value.ObjId.{ObjId}
use Rattle.mb_base.specs.declared.value.Side.{Side}
use Rattle.mb_base.specs.declared.value.Value.{Value}
use Rattle.mb_frames.proofs.Keeping.{keeps-halted, keeps-left, keeps-same, keeps-then, leaves-waiting}
use Rattle.mb_frames.proofs.Leaving.{holds-still}
use Rattle.mb_frames.proofs.Readying.{changed-same}
use Rattle.mb_frames.specs.Held.{Held, HeldNode, HeldObject, HeldSign, HeldScope, HeldValue}
use Rattle.mb_frames.specs.Grammatical.{asks_objects}
use Rattle.mb_tree.specs.declared.kind.Sign.{Sign}
use Rattle.mb_frames.specs.Holding.{expr_held, method_held}
use Rattle.mb_frames.specs.Kinds.{Expression, is_expression, is_call_form, is_new_form, is_seq_form}
use Rattle.mb_frames.specs.Ready.{Changed, Holds, IsReady, KeepsBy, Leaves, MayHold}
use Rattle.mb_frames.specs.Sorts.{AValue, expr_waits, fits, method_gives}
use Rattle.mb_frames.specs.Standing.{forms_at}
use Rattle.mb_frames.specs.Told.{IsNodeOf, sort_of_parts}
use Rattle.mb_frames.specs.declared.expressions.ExprFrame.{ExprFrame}
use Rattle.mb_frames.specs.declared.frame.Frame.TheVariants as x
use Rattle.mb_frames.specs.declared.frame.Move.{Move}
use Rattle.mb_frames.specs.declared.frame.Move.TheVariants as move
use Rattle.mb_frames.specs.declared.machine.Halt.{Halt}
use Rattle.mb_frames.specs.declared.task.Context.{Context}
use Rattle.mb_frames.specs.declared.task.Method.{Method}
use Rattle.mb_frames.specs.declared.task.Task.TheVariants as t
use Rattle.mb_world.specs.Contained.{IsOwn, scope_home}
use Rattle.mb_world.specs.Formed.{is_whole}
use Rattle.mb_world.specs.Data.{Data}
use Rattle.mb_world.specs.Form.{CallForm, NewForm, SeqForm, Form}
use Rattle.mb_eval_expr.specs.machine.Keeping.{IsPlainValue, context_held}
use Rattle.mb_base.specs.declared.value.Value.TheVariants as v
use Rattle.mb_world.specs.Ids.{ScopeIn, ValueIn}
use Rattle.mb_base.specs.declared.value.ScopeId.{ScopeId}
use Rattle.mb_eval_expr.specs.declared.uses.Use.{Use}
use Rattle.mb_eval_expr.specs.declared.uses.Use.TheVariants as u
use Rattle.mb_eval_expr.specs.machine.Uses.{use_frame}
use Rattle.mb_model.specs.Operations.Conversions.{in_range}
use Rattle.std.proofs.lemmas.Bool.Decides.{nat_tests}
use Rattle.std.specs.Int.Signed.{mag}
use Rattle.std.proofs.Common.{Bool, Err, arith, negsuc, pos, suc, zero, ℕ, ℤ, ◌^◌, ◌-ℤ◌, None, Ok, Option, Result, Some}
use Rattle.std.proofs.Common.{[], false, refl, slice_get, sym, true, true≢false, ◌<◌, ◌∷◌, ◌≡◌}
use Rattle.std.proofs.lemmas.List.Elements.{All-nil}
use Rattle.std.specs.Prelude.{if◌then◌else◌}
use Rattle.mb_frames.proofs.Parts.{all-both}

-- ---- what may be held

module _ (d : Data) (home : Side) where
  pub plain-held : (y : Value) → IsPlainValue y → ValueIn d y → MayHold d home (HeldValue y)
  plain-held v.Undefined h i = record { within = i; sound = tt; own = λ u. All-nil (IsOwn d home) }
  plain-held v.Null h i = record { within = i; sound = tt; own = λ u. All-nil (IsOwn d home) }
  plain-held (v.Bool b) h i = record { within = i; sound = tt; own = λ u. All-nil (IsOwn d home) }
  plain-held (v.Whole z) h i = record { within = i; sound = h; own = λ u. All-nil (IsOwn d home) }
  plain-held (v.Text text) h i = record { within = i; sound = tt; own = λ u. All-nil (IsOwn d home) }
  plain-held (v.Symbol symbol) h i = record { within = i; sound = tt; own = λ u. All-nil (IsOwn d home) }
  plain-held (v.Object id) h i = absurd h

  -- ---- what is left

  pub waits-node : (y : ExprFrame) (node : NodeId) (at : Context) → expr_waits y ≡ AValue → Holds d home (expr_held y)
      → Holds d home (context_held at) → MayHold d home (HeldNode is_expression node.0)
      → Leaves d home AValue (move.Wait (x.Expr y) (t.Evaluate node at))
  waits-node y node at e w c h = leaves-waiting d home node at c h AValue (x.Expr y) w tt (rw e refl) refl

  pub waits-asks : (y : ExprFrame) (method : Method) (object : ObjId) → fits (method_gives method) (expr_waits y) ≡ true
      → Holds d home (expr_held y) → MayHold d home (HeldObject object) → Holds d home (method_held object method)
      → Leaves d home AValue (move.Wait (x.Expr y) (t.Perform method object home true))
  waits-asks y method object e w q h = record {
    holds = all-both (MayHold d home) (expr_held y) _ w (q, h);
    fit = (tt, tt);
    gives = (e, refl);
  }

-- ---- parts that keep

pub kept-left : {m : Move} (home : Side) (d : Data) → IsReady d → Leaves d home AValue m
    → KeepsBy home AValue (Ok m) d d
kept-left {m} home d r l = keeps-same home AValue (Ok m) d r l

pub kept-now : {m : Move} (home : Side) (d d' : Data) → Changed home d d' → Leaves d' home AValue m
    → KeepsBy home AValue (Ok m) d d'
kept-now {m} home d d' c l = keeps-left home AValue m d d' c l

pub kept-halted : {halt : Halt} (home : Side) (d d' : Data) → Changed home d d' → KeepsBy home AValue (Err halt) d d'
kept-halted {halt} home d d' c = keeps-halted home AValue halt d d' c

pub kept-still : {halt : Halt} (home : Side) (d : Data) → IsReady d → KeepsBy home AValue (Err halt) d d
kept-still home d r = kept-halted home d d (changed-same home d r)

module _ (home : Side) (d d1 : Data) (g : Changed home d d1) where
  pub kept-then : {result : Result Move Halt} (d2 : Data) → KeepsBy home AValue result d1 d2
      → KeepsBy home AValue result d d2
  kept-then {result} d2 q = keeps-then home AValue result d d1 d2 g q

  pub stays : {y : Held} → IsReady d → MayHold d home y → MayHold d1 home y
  stays {y} r h = (holds-still home d d1 r g (y ∷ []) (h, tt)).0

-- ---- parts of nodes

module _ (d : Data) (home : Side) (node part : NodeId) where
  abbrev form : Option Form
  form = slice_get (forms_at d home) node.0

  pub seq-part : is_seq_form form ≡ true → IsNodeOf d home (sort_of_parts form) part → IsNodeOf d home Expression part
  seq-part h s = by form h s
    where
      by : (o : Option Form) → is_seq_form o ≡ true → IsNodeOf d home (sort_of_parts o) part
          → IsNodeOf d home Expression part
      by (Some (SeqForm values)) k p = p
      by None k p = absurd (true≢false (sym k))
      by (Some _) k p = absurd (true≢false (sym k))

  pub call-part : is_call_form form ≡ true → IsNodeOf d home (sort_of_parts form) part → IsNodeOf d home Expression part
  call-part h s = by form h s
    where
      by : (o : Option Form) → is_call_form o ≡ true → IsNodeOf d home (sort_of_parts o) part
          → IsNodeOf d home Expression part
      by (Some (CallForm callee arguments)) k p = p
      by None k p = absurd (true≢false (sym k))
      by (Some _) k p = absurd (true≢false (sym k))

  pub new-part : is_new_form form ≡ true → IsNodeOf d home (sort_of_parts form) part → IsNodeOf d home Expression part
  new-part h s = by form h s
    where
      by : (o : Option Form) → is_new_form o ≡ true → IsNodeOf d home (sort_of_parts o) part
          → IsNodeOf d home Expression part
      by (Some (NewForm callee arguments)) k p = p
      by None k p = absurd (true≢false (sym k))
      by (Some _) k p = absurd (true≢false (sym k))

-- ---- whole numbers in range

pub range-whole : (z : ℤ) → in_range z ≡ true → is_whole z ≡ true
range-whole (pos n) h = grind (arith, nat_tests)
range-whole (negsuc n) h = grind (arith, nat_tests)

pub neg-whole : (z : ℤ) → is_whole z ≡ true → is_whole (pos 0 -ℤ z) ≡ true
neg-whole (pos zero) h = refl
neg-whole (pos (suc n)) h = grind (arith, nat_tests)
neg-whole (negsuc n) h = grind (arith, nat_tests)

pub fits-whole : (z : ℤ) → is_whole z ≡ true → mag z < 2 ^ 63
fits-whole (pos n) h = grind (arith, nat_tests)
fits-whole (negsuc n) h = grind (arith, nat_tests)

pub few-whole : (n : ℕ) → n < 2 ^ 32 → is_whole (pos n) ≡ true
few-whole n h = grind (arith, nat_tests)

-- ---- more of what may be held

module _ (d : Data) (home : Side) where
  pub scope-held : (scope : ScopeId) → ScopeIn d scope → scope_home d scope home → MayHold d home (HeldScope scope)
  scope-held scope i h = record { within = i; sound = h; own = λ u. All-nil (IsOwn d home) }

  pub either-held : (first : Bool) (x y : Value) → MayHold d home (HeldValue x) → MayHold d home (HeldValue y)
      → MayHold d home (HeldValue (if first then x else y))
  either-held true x y h k = h
  either-held false x y h k = k

pub use-waits : (next : Use) → expr_waits (use_frame next) ≡ AValue
use-waits u.Give = refl
use-waits (u.Compound at sign value to) = refl
use-waits (u.Update at plus prefix to) = refl
use-waits (u.Call at node this) = refl

module _ (d : Data) (home : Side) where
  pub sign-held : (sign : Sign) → asks_objects sign ≡ false → MayHold d home (HeldSign sign)
  sign-held sign h = record { within = tt; sound = h; own = λ u. All-nil (IsOwn d home) }
