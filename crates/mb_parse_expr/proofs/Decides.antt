-- Whether an expression stands at a place is decided, where that is decided of the bodies behind it.
use Rattle.std.proofs.Common.{inl, inr, ℕ, zero, suc, ◌+◌, ◌-◌, ◌*◌, ◌<◌, ◌≤◌, true, false, List, [], ◌∷◌, length, refl, arith}
use Rattle.mb_token.specs.declared.token.Spanned.{Spanned}
use Rattle.mb_tree.specs.Roses.{Rose, none, size}
use Rattle.mb_tree.specs.machine.Operands.{pushed, Gathered, Short, Got, gather}
use Rattle.mb_grammar.specs.declared.level.Level.{Level}
use Rattle.mb_tree.specs.declared.tree.Label.{Label}
use Rattle.mb_parse_expr.specs.declared.machine.Frame.{Frame}
use Rattle.mb_parse_expr.specs.declared.machine.Frame.TheVariants as f
use Rattle.mb_parse_expr.specs.declared.machine.Mode.{Mode}
use Rattle.mb_parse_expr.specs.declared.machine.Mode.TheVariants as mo
use Rattle.mb_parse_expr.specs.declared.machine.Move.{Move}
use Rattle.mb_parse_expr.specs.declared.machine.Move.TheVariants.{Leaf, Enter, Begin, Swap, Build, Suffix, Turn, Pause, Ended, Wrong}
use Rattle.mb_parse_expr.specs.machine.Machine.{State, Going, Waits, Ends, Fails, Stuck, built, apply, move_at, Leads, answered}
use Rattle.mb_tree.specs.machine.Stack.{top, below}
use Rattle.mb_parse_expr.specs.machine.Covers.{bottom, blocked}
use Rattle.mb_parse_expr.specs.machine.Progress.{Progress}
use Rattle.mb_grammar.specs.Bodies.{AreTheStatements, HasOneBody, BodyAt, ExpressionAt, IsDecided}
use Rattle.mb_parse_expr.proofs.Steps.{whole_reads}
use Rattle.mb_grammar.proofs.Forward.{statements_forward}
use Rattle.mb_parse_expr.proofs.Counts.{Takes, taken_within}
use Rattle.mb_parse_expr.proofs.Place.{progress_step, waits_step}
use Rattle.mb_parse_expr.proofs.Once.{IsBehind, higher, step_behind}

-- how far a state is from its end at most
abbrev left : List Spanned → State → ℕ
left ts (Going fs rs ds mode at) = 2 * (length ts - at) + length fs + 1
left ts (Waits fs rs ds at) = 2 * (length ts - at) + length fs + 2
left ts _ = 0

below_length : (fs : List Frame) → length (below fs) ≤ length fs
below_length [] = omega arith
below_length (x ∷ fs) = omega arith

built_left : (ts : List Spanned) (label : Label) (mode : Mode) (fs : List Frame) (ds : List ℕ) (at n : ℕ) (g : Gathered) → 2 * (length ts - at) + length fs + 1 < n → left ts (built label mode fs ds at g) < n
built_left ts label mode fs ds at n Short h = omega arith
built_left ts label mode fs ds at n (Got parts rs) h = h

step_left : (ts : List Spanned) (move : Move) (fs : List Frame) (rs : List Rose) (ds : List ℕ) (mode : Mode) (at : ℕ) → (Takes move → at < length ts) → left ts (apply move fs rs ds at) < left ts (Going fs rs ds mode at)
step_left ts (Leaf label m) fs rs ds mode at t = let h = t tt in omega (arith, h)
step_left ts (Enter x m) fs rs ds mode at t = let h = t tt in omega (arith, h)
step_left ts (Begin label x m) fs rs ds mode at t = let h = t tt in omega (arith, h)
step_left ts (Swap x m) fs rs ds mode at t = let h = t tt in omega (arith, h, below_length fs)
step_left ts (Build label n m taken) [] rs ds mode at t = omega arith
step_left ts (Build label n m true) (x ∷ fs) rs ds mode at t = let h = t tt in built_left ts label m fs ds (at + 1) _ (gather n rs none) (omega (arith, h))
step_left ts (Build label n m false) (x ∷ fs) rs ds mode at t = built_left ts label m fs ds at _ (gather n rs none) (omega arith)
step_left ts (Suffix label m) fs rs ds mode at t = let h = t tt in built_left ts label m fs ds (at + 1) _ (gather 1 rs none) (omega (arith, h))
step_left ts (Turn m) fs rs ds mode at t = let h = t tt in omega (arith, h)
step_left ts Pause fs rs ds mode at t = let h = t tt in omega (arith, h)
step_left ts Ended fs rs ds mode at t = omega arith
step_left ts Wrong fs rs ds mode at t = omega arith

module _ (ts : List Spanned) (level : Level) (start : ℕ) (one : (m : ℕ) → start < m → HasOneBody ts m) (bodies : (m : ℕ) → start < m → IsDecided (BodyAt ts m)) where
  ended : (rs : List Rose) (ds : List ℕ) (at : ℕ) → Progress ts level start (Ends rs ds at) → ExpressionAt ts level start
  ended rs ds at p = record { tree = p.sound.0; bodies = ds; end = at; whole = record { stands = p.sound.2; end = p.sound.3 } }

  failed : Progress ts level start Fails → ExpressionAt ts level start → ⊥
  failed p x = none_leads (p.complete x.tree x.bodies x.end x.whole)
    where
      none_leads : Leads ts Fails (Ends (x.tree ∷ []) x.bodies x.end) → ⊥
      none_leads q = elim q [ ]

  bodiless : {fs : List Frame} {rs : List Rose} {ds : List ℕ} {at : ℕ} → (BodyAt ts at → ⊥) → Progress ts level start (Waits fs rs ds at) → ExpressionAt ts level start → ⊥
  bodiless no_body p x = each no_body (p.complete x.tree x.bodies x.end x.whole)
    where
      each : {fs : List Frame} {rs q : List Rose} {ds es : List ℕ} {at k : ℕ} → (BodyAt ts at → ⊥) → Leads ts (Waits fs rs ds at) (Ends q es k) → ⊥
      each none_here (answered {body = body} {j = j} st cb l) = none_here (record { body = body; end = j; stand = st; brace = cb })

  only_body : {at : ℕ} → HasOneBody ts at → (b : BodyAt ts at) → AreTheStatements ts b.body at b.end
  only_body o b = record { stand = b.stand; brace = b.brace; only = λ other k st cb. o other b.body k b.end st cb b.stand b.brace }

  resumed : {fs : List Frame} {rs : List Rose} {ds : List ℕ} {at : ℕ} → HasOneBody ts at → (b : BodyAt ts at) → Progress ts level start (Waits fs rs ds at) → Progress ts level start (Going fs (pushed b.body rs) ds (mo.Block (size b.body)) (b.end + 1))
  resumed o b p = record {
    sound = blocked p.sound b.stand b.brace refl refl refl;
    complete = λ a es j w. waits_step ts b.body b.end (a ∷ []) j (only_body o b) (p.complete a es j w);
  }

  decide : (n : ℕ) (x : State) → Progress ts level start x → IsBehind start x → left ts x < n → IsDecided (ExpressionAt ts level start)
  decide zero x p b h = absurd (omega arith)
  decide (suc n) (Going fs rs ds mode at) p b h =
      decide n (apply (move_at ts fs mode at) fs rs ds at)
      (progress_step ts level start fs rs ds mode at (move_at ts fs mode at) refl p)
      (step_behind start (move_at ts fs mode at) fs rs ds at b.0 b.1)
      (omega (arith, h, step_left ts (move_at ts fs mode at) fs rs ds mode at (taken_within ts (top fs) mode at)))
  decide (suc n) (Waits fs rs ds at) p b h =
      each (bodies at b.0) (λ (y : BodyAt ts at). let far : at ≤ y.end = statements_forward y.stand in
      decide n (Going fs (pushed y.body rs) ds (mo.Block (size y.body)) (y.end + 1)) (resumed (one at b.0) y p)
      (omega (arith, b.0, far), higher start (at + 1) (y.end + 1 + 1) ds (omega (arith, far)) b.1) (omega (arith, h, far)))
    where
      each : IsDecided (BodyAt ts at) → (BodyAt ts at → IsDecided (ExpressionAt ts level start)) → IsDecided (ExpressionAt ts level start)
      each (inl y) go = go y
      each (inr no_body) go = inr (bodiless no_body p)
  decide (suc n) (Ends rs ds at) p b h = inl (ended rs ds at p)
  decide (suc n) Fails p b h = inr (failed p)
  decide (suc n) Stuck p b h = absurd p.sound

  pub expression_decided : IsDecided (ExpressionAt ts level start)
  expression_decided =
      let x = Going (f.Start level ∷ []) [] [] mo.Operand start in
      decide (suc (left ts x)) x (record { sound = bottom; complete = λ a es j w. whole_reads ts w.stands w.end }) (omega arith, tt) (omega arith)
