-- A parser has one way to go, and names bodies in order.
use Rattle.std.proofs.Common.{◌≡◌, ℕ, ◌+◌, ◌<◌, ◌≤◌, true, false, List, [], ◌∷◌, refl, sym, subst, arith}
use Rattle.mb_token.specs.declared.token.Spanned.{Spanned}
use Rattle.mb_tree.specs.Roses.{Rose, none, size}
use Rattle.mb_tree.specs.machine.Operands.{pushed, Gathered, Short, Got, gather}
use Rattle.mb_grammar.specs.declared.level.Level.{Level}
use Rattle.mb_tree.specs.declared.tree.Label.{Label}
use Rattle.mb_parse_expr.specs.declared.machine.Frame.{Frame}
use Rattle.mb_parse_expr.specs.declared.machine.Mode.{Mode}
use Rattle.mb_parse_expr.specs.declared.machine.Mode.TheVariants as mo
use Rattle.mb_parse_expr.specs.declared.machine.Move.{Move}
use Rattle.mb_parse_expr.specs.declared.machine.Move.TheVariants.{Leaf, Enter, Begin, Swap, Build, Suffix, Turn, Pause, Ended, Wrong}
use Rattle.mb_parse_expr.specs.machine.Machine.{State, Going, Waits, Ends, Fails, Stuck, built, apply, move_at, Leads, here, after, answered}
use Rattle.mb_grammar.specs.Script.{Whole}
use Rattle.mb_grammar.specs.Bodies.{HasOneBody, HasOneExpression, AreFalling}
use Rattle.mb_parse_expr.proofs.Steps.{whole_reads}
use Rattle.mb_grammar.proofs.Forward.{statements_forward}

-- a state behind this place, with its bodies in order
abbrev pub IsBehind : ℕ → State → Type 0
IsBehind i (Going fs rs ds mode at) = (i ≤ at) × AreFalling i (at + 1) ds
IsBehind i (Waits fs rs ds at) = (i < at) × AreFalling i (at + 1) ds
IsBehind i (Ends rs ds at) = AreFalling i (at + 1) ds
IsBehind i Fails = Unit {0}
IsBehind i Stuck = Unit {0}

pub higher : (i n m : ℕ) (ds : List ℕ) → n ≤ m → AreFalling i n ds → AreFalling i m ds
higher i n m [] h q = tt
higher i n m (d ∷ ds) h q = (q.0, omega (arith, q.1), q.2)

built_behind : (i : ℕ) (label : Label) (mode : Mode) (fs : List Frame) (ds : List ℕ) (at : ℕ) (g : Gathered) → i ≤ at → AreFalling i (at + 1) ds → IsBehind i (built label mode fs ds at g)
built_behind i label mode fs ds at Short h q = tt
built_behind i label mode fs ds at (Got parts rs) h q = (h, q)

pub step_behind : (i : ℕ) (move : Move) (fs : List Frame) (rs : List Rose) (ds : List ℕ) (at : ℕ) → i ≤ at → AreFalling i (at + 1) ds → IsBehind i (apply move fs rs ds at)
step_behind i (Leaf label mode) fs rs ds at h q = (omega arith, higher i (at + 1) (at + 1 + 1) ds (omega arith) q)
step_behind i (Enter x mode) fs rs ds at h q = (omega arith, higher i (at + 1) (at + 1 + 1) ds (omega arith) q)
step_behind i (Begin label x mode) fs rs ds at h q = (omega arith, higher i (at + 1) (at + 1 + 1) ds (omega arith) q)
step_behind i (Swap x mode) fs rs ds at h q = (omega arith, higher i (at + 1) (at + 1 + 1) ds (omega arith) q)
step_behind i (Build label n mode taken) [] rs ds at h q = tt
step_behind i (Build label n mode true) (x ∷ fs) rs ds at h q = built_behind i label mode fs ds (at + 1) (gather n rs none) (omega arith) (higher i (at + 1) (at + 1 + 1) ds (omega arith) q)
step_behind i (Build label n mode false) (x ∷ fs) rs ds at h q = built_behind i label mode fs ds at (gather n rs none) h q
step_behind i (Suffix label mode) fs rs ds at h q = built_behind i label mode fs ds (at + 1) (gather 1 rs none) (omega arith) (higher i (at + 1) (at + 1 + 1) ds (omega arith) q)
step_behind i (Turn mode) fs rs ds at h q = (omega arith, higher i (at + 1) (at + 1 + 1) ds (omega arith) q)
step_behind i Pause fs rs ds at h q = (omega arith, (omega arith, omega arith, q))
step_behind i Ended fs rs ds at h q = q
step_behind i Wrong fs rs ds at h q = tt

module _ (ts : List Spanned) (i : ℕ) where
  -- where there is one body at each place behind, there is one way to the end
  one_way : ((m : ℕ) → i < m → HasOneBody ts m) → {x : State} {p q : List Rose} {es gs : List ℕ} {j k : ℕ} → Leads ts x (Ends p es j) → Leads ts x (Ends q gs k) → IsBehind i x → (p ≡ q) × (es ≡ gs) × (j ≡ k)
  one_way one here here b = (refl, refl, refl)
  one_way one (after {fs = fs} {rs = rs} {ds = ds} {mode = mode} {at = at} l) (after n) b = one_way one l n (step_behind i (move_at ts fs mode at) fs rs ds at b.0 b.1)
  one_way one {q = q} {gs = gs} {k = k} (answered {fs = fs} {rs = rs} {ds = ds} {body = body} {at = at} {j = j} st cb l) (answered {body = body'} {j = j'} st' cb' n) b =
      let o = one at b.0 body body' j j' st cb st' cb' in
      let far : at ≤ j = statements_forward st in
      one_way one l
      (subst (λ y. Leads ts (Going fs (pushed y rs) ds (mo.Block (size y)) (j + 1)) (Ends q gs k)) (sym o.0)
      (subst (λ y. Leads ts (Going fs (pushed body' rs) ds (mo.Block (size body')) (y + 1)) (Ends q gs k)) (sym o.1) n))
      (omega (arith, b.0, far), higher i (at + 1) (j + 1 + 1) ds (omega (arith, far)) b.1)

  -- the bodies come in order
  in_order : {x : State} {p : List Rose} {es : List ℕ} {j : ℕ} → Leads ts x (Ends p es j) → IsBehind i x → AreFalling i (j + 1) es
  in_order here b = b
  in_order (after {fs = fs} {rs = rs} {ds = ds} {mode = mode} {at = at} l) b = in_order l (step_behind i (move_at ts fs mode at) fs rs ds at b.0 b.1)
  in_order (answered {ds = ds} {at = at} {j = j} st cb l) b =
      let far : at ≤ j = statements_forward st in
      in_order l (omega (arith, b.0, far), higher i (at + 1) (j + 1 + 1) ds (omega (arith, far)) b.1)

pub one_expression : (ts : List Spanned) (level : Level) (i : ℕ) → ((m : ℕ) → i < m → HasOneBody ts m) → HasOneExpression ts level i
one_expression ts level i one a b es gs j k u v =
    let o = one_way ts i one (whole_reads ts u.stands u.end) (whole_reads ts v.stands v.end) (omega arith, tt) in
    (let e : a ∷ [] ≡ b ∷ [] = o.0 in cc, o.1, o.2)

pub bodies_fall : (ts : List Spanned) (level : Level) (a : Rose) (es : List ℕ) (i j : ℕ) → Whole ts level a es i j → AreFalling i (j + 1) es
bodies_fall ts level a es i j w = in_order ts i (whole_reads ts w.stands w.end) (omega arith, tt)
