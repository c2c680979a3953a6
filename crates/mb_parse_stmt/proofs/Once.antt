-- A parser of statements has one way to go, so that one tree at most stands.
use Rattle.std.proofs.Common.{◌≡◌, ℕ, zero, suc, ◌+◌, ◌<◌, ◌≤◌, List, [], ◌∷◌, length, refl, sym, ap, subst, ◌∙◌, arith}
use Rattle.mb_token.specs.declared.token.Spanned.{Spanned}
use Rattle.mb_tree.specs.Roses.{Rose, Roses, none, size}
use Rattle.mb_tree.specs.machine.Operands.{pushed, Gathered, Short, Got, gather}
use Rattle.mb_tree.proofs.Written.{gathers}
use Rattle.mb_grammar.specs.declared.role.Role.TheVariants as r
use Rattle.mb_grammar.specs.declared.level.Level.{Level}
use Rattle.mb_grammar.specs.Grammar.{Statements}
use Rattle.mb_grammar.specs.Bodies.{HasOneBody, HasOneExpression}
use Rattle.mb_grammar.proofs.Forward.{stands_forward, statements_forward}
use Rattle.mb_parse_expr.proofs.Once.{one_expression}
use Rattle.mb_parse_stmt.specs.declared.machine.Stop.{Stop}
use Rattle.mb_parse_stmt.specs.declared.machine.Stop.TheVariants as st
use Rattle.mb_tree.specs.declared.tree.Label.{Label}
use Rattle.mb_parse_stmt.specs.declared.machine.Frame.{Frame}
use Rattle.mb_parse_stmt.specs.declared.machine.Mode.{Mode}
use Rattle.mb_parse_stmt.specs.declared.machine.Mode.TheVariants as mo
use Rattle.mb_parse_stmt.specs.declared.machine.Move.{Move}
use Rattle.mb_parse_stmt.specs.declared.machine.Move.TheVariants.{Leaf, Enter, Swap, Build, Ask, Ended, Wrong}
use Rattle.mb_parse_stmt.specs.machine.Machine.{State, Going, Wants, Ends, built, forward, apply, move_at, Leads, here, after, read}
use Rattle.mb_parse_stmt.specs.machine.Covers.{IsStop}
use Rattle.mb_grammar.specs.Script.{IsScript, script_of}
use Rattle.mb_parse_stmt.proofs.Places.{role_within}
use Rattle.mb_parse_stmt.proofs.Counts.{pushed_length}
use Rattle.mb_parse_stmt.proofs.Steps.{level_reads}
use Rattle.mb_parse_stmt.proofs.Place.{forward_plus}
use Rattle.mb_parse_stmt.proofs.Levels.{end_past}

-- a state at this place or behind it
abbrev pub IsOnward : ℕ → State → Type 0
IsOnward i (Going fs rs mode at) = i ≤ at
IsOnward i (Wants level fs rs at) = i ≤ at
IsOnward i _ = Unit {0}

built_onward : (i : ℕ) (label : Label) (mode : Mode) (fs : List Frame) (at : ℕ) (g : Gathered) → i ≤ at → IsOnward i (built label mode fs at g)
built_onward i label mode fs at Short h = tt
built_onward i label mode fs at (Got parts rs) h = h

pub step_onward : (i : ℕ) (move : Move) (fs : List Frame) (rs : List Rose) (at : ℕ) → i ≤ at → IsOnward i (apply move fs rs at)
step_onward i (Leaf label mode n) fs rs at h = omega (arith, h, forward_plus n at)
step_onward i (Enter x mode n) fs rs at h = omega (arith, h, forward_plus n at)
step_onward i (Swap x mode n) [] rs at h = tt
step_onward i (Swap x mode n) (y ∷ fs) rs at h = omega (arith, h, forward_plus n at)
step_onward i (Build label count mode n) [] rs at h = tt
step_onward i (Build label count mode n) (x ∷ fs) rs at h = built_onward i label mode fs (forward n at) (gather count rs none) (omega (arith, h, forward_plus n at))
step_onward i (Ask level) fs rs at h = h
step_onward i Ended fs rs at h = tt
step_onward i Wrong fs rs at h = tt

-- the same operands were pushed
pushed_same : (a b : Roses) → pushed a [] ≡ pushed b [] → a ≡ b
pushed_same a b e =
    let n : size b ≡ size a = omega (arith, ap length e, pushed_length a [], pushed_length b []) in
    let x : gather (size a) (pushed a []) none ≡ Got a [] = gathers a 0 (size a) [] (omega arith) in
    let y : gather (size b) (pushed b []) none ≡ Got b [] = gathers b 0 (size b) [] (omega arith) in
    let z : Got a [] ≡ Got b [] = sym x ∙ ap (λ q. gather (size a) q none) e ∙ ap (λ m. gather m (pushed b []) none) (sym n) ∙ y in
    cc

module _ (stop : Stop) (ts : List Spanned) (i : ℕ) (one : (level : Level) (m : ℕ) → i ≤ m → HasOneExpression ts level m) where
  one_way : {x : State} {p q : List Rose} {j k : ℕ} → Leads stop ts x (Ends p j) → Leads stop ts x (Ends q k) → IsOnward i x → (p ≡ q) × (j ≡ k)
  one_way here here b = (refl, refl)
  one_way (after {fs = fs} {rs = rs} {mode = mode} {at = at} l) (after n) b = one_way l n (step_onward i (move_at stop ts fs mode at) fs rs at b)
  one_way {q = q} {k = k} (read {level = level} {fs = fs} {a = a} {rs = rs} {es = es} {at = at} {j = j} w l) (read {a = a'} {es = es'} {j = j'} w' n) b =
      let o = one level at b a a' es es' j j' w w' in
      let far : at < j = stands_forward w.stands in
      one_way l
      (subst (λ y. Leads stop ts (Going fs (y ∷ rs) mo.Behind j) (Ends q k)) (sym o.0)
      (subst (λ y. Leads stop ts (Going fs (a' ∷ rs) mo.Behind y) (Ends q k)) (sym o.2) n))
      (omega (arith, b, far))

  pub one_list : (a b : Roses) (j k : ℕ) → Statements ts a i j → IsStop stop ts j → Statements ts b i k → IsStop stop ts k → (a ≡ b) × (j ≡ k)
  one_list a b j k x s y t =
      let least : i ≤ i = omega arith in
      let o = one_way (level_reads stop ts x s) (level_reads stop ts y t) least in
      (pushed_same a b o.0, o.1)

-- by how many tokens are left
one_body_within : (ts : List Spanned) (n k : ℕ) → length ts ≤ k + n → HasOneBody ts k
one_body_within ts zero k h a b j l x s y t =
    let w = role_within ts j r.CloseBrace s (λ z. cc) in
    absurd (omega (arith, h, w, statements_forward x))
one_body_within ts (suc n) k h a b j l x s y t =
    one_list st.Brace ts k (λ level m u. one_expression ts level m (λ m' v. one_body_within ts n m' (omega (arith, h, u, v)))) a b j l x s y t

pub one_body : (ts : List Spanned) (k : ℕ) → HasOneBody ts k
one_body ts k = one_body_within ts (length ts) k (omega arith)

pub one_expression_at : (ts : List Spanned) (level : Level) (i : ℕ) → HasOneExpression ts level i
one_expression_at ts level i = one_expression ts level i (λ m h. one_body ts m)

pub one_script : (ts : List Spanned) (a b : Rose) → IsScript ts a → IsScript ts b → a ≡ b
one_script ts a b x y =
    let o = one_list st.End ts 0 (λ level m h. one_expression_at ts level m) x.parts y.parts (length ts) (length ts) x.stand (end_past ts) y.stand (end_past ts) in
    x.whole ∙ ap script_of o.0 ∙ sym y.whole
