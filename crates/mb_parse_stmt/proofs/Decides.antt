-- Whether tokens have a tree is decided.
use Rattle.std.proofs.Common.{◌≡◌, ◌⊎◌, inl, inr, ℕ, zero, suc, ◌+◌, ◌-◌, ◌*◌, ◌<◌, ◌≤◌, Bool, true, false, List, [], ◌∷◌, length, refl, subst, arith}
use Rattle.std.specs.Prelude.{nat_lt}
use Rattle.std.proofs.lemmas.Bool.{ltb-true, ltb-false}
use Rattle.mb_token.specs.declared.token.Spanned.{Spanned}
use Rattle.mb_tree.specs.Roses.{Rose, Roses, none}
use Rattle.mb_tree.specs.machine.Operands.{pushed, Gathered, Short, Got, gather}
use Rattle.mb_grammar.specs.declared.role.Role.TheVariants as r
use Rattle.mb_grammar.specs.declared.level.Level.{Level}
use Rattle.mb_grammar.specs.Grammar.{Statements, finished, statement}
use Rattle.mb_grammar.specs.Bodies.{BodyAt, ExpressionAt, IsDecided}
use Rattle.mb_grammar.proofs.Forward.{stands_forward, statements_forward}
use Rattle.mb_parse_expr.proofs.Decides.{expression_decided}
use Rattle.mb_parse_stmt.specs.declared.terminal.Terminal.TheVariants as p
use Rattle.mb_parse_stmt.specs.declared.machine.Holder.TheVariants as ho
use Rattle.mb_parse_stmt.specs.declared.machine.Stop.{Stop}
use Rattle.mb_parse_stmt.specs.declared.machine.Stop.TheVariants as st
use Rattle.mb_tree.specs.declared.tree.Label.{Label}
use Rattle.mb_parse_stmt.specs.declared.machine.Frame.{Frame}
use Rattle.mb_parse_stmt.specs.declared.machine.Frame.TheVariants as f
use Rattle.mb_parse_stmt.specs.declared.machine.Mode.{Mode}
use Rattle.mb_parse_stmt.specs.declared.machine.Mode.TheVariants as mo
use Rattle.mb_parse_stmt.specs.declared.machine.Move.{Move}
use Rattle.mb_parse_stmt.specs.declared.machine.Move.TheVariants.{Leaf, Enter, Swap, Build, Ask, Ended, Wrong}
use Rattle.mb_parse_stmt.specs.machine.Machine.{State, Going, Wants, Ends, Fails, Stuck, built, forward, view_at, apply, move_at, Leads}
use Rattle.mb_tree.specs.machine.Stack.{top}
use Rattle.mb_parse_stmt.specs.machine.Covers.{no_statement, top_list, behind_expression, IsStop, Good}
use Rattle.mb_parse_stmt.specs.machine.Progress.{Progress}
use Rattle.mb_grammar.specs.Script.{IsScript, script_of}
use Rattle.mb_parse_stmt.proofs.Tokens.{means}
use Rattle.mb_parse_stmt.proofs.Places.{role_within, end_within, statement_within}
use Rattle.mb_parse_stmt.proofs.Counts.{good_within}
use Rattle.mb_parse_stmt.proofs.Weights.{weight, Lighter, lighter}
use Rattle.mb_parse_stmt.proofs.Steps.{level_reads}
use Rattle.mb_parse_stmt.proofs.Place.{forward_plus, progress_step, stood}
use Rattle.mb_parse_stmt.proofs.Levels.{none_past, end_past}
use Rattle.mb_parse_stmt.proofs.Once.{IsOnward, step_onward, one_body, one_expression_at}

-- the statements of a level stand here
pub record ListAt (stop : Stop) (ts : List Spanned) (i : ℕ) : Type 0 where
  pub parts : Roses
  pub end : ℕ
  pub stand : Statements ts parts i end
  pub stops : IsStop stop ts end

-- how far a state is from its end at most
abbrev left : List Spanned → State → ℕ
left ts (Going fs rs mode at) = 4 * (length ts - at) + length fs + weight mode + 1
left ts (Wants level fs rs at) = 4 * (length ts - at) + length fs
left ts _ = 0

module _ (stop : Stop) (ts : List Spanned) (start : ℕ) where
  within : (fs : List Frame) (rs : List Rose) (mode : Mode) (at n : ℕ) → Good stop ts start (Going fs rs mode (forward n at)) → at + n ≤ length ts
  within fs rs mode at n g = omega (arith, good_within ts start stop fs rs mode (forward n at) g, forward_plus n at)

  built_left : (label : Label) (mode : Mode) (fs : List Frame) (at n m : ℕ) (g : Gathered) → Good stop ts start (built label mode fs (forward n at) g) → (at + n ≤ length ts → 4 * (length ts - (at + n)) + length fs + weight mode + 1 < m) → left ts (built label mode fs (forward n at) g) < m
  built_left label mode fs at n m Short g h = absurd g
  built_left label mode fs at n m (Got parts rs) g h =
      let w = good_within ts start stop fs (_ ∷ rs) mode (forward n at) g in
      omega (arith, h (omega (arith, w, forward_plus n at)), forward_plus n at)

  step_left : (move : Move) (fs : List Frame) (rs : List Rose) (mode : Mode) (at : ℕ) → Lighter mode move → Good stop ts start (apply move fs rs at) → left ts (apply move fs rs at) < left ts (Going fs rs mode at)
  step_left (Leaf label m n) fs rs mode at l g = omega (arith, l.0, within fs (_ ∷ rs) m at n g, forward_plus n at)
  step_left (Enter x m n) fs rs mode at l g = omega (arith, l.0, within (x ∷ fs) rs m at n g, forward_plus n at)
  step_left (Swap x m n) [] rs mode at l g = absurd g
  step_left (Swap x m n) (y ∷ fs) rs mode at l g = omega (arith, l.0, within (x ∷ fs) rs m at n g, forward_plus n at)
  step_left (Build label count m n) [] rs mode at l g = absurd g
  step_left (Build label count m n) (x ∷ fs) rs mode at l g = built_left label m fs at n _ (gather count rs none) g (λ h. omega (arith, l.0, h))
  step_left (Ask level) fs rs mode at l g = omega arith
  step_left Ended fs rs mode at l g = omega arith
  step_left Wrong fs rs mode at l g = omega arith

  ended : (rs : List Rose) (at : ℕ) → Progress stop ts start (Ends rs at) → ListAt stop ts start
  ended rs at q = record { parts = q.sound.0; end = at; stand = q.sound.2; stops = q.sound.3 }

  failed : Progress stop ts start Fails → ListAt stop ts start → ⊥
  failed q x = none_leads (q.complete x.parts x.end x.stand x.stops)
    where
      none_leads : Leads stop ts Fails (Ends (pushed x.parts []) x.end) → ⊥
      none_leads l = elim l [ ]

  unread : {level : Level} {fs : List Frame} {rs : List Rose} {at : ℕ} → (ExpressionAt ts level at → ⊥) → Progress stop ts start (Wants level fs rs at) → ListAt stop ts start → ⊥
  unread no_expression q x =
      let s = stood (q.complete x.parts x.end x.stand x.stops) in
      no_expression (record { tree = s.a; bodies = s.es; end = s.j; whole = s.whole })

  was_read : {level : Level} {fs : List Frame} {rs : List Rose} {at : ℕ} (y : ExpressionAt ts level at) → Progress stop ts start (Wants level fs rs at) → Progress stop ts start (Going fs (y.tree ∷ rs) mo.Behind y.end)
  was_read {level = level} {fs = fs} {rs = rs} {at = at} y q = record {
    sound = behind_expression q.sound y.whole;
    complete = λ parts k d s.
        let z = stood (q.complete parts k d s) in
        let o = one_expression_at ts level at z.a y.tree z.es y.bodies z.j y.end z.whole y.whole in
        subst (λ x. Leads stop ts (Going fs (x ∷ rs) mo.Behind y.end) (Ends (pushed parts []) k)) o.0
        (subst (λ x. Leads stop ts (Going fs (z.a ∷ rs) mo.Behind x) (Ends (pushed parts []) k)) o.2 z.leads);
  }

  module _ (expressions : (level : Level) (m : ℕ) → start ≤ m → IsDecided (ExpressionAt ts level m)) where
    decide : (n : ℕ) (x : State) → Progress stop ts start x → IsOnward start x → left ts x < n → IsDecided (ListAt stop ts start)
    decide zero x q b h = absurd (omega arith)
    decide (suc n) (Going fs rs mode at) q b h =
        let move = move_at stop ts fs mode at in
        let next : Progress stop ts start (apply move fs rs at) = progress_step stop ts start fs rs mode at move refl q in
        decide n (apply move fs rs at) next (step_onward start move fs rs at b) (omega (arith, h, step_left move fs rs mode at (lighter (top fs) mode (view_at stop ts at)) next.sound))
    decide (suc n) (Wants level fs rs at) q b h =
        each (expressions level at b) (λ (y : ExpressionAt ts level at).
        let far : at < y.end = stands_forward (y.whole).stands in
        let past : y.end ≤ length ts = end_within ts level y.end (y.whole).end in
        decide n (Going fs (y.tree ∷ rs) mo.Behind y.end) (was_read y q) (omega (arith, b, far)) (omega (arith, h, far, past)))
      where
        each : IsDecided (ExpressionAt ts level at) → (ExpressionAt ts level at → IsDecided (ListAt stop ts start)) → IsDecided (ListAt stop ts start)
        each (inl y) go = go y
        each (inr no_expression) go = inr (unread no_expression q)
    decide (suc n) (Ends rs at) q b h = inl (ended rs at q)
    decide (suc n) Fails q b h = inr (failed q)
    decide (suc n) Stuck q b h = absurd q.sound

    pub list_decided : start ≤ length ts → IsDecided (ListAt stop ts start)
    list_decided w =
        let x = Going (f.Statements ho.Top 0 ∷ []) [] mo.Statement start in
        decide (suc (left ts x)) x (record { sound = top_list w no_statement; complete = λ parts k d s. level_reads stop ts d s }) (omega arith) (omega arith)

-- no body begins where no token is left
no_body : (ts : List Spanned) (k : ℕ) → length ts ≤ k → BodyAt ts k → ⊥
no_body ts k h y = let w = role_within ts y.end r.CloseBrace y.brace (λ z. cc) in omega (arith, h, w, statements_forward y.stand)

body_decided : (ts : List Spanned) (k : ℕ) → ((level : Level) (m : ℕ) → k ≤ m → IsDecided (ExpressionAt ts level m)) → IsDecided (BodyAt ts k)
body_decided ts k expressions = each (nat_lt (length ts) k) refl
  where
    as_body : IsDecided (ListAt st.Brace ts k) → IsDecided (BodyAt ts k)
    as_body (inl y) = inl (record { body = y.parts; end = y.end; stand = y.stand; brace = y.stops })
    as_body (inr q) = inr (λ (y : BodyAt ts k). q (record { parts = y.body; end = y.end; stand = y.stand; stops = y.brace }))

    each : (b : Bool) → nat_lt (length ts) k ≡ b → IsDecided (BodyAt ts k)
    each true e = inr (no_body ts k (omega (arith, ltb-true (length ts) k e)))
    each false e = as_body (list_decided st.Brace ts k expressions (ltb-false (length ts) k e))

-- by how many tokens are left
bodies_decided : (ts : List Spanned) (n k : ℕ) → length ts ≤ k + n → IsDecided (BodyAt ts k)
bodies_decided ts zero k h = inr (no_body ts k (omega (arith, h)))
bodies_decided ts (suc n) k h =
    body_decided ts k (λ level m u. expression_decided ts level m (λ x v. one_body ts x) (λ x v. bodies_decided ts n x (omega (arith, h, u, v))))

pub expression_decided_at : (ts : List Spanned) (level : Level) (i : ℕ) → IsDecided (ExpressionAt ts level i)
expression_decided_at ts level i = expression_decided ts level i (λ x v. one_body ts x) (λ x v. bodies_decided ts (length ts) x (omega arith))

list_within : {ts : List Spanned} {parts : Roses} {i j : ℕ} → i ≤ length ts → Statements ts parts i j → j ≤ length ts
list_within w finished = w
list_within {ts = ts} w (statement d more) = list_within (statement_within ts d) more

pub script_decided : (ts : List Spanned) → ((script : Rose) × IsScript ts script) ⊎ ((script : Rose) → IsScript ts script → ⊥)
script_decided ts = each (list_decided st.End ts 0 (λ level m h. expression_decided_at ts level m) (omega arith))
  where
    each : IsDecided (ListAt st.End ts 0) → ((script : Rose) × IsScript ts script) ⊎ ((script : Rose) → IsScript ts script → ⊥)
    each (inl y) =
        let past = none_past ts y.end (means ts y.end p.End y.stops) in
        let w = list_within (omega arith) y.stand in
        let e : y.end ≡ length ts = omega (arith, past, w) in
        inl (script_of y.parts, record { parts = y.parts; stand = subst (λ n. Statements ts y.parts 0 n) e y.stand; whole = refl })
    each (inr q) = inr (λ script x. q (record { parts = x.parts; end = length ts; stand = x.stand; stops = end_past ts }))
