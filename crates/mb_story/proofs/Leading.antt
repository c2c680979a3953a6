-- Turns that go round lead from stage to stage.
use Rattle.std.proofs.Common.{Bool, List, [], ap, arith, false, length, refl, slice_get, suc, sym, true, true≢false, zero, ℕ, ◌%◌, ◌+◌, ◌∙◌, ◌∷◌, ◌≡◌, ◌||◌}
use Rattle.mb_model.proofs.Kept.Turns.{has_job, turn-busy, turn-idle}
use Rattle.mb_model.proofs.Rounds.{more-rounds}
use Rattle.mb_model.specs.Story.{Stage, all_empty, is_over, is_spent, one_turn, rounds}
use Rattle.mb_story.specs.machine.Telling.{Leads}
use Rattle.mb_world.specs.Graph.{Job}

-- ---- what a turn leaves of the queues

-- their number stays
queues-by : (t : Stage) (s : ℕ) (b : Bool) → has_job (slice_get (t.graph.queues) s) ≡ b
    → length ((one_turn t s).graph.queues) ≡ length (t.graph.queues)
queues-by t s true e = (turn-busy t s e).0.0
queues-by t s false e = ap (λ (u : Stage). length (u.graph.queues)) (turn-idle t s e)

pub queues-stay : (t : Stage) (s : ℕ) → length ((one_turn t s).graph.queues) ≡ length (t.graph.queues)
queues-stay t s = queues-by t s (has_job (slice_get (t.graph.queues) s)) refl

-- ---- one round more

over-stays : (n s : ℕ) (t : Stage) → is_over t ≡ true → rounds n s t ≡ t
over-stays n s t e =
    let z : zero + n ≡ n = omega arith in
    ap (λ (k : ℕ). rounds k s t) (sym z) ∙ more-rounds zero n s t e

no-job : (qs : List (List Job)) (s : ℕ) → all_empty qs ≡ true → has_job (slice_get qs s) ≡ false
no-job [] s e = refl
no-job ([] ∷ qs) zero e = refl
no-job ([] ∷ qs) (suc s) e = no-job qs s e
no-job ((j ∷ js) ∷ qs) s e = absurd (true≢false (sym e))

-- a stage that stands where the story is over, else another
abbrev stage_if : Bool → Stage → Stage → Stage
stage_if over t x = elim over [ true ↦ t | false ↦ x ]

step-by : (n s : ℕ) (t : Stage) (b : Bool) → all_empty (t.graph.queues) ≡ b → is_spent t.ending ≡ false
    → rounds (suc n) s t ≡ rounds n ((s + 1) % length (t.graph.queues)) (one_turn t s)
step-by n s t false e f =
    let o : is_over t ≡ false = ap (λ (x : Bool). x || all_empty (t.graph.queues)) f ∙ e in
    ap (λ (b : Bool). stage_if b t (rounds n ((s + 1) % length (t.graph.queues)) (one_turn t s))) o
step-by n s t true e f =
    let o : is_over t ≡ true = ap (λ (x : Bool). x || all_empty (t.graph.queues)) f ∙ e in
    over-stays (suc n) s t o ∙ sym (over-stays n ((s + 1) % length (t.graph.queues)) t o)
    ∙ ap (rounds n ((s + 1) % length (t.graph.queues))) (sym (turn-idle t s (no-job (t.graph.queues) s e)))

-- where it isn't spent, it is a turn: on an empty queue that changes nothing
step-round : (n s : ℕ) (t : Stage) → is_spent t.ending ≡ false
    → rounds (suc n) s t ≡ rounds n ((s + 1) % length (t.graph.queues)) (one_turn t s)
step-round n s t f = step-by n s t (all_empty (t.graph.queues)) refl f

-- ---- leading on

pub leads-none : (t : Stage) (s : ℕ) → Leads t s t s
leads-none t s = record { turns = 0; leads = λ n. let z : 0 + n ≡ n = omega arith in ap (λ (k : ℕ). rounds k s t) z }

pub leads-turn : (t : Stage) (s : ℕ) (u : Stage) (s' k : ℕ) → Leads t s u s' → is_spent u.ending ≡ false
    → length (u.graph.queues) ≡ k → Leads t s (one_turn u s') ((s' + 1) % k)
leads-turn t s u s' k h f e = record {
  turns = h.turns + 1;
  leads = λ n.
      let z : h.turns + 1 + n ≡ h.turns + suc n = omega arith in
      ap (λ (m : ℕ). rounds m s t) z ∙ h.leads (suc n) ∙ step-round n s' u f
      ∙ ap (λ (m : ℕ). rounds n ((s' + 1) % m) (one_turn u s')) e;
}

pub leads-on : (t : Stage) (s : ℕ) (u : Stage) (s' : ℕ) (v : Stage) (s'' : ℕ) → Leads t s u s' → Leads u s' v s''
    → Leads t s v s''
leads-on t s u s' v s'' h k = record {
  turns = h.turns + k.turns;
  leads = λ n.
      let z : h.turns + k.turns + n ≡ h.turns + (k.turns + n) = omega arith in
      ap (λ (m : ℕ). rounds m s t) z ∙ h.leads (k.turns + n) ∙ k.leads n;
}

-- that many turns come there
pub leads-to : (t : Stage) (s : ℕ) (u : Stage) (s' : ℕ) → (h : Leads t s u s') → rounds h.turns s t ≡ u
leads-to t s u s' h =
    let z : h.turns + 0 ≡ h.turns = omega arith in
    ap (λ (m : ℕ). rounds m s t) (sym z) ∙ h.leads 0

-- two ends of rounds are one
pub one-end : (n m s : ℕ) (t : Stage) → is_over (rounds n s t) ≡ true → is_over (rounds m s t) ≡ true
    → rounds n s t ≡ rounds m s t
one-end n m s t e f =
    let z : n + m ≡ m + n = omega arith in
    sym (more-rounds n m s t e) ∙ ap (λ (k : ℕ). rounds k s t) z ∙ more-rounds m n s t f

-- ---- a word of letters

pub over-by : (t : Stage) → is_spent t.ending ≡ true → is_over t ≡ true
over-by t e = ap (λ (b : Bool). b || all_empty (t.graph.queues)) e

pub over-none : (t : Stage) → is_spent t.ending ≡ false → all_empty (t.graph.queues) ≡ true → is_over t ≡ true
over-none t e f = ap (λ (b : Bool). b || all_empty (t.graph.queues)) e ∙ f
