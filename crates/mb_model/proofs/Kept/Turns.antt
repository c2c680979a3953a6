use Rattle.std.proofs.Common.{◌≡◌, ℕ, zero, suc, ◌+◌, ◌<◌, ◌≤◌, ◌⊎◌, List, [], ◌∷◌, length, Bool, true, false, Option, Some, None, slice_get, slice_set, refl, sym, ap, subst, inl, inr, true≢false, arith}
use Rattle.std.proofs.lemmas.Option.{none-some, same_Some}
use Rattle.std.proofs.lemmas.List.{length-set}
use Rattle.mb_world.specs.Graph.{Graph, Job, Script, Call as CallJob}
use Rattle.mb_model.specs.Engine.{Gives, Spent, left_of}
use Rattle.mb_model.specs.Task.{Normal, Throw, Return, Break, Continue}
use Rattle.mb_model.specs.Meaning.{row, Ends}
use Rattle.mb_model.specs.Story.{Stage, turn_ended, job_ends, after, one_turn, take_turn, is_spent}
use Rattle.mb_model.proofs.Engine.{given-falls}
use Rattle.mb_model.proofs.Kept.Words.{Kept}
use Rattle.mb_model.proofs.Kept.Rows.{IsPlain, EndHolds, given-holds, means-holds}
use Rattle.mb_model.proofs.Kept.Queues.{script_of, scripts_of, scripts, queued}

-- what a turn does to the queues and to the fuel

-- a job took less than this many units, if it could be paid
abbrev Below : ℕ → Ends → Type 0
Below m (Gives o g f) = f < m
Below m (Spent g f) = Unit {0}

below-by : (m : ℕ) (r : Ends) → left_of r < m → Below m r
below-by m (Gives o g f) h = h
below-by m (Spent g f) h = tt

-- a call takes a unit at least
job-below : (s : ℕ) (j : Job) (g : Graph) (f : ℕ) → Below (f + script_of j) (job_ends s j g f)
job-below s Script g f =
    let h : left_of (job_ends s Script g f) ≤ f = given-falls row _ g f in
    below-by (f + 1) (job_ends s Script g f) (omega (arith, h))
job-below s (CallJob v) g zero = tt
job-below s (CallJob v) g (suc f) =
    let h : left_of (job_ends s (CallJob v) g (suc f)) ≤ f = given-falls row _ g f in
    below-by (suc f + 0) (job_ends s (CallJob v) g (suc f)) (omega (arith, h))

job-holds : (kept : Kept) → IsPlain kept → (s : ℕ) (j : Job) (g : Graph) (f : ℕ) → kept.to g g → EndHolds kept g (job_ends s j g f)
job-holds kept plain s Script g f h = given-holds kept plain _ g f (λ _. tt, λ _. tt) h
job-holds kept plain s (CallJob v) g f h = means-holds kept plain _ g f (λ _. tt, λ _ _. refl) h

-- the units that are left, and the scripts that wait
abbrev pub to_come : Stage → ℕ
to_come t = t.left + scripts (t.graph.queues)

-- where a turn ran a job: k queues stay, no more than n scripts wait, and it is spent or less is to come
abbrev pub Less : ℕ → ℕ → ℕ → Stage → Type 0
Less k n m t =
    ((length (t.graph.queues) ≡ k) × (scripts (t.graph.queues) ≤ n)) × ((is_spent t.ending ≡ true) ⊎ (to_come t < m))

ran-less : (k n m : ℕ) (t : Stage) (s : ℕ) (g : Graph) (r : Ends) (b : ℕ) → EndHolds (queued k n) g r → Below b r → b + n ≤ m →
    Less k n m (after t s (turn_ended s r))
ran-less k n m t s g0 (Gives (Normal a) g f) b h l e = (h, inr (omega (arith, h, l, e)))
ran-less k n m t s g0 (Gives (Throw v) g f) b h l e = (h, inr (omega (arith, h, l, e)))
ran-less k n m t s g0 (Gives (Return v) g f) b h l e = (h, inr (omega (arith, h, l, e)))
ran-less k n m t s g0 (Gives Break g f) b h l e = (h, inr (omega (arith, h, l, e)))
ran-less k n m t s g0 (Gives Continue g f) b h l e = (h, inr (omega (arith, h, l, e)))
ran-less k n m t s g0 (Spent g f) b h l e = (h, inl refl)

-- the first job was taken
scripts-taken : (qs : List (List Job)) (s : ℕ) (j : Job) (js : List Job) → slice_get qs s ≡ Some (j ∷ js) →
    scripts (slice_set qs s js) + script_of j ≡ scripts qs
scripts-taken [] s j js e = absurd (none-some (j ∷ js) e)
scripts-taken (q ∷ qs) zero j js e =
    let same : scripts_of q ≡ script_of j + scripts_of js = ap scripts_of (same_Some q (j ∷ js) e) in
    omega (arith, same)
scripts-taken (q ∷ qs) (suc s) j js e = let h = scripts-taken qs s j js e in omega (arith, h)

abbrev pub has_job : Option (List Job) → Bool
has_job None = false
has_job (Some []) = false
has_job (Some (j ∷ js)) = true

-- a turn on an empty queue changes nothing
idle : (t : Stage) (s : ℕ) (q : Option (List Job)) → slice_get (t.graph.queues) s ≡ q → has_job q ≡ false →
    one_turn t s ≡ t
idle t s None e f = ap (λ q. after t s (take_turn t.graph s t.left q)) e
idle t s (Some []) e f = ap (λ q. after t s (take_turn t.graph s t.left q)) e
idle t s (Some (j ∷ js)) e f = absurd (true≢false f)

-- a turn that takes a job
busy : (t : Stage) (s : ℕ) (q : Option (List Job)) → slice_get (t.graph.queues) s ≡ q → has_job q ≡ true →
    Less (length (t.graph.queues)) (scripts (t.graph.queues)) (to_come t) (one_turn t s)
busy t s None e f = absurd (true≢false (sym f))
busy t s (Some []) e f = absurd (true≢false (sym f))
busy t s (Some (j ∷ js)) e f =
    let g : Graph = record (t.graph) { queues = slice_set (t.graph.queues) s js } in
    let k = length (t.graph.queues) in
    let n = scripts (t.graph.queues) in
    let fewer : scripts g.queues + script_of j ≡ n = scripts-taken (t.graph.queues) s j js e in
    let same : length g.queues ≡ k = length-set (t.graph.queues) s js in
    let kept : EndHolds (queued k (scripts g.queues)) g (job_ends s j g t.left) =
    job-holds (queued k (scripts g.queues)) (record { owes = λ b h o q. tt; knows = λ u s h o. tt; notes = λ b h e q. q }) s j g t.left (same, omega arith) in
    let ran : Less k (scripts g.queues) (to_come t) (after t s (turn_ended s (job_ends s j g t.left))) =
    ran-less k (scripts g.queues) (to_come t) t s g (job_ends s j g t.left) (t.left + script_of j) kept
    (job-below s j g t.left) (omega (arith, fewer)) in
    let turn : one_turn t s ≡ after t s (turn_ended s (job_ends s j g t.left)) =
    ap (λ q. after t s (take_turn t.graph s t.left q)) e in
    subst (λ x. Less k n (to_come t) x) (sym turn) ((ran.0.0, omega (arith, ran.0.1, fewer)), ran.1)

pub turn-idle : (t : Stage) (s : ℕ) → has_job (slice_get (t.graph.queues) s) ≡ false → one_turn t s ≡ t
turn-idle t s f = idle t s (slice_get (t.graph.queues) s) refl f

pub turn-busy : (t : Stage) (s : ℕ) → has_job (slice_get (t.graph.queues) s) ≡ true →
    Less (length (t.graph.queues)) (scripts (t.graph.queues)) (to_come t) (one_turn t s)
turn-busy t s f = busy t s (slice_get (t.graph.queues) s) refl f
