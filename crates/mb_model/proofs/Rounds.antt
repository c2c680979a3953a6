use Rattle.std.proofs.Common.{◌≡◌, ℕ, zero, suc, ◌+◌, ◌*◌, ◌-◌, ◌%◌, ◌<◌, ◌≤◌, ◌⊎◌, List, [], ◌∷◌, length, map, Bool, true, false, ◌||◌, slice_get, refl, sym, ◌∙◌, ap, subst, inl, inr, true≢false, arith}
use Rattle.std.proofs.lemmas.Nat.{mul-add-lt, mod-mul-add}
use Rattle.std.proofs.lemmas.List.{length-map}
use Rattle.std.proofs.Math.Nat.{mul_comm}
use Rattle.mb_world.specs.Graph.{Job, Script, Program, Rule}
use Rattle.mb_model.specs.Story.{Stage, Letter, Side, Cut, is_spent, all_empty, is_over, one_turn, one_letter, letters, rounds, enough, first_stage, go_round, Story}
use Rattle.mb_model.proofs.Kept.Queues.{scripts}
use Rattle.mb_model.proofs.Kept.Turns.{to_come, has_job, turn-idle, turn-busy}

-- turns go round until the story is over

-- a stage that stands where the story is over, else another
abbrev stage_if : Bool → Stage → Stage → Stage
stage_if over t x = elim over [ true ↦ t | false ↦ x ]

over-stays : (n s : ℕ) (t : Stage) → is_over t ≡ true → rounds n s t ≡ t
over-stays zero s t e = refl
over-stays (suc n) s t e = ap (λ b. stage_if b t (rounds n ((s + 1) % length (t.graph.queues)) (one_turn t s))) e

unless-over : (b : Bool) (t x y : Stage) → (is_over x ≡ true → y ≡ x) → is_over (stage_if b t x) ≡ true →
    stage_if b t y ≡ stage_if b t x
unless-over true t x y h e = refl
unless-over false t x y h e = h e

pub more-rounds : (n m s : ℕ) (t : Stage) → is_over (rounds n s t) ≡ true → rounds (n + m) s t ≡ rounds n s t
more-rounds zero m s t e =
    let z : zero + m ≡ m = omega arith in
    ap (λ k. rounds k s t) z ∙ over-stays m s t e
more-rounds (suc n) m s t e =
    let z : suc n + m ≡ suc (n + m) = omega arith in
    ap (λ k. rounds k s t) z
    ∙ unless-over (is_over t) t (rounds n ((s + 1) % length (t.graph.queues)) (one_turn t s))
    (rounds (n + m) ((s + 1) % length (t.graph.queues)) (one_turn t s))
    (λ h. more-rounds n m ((s + 1) % length (t.graph.queues)) (one_turn t s) h) e

-- ---- the next queue with a job

split : (a b : ℕ) → (a ≤ b) ⊎ (b < a)
split zero b = inl (omega arith)
split (suc a) zero = inr (omega arith)
split (suc a) (suc b) = elim (split a b) [ inl h ↦ inl (omega (arith, h)) | inr h ↦ inr (omega (arith, h)) ]

-- from side s on, a queue with a job comes after c others
abbrev Waits : (k s c : ℕ) → List (List Job) → Type 0
Waits k s c qs = (p : ℕ) × (p < k) × (has_job (slice_get qs p) ≡ true) × ((s + c ≡ p) ⊎ (s + c ≡ p + k))

some-job : (qs : List (List Job)) → all_empty qs ≡ false → (p : ℕ) × (p < length qs) × (has_job (slice_get qs p) ≡ true)
some-job [] e = absurd (true≢false e)
some-job ([] ∷ qs) e = let h = some-job qs e in (suc h.0, omega (arith, h.1), h.2)
some-job ((j ∷ js) ∷ qs) e = (0, omega arith, refl)

waits-for : (k s : ℕ) (qs : List (List Job)) (p : ℕ) → s < k → p < k → has_job (slice_get qs p) ≡ true →
    (s ≤ p) ⊎ (p < s) → (c : ℕ) × (c < k) × Waits k s c qs
waits-for k s qs p sk pk h (inl l) = (p - s, omega (arith, sk, pk, l), (p, pk, h, inl (omega (arith, l))))
waits-for k s qs p sk pk h (inr l) = (p + k - s, omega (arith, sk, pk, l), (p, pk, h, inr (omega (arith, sk, l))))

waits : (k s : ℕ) (qs : List (List Job)) → length qs ≡ k → s < k → all_empty qs ≡ false →
    (c : ℕ) × (c < k) × Waits k s c qs
waits k s qs e sk f =
    let h = some-job qs f in
    waits-for k s qs h.0 sk (omega (arith, e, h.1)) h.2 (split s h.0)

-- the next side
abbrev Next : ℕ → ℕ → Type 0
Next k s = (((s + 1) % k ≡ s + 1) × (s + 1 < k)) ⊎ (((s + 1) % k ≡ 0) × (s + 1 ≡ k))

next-by : (k s : ℕ) → (s + 1 < k) ⊎ (s + 1 ≡ k) → Next k s
next-by k s (inl l) =
    let z : 0 * k + (s + 1) ≡ s + 1 = omega arith in
    inl (subst (λ x. x % k ≡ s + 1) z (mod-mul-add 0 k (s + 1) l), l)
next-by k s (inr e) =
    let z : 1 * k + 0 ≡ s + 1 = omega (arith, e) in
    inr (subst (λ x. x % k ≡ 0) z (mod-mul-add 1 k 0 (omega (arith, e))), e)

next : (k s : ℕ) → s < k → Next k s
next k s sk = elim (split k (s + 1)) [
  | inl l ↦ next-by k s (inr (omega (arith, sk, l)))
  | inr l ↦ next-by k s (inl l)
]

next-below : (k s : ℕ) → s < k → Next k s → (s + 1) % k < k
next-below k s sk (inl h) = omega (arith, sk, h)
next-below k s sk (inr h) = omega (arith, sk, h)

-- one queue less is to be passed over
waits-less : (k s c : ℕ) (qs : List (List Job)) → s < k → Next k s → Waits k s (suc c) qs → Waits k ((s + 1) % k) c qs
waits-less k s c qs sk (inl h) (p, pk, j, inl e) = (p, pk, j, inl (omega (arith, h, e)))
waits-less k s c qs sk (inl h) (p, pk, j, inr e) = (p, pk, j, inr (omega (arith, h, e)))
waits-less k s c qs sk (inr h) (p, pk, j, inl e) = absurd (omega (arith, h, e, pk))
waits-less k s c qs sk (inr h) (p, pk, j, inr e) = (p, pk, j, inl (omega (arith, h, e)))

waits-here : (k s : ℕ) (qs : List (List Job)) → s < k → Waits k s 0 qs → has_job (slice_get qs s) ≡ true
waits-here k s qs sk (p, pk, j, inl e) =
    let z : p ≡ s = omega (arith, e) in
    subst (λ x. has_job (slice_get qs x) ≡ true) z j
waits-here k s qs sk (p, pk, j, inr e) = absurd (omega (arith, sk, e))

-- ---- the rounds are enough

not-over : (b c : Bool) → b || c ≡ false → (b ≡ false) × (c ≡ false)
not-over true c e = absurd (true≢false e)
not-over false c e = (refl, e)

over-if : (b : Bool) (t x : Stage) → (b ≡ true → is_over t ≡ true) → (b ≡ false → is_over x ≡ true) →
    is_over (stage_if b t x) ≡ true
over-if true t x p q = p refl
over-if false t x p q = q refl

-- what a stage asks so that n rounds from side s on are enough, where k queues are and c are to be passed over
abbrev Enough : ℕ → Type 0
Enough n = (k s c : ℕ) (t : Stage) → length (t.graph.queues) ≡ k → s < k → c < k → Waits k s c (t.graph.queues) →
    to_come t * k + c < n → is_over (rounds n s t) ≡ true

-- behind a turn that took a job
after-busy : (n k s : ℕ) (t u : Stage) (c : ℕ) → Enough n → s < k → length (u.graph.queues) ≡ k →
    ((is_spent u.ending ≡ true) ⊎ (to_come u < to_come t)) → to_come t * k + c < suc n →
    (b : Bool) → is_over u ≡ b → is_over (rounds n s u) ≡ true
after-busy n k s t u c enough sk e l h true o = ap is_over (over-stays n s u o) ∙ o
after-busy n k s t u c enough sk e (inl spent) h false o =
    absurd (true≢false (sym spent ∙ (not-over (is_spent u.ending) (all_empty (u.graph.queues)) o).0))
after-busy n k s t u c enough sk e (inr l) h false o =
    let w = waits k s (u.graph.queues) e sk (not-over (is_spent u.ending) (all_empty (u.graph.queues)) o).1 in
    let m : to_come u * k + w.0 < k * to_come t = mul-add-lt (to_come u) k w.0 (to_come t) l w.1 in
    let z : k * to_come t ≡ to_come t * k = mul_comm k (to_come t) in
    enough k s w.0 u e sk w.1 w.2 (omega (arith, m, z, h))

-- behind a turn that found none
after-idle : (n k s c : ℕ) (t : Stage) → Enough n → length (t.graph.queues) ≡ k → s < k → c < k →
    Waits k s c (t.graph.queues) → has_job (slice_get (t.graph.queues) s) ≡ false → to_come t * k + c < suc n →
    is_over (rounds n ((s + 1) % k) t) ≡ true
after-idle n k s zero t enough e sk ck w f h = absurd (true≢false (sym (waits-here k s (t.graph.queues) sk w) ∙ f))
after-idle n k s (suc c) t enough e sk ck w f h =
    enough k ((s + 1) % k) c t e (next-below k s sk (next k s sk)) (omega (arith, ck))
    (waits-less k s c (t.graph.queues) sk (next k s sk) w) (omega (arith, h))

after-turn : (n k s c : ℕ) (t : Stage) → Enough n → length (t.graph.queues) ≡ k → s < k → c < k →
    Waits k s c (t.graph.queues) → to_come t * k + c < suc n →
    (b : Bool) → has_job (slice_get (t.graph.queues) s) ≡ b → is_over (rounds n ((s + 1) % k) (one_turn t s)) ≡ true
after-turn n k s c t enough e sk ck w h true f =
    let ran = turn-busy t s f in
    after-busy n k ((s + 1) % k) t (one_turn t s) c enough (next-below k s sk (next k s sk)) (ran.0.0 ∙ e) ran.1 h
    (is_over (one_turn t s)) refl
after-turn n k s c t enough e sk ck w h false f =
    ap (λ u. is_over (rounds n ((s + 1) % k) u)) (turn-idle t s f) ∙ after-idle n k s c t enough e sk ck w f h

enough-rounds : (n : ℕ) → Enough n
enough-rounds zero k s c t e sk ck w h = absurd (omega (arith, h))
enough-rounds (suc n) k s c t e sk ck w h =
    over-if (is_over t) t (rounds n ((s + 1) % length (t.graph.queues)) (one_turn t s)) (λ o. o)
    (λ o. ap (λ m. is_over (rounds n ((s + 1) % m) (one_turn t s))) e
    ∙ after-turn n k s c t (enough-rounds n) e sk ck w h (has_job (slice_get (t.graph.queues) s)) refl)

-- ---- from the first stage, through the letters

-- there are k queues, and no more scripts wait than there are queues
abbrev Fresh : ℕ → Stage → Type 0
Fresh k t = (length (t.graph.queues) ≡ k) × (scripts (t.graph.queues) ≤ k)

turn-fresh : (k : ℕ) (t : Stage) (s : ℕ) → Fresh k t → (b : Bool) → has_job (slice_get (t.graph.queues) s) ≡ b →
    Fresh k (one_turn t s)
turn-fresh k t s h true f = let ran = turn-busy t s f in (ran.0.0 ∙ h.0, omega (arith, ran.0.1, h))
turn-fresh k t s h false f = subst (λ u. Fresh k u) (sym (turn-idle t s f)) h

letter-fresh : (k : ℕ) (x : Letter) (t : Stage) → Fresh k t → Fresh k (one_letter t x)
letter-fresh k (Side s) t h = turn-fresh k t s h (has_job (slice_get (t.graph.queues) s)) refl
letter-fresh k Cut t h = h

fresh-if : (k : ℕ) (b : Bool) (t x : Stage) → Fresh k t → Fresh k x → Fresh k (stage_if b t x)
fresh-if k true t x h h' = h
fresh-if k false t x h h' = h'

letters-fresh : (k : ℕ) (word : List Letter) (t : Stage) → Fresh k t → Fresh k (letters word t)
letters-fresh k [] t h = h
letters-fresh k (x ∷ xs) t h =
    fresh-if k (is_spent t.ending) t (letters xs (one_letter t x)) h
    (letters-fresh k xs (one_letter t x) (letter-fresh k x t h))

first-scripts : (ps : List Program) → scripts (map (λ p. Script ∷ []) ps) ≡ length ps
first-scripts [] = refl
first-scripts (p ∷ ps) = let h = first-scripts ps in omega (arith, h)

first-fresh : (ps : List Program) (rules : List Rule) (f : ℕ) → Fresh (length ps) (first_stage ps rules f)
first-fresh ps rules f =
    let few = first-scripts ps in
    (length-map ps (λ p. Script ∷ []), omega (arith, few))

round-over : (k : ℕ) (t : Stage) → Fresh k t → (b : Bool) → is_over t ≡ b → is_over (go_round t) ≡ true
round-over k t h true o = ap is_over (over-stays (enough t) 0 t o) ∙ o
round-over k t h false o =
    let j = some-job (t.graph.queues) (not-over (is_spent t.ending) (all_empty (t.graph.queues)) o).1 in
    let some : 0 < k = omega (arith, h.0, j.1) in
    let w = waits k 0 (t.graph.queues) h.0 some (not-over (is_spent t.ending) (all_empty (t.graph.queues)) o).1 in
    let l : to_come t < t.left + k + 1 = omega (arith, h.1) in
    let m : to_come t * k + w.0 < k * (t.left + k + 1) = mul-add-lt (to_come t) k w.0 (t.left + k + 1) l w.1 in
    let z : enough t ≡ k * (t.left + k + 1) = ap (λ x. x * (t.left + x + 1)) h.0 in
    enough-rounds (enough t) k 0 w.0 t h.0 some w.1 w.2 (omega (arith, m, z))

pub story-over : (ps : List Program) (rules : List Rule) (word : List Letter) (f : ℕ) →
    is_over (Story ps rules word f) ≡ true
story-over ps rules word f =
    let t = letters word (first_stage ps rules f) in
    round-over (length ps) t (letters-fresh (length ps) word (first_stage ps rules f) (first-fresh ps rules f))
    (is_over t) refl

pub story-rounds : (ps : List Program) (rules : List Rule) (word : List Letter) (f more : ℕ) →
    rounds (enough (letters word (first_stage ps rules f)) + more) 0 (letters word (first_stage ps rules f))
    ≡ Story ps rules word f
story-rounds ps rules word f more =
    let t = letters word (first_stage ps rules f) in
    more-rounds (enough t) more 0 t (story-over ps rules word f)
