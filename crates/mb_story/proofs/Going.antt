-- From turn to turn: along a schedule, along rounds, and to the end.
use Rattle.std.proofs.Common.{Bool, List, Ok, Some, [], ap, ap₂, arith, drop, false, get_or, inl, inr, length, map, refl, slice_index_or, subst, suc, sym, true, true≢false, zero, ℕ, ◌%◌, ◌+◌, ◌<◌, ◌∙◌, ◌∷◌, ◌≡◌, ◌⊎◌}
use Rattle.std.proofs.Math.Nat.{mod-eq_of_lt, mod_self}
use Rattle.std.proofs.lemmas.List.{length-map}
use Rattle.std.proofs.lemmas.Option.{slice_get-get_or}
use Rattle.mb_base.specs.declared.value.Side.{Side}
use Rattle.mb_model.specs.Story.{Stage, all_empty, is_over, is_spent, letters, one_letter, one_turn, rounds}
use Rattle.mb_model.specs.Story as story
use Rattle.mb_story.proofs.Jobs.{no-jobs}
use Rattle.mb_story.proofs.Leading.{leads-none, leads-on, leads-to, leads-turn, over-by, over-none}
use Rattle.mb_story.proofs.Lines.{bytes-go-on}
use Rattle.mb_story.proofs.Logs.{word-adds}
use Rattle.mb_story.proofs.Putting.{part-of}
use Rattle.mb_story.specs.Running.{NamesItsSide, NamesItsSides, ending_of, letter_of}
use Rattle.mb_story.specs.declared.ending.Ending.{Ending}
use Rattle.mb_story.specs.declared.ending.Ending.TheVariants as an
use Rattle.mb_story.specs.declared.ending.RunFault.{RunFault}
use Rattle.mb_story.specs.declared.schedule.Letter.{Letter}
use Rattle.mb_story.specs.declared.schedule.Letter.TheVariants.{Turn}
use Rattle.mb_story.specs.declared.style.Style.{Style}
use Rattle.mb_story.specs.machine.Telling.{Falls, FallsBehind, Gone, HasJob, HasNoJobs, IsOver, Leads, RoundsOver, Scene, Stands, Sunk, TookPart, so_far, still_to_come, to_come}
use Rattle.mb_world.proofs.Grow.{All-at}
use Rattle.mb_world.specs.Data.{Data, queue_of}
use Rattle.mb_world.specs.Graph.{Graph}

-- ---- a schedule

-- a stage that stands where it is spent, else another
abbrev stage_if : Bool → Stage → Stage → Stage
stage_if spent t x = elim spent [ true ↦ t | false ↦ x ]

spent-stays : (word : List story.Letter) (t : Stage) → is_spent t.ending ≡ true → letters word t ≡ t
spent-stays [] t e = refl
spent-stays (x ∷ xs) t e = ap (λ (b : Bool). stage_if b t (letters xs (one_letter t x))) e

drop-word : (word : List Letter) (k : ℕ) (d x : Letter) → k < length word → get_or word k d ≡ x
    → drop k (map letter_of word) ≡ letter_of x ∷ drop (suc k) (map letter_of word)
drop-word [] k d x l e = absurd (omega (arith, l))
drop-word (y ∷ ys) zero d x l e = ap (λ (z : Letter). letter_of z ∷ map letter_of ys) e
drop-word (y ∷ ys) (suc k) d x l e = drop-word ys k d x (omega (arith, l)) e

-- the next letter
pub word-on : (word : List Letter) (k : ℕ) (d : Letter) (side : Side) (u : Stage) → k < length word
    → get_or word k d ≡ Turn side → is_spent u.ending ≡ false
    → letters (drop k (map letter_of word)) u ≡ letters (drop (k + 1) (map letter_of word)) (one_turn u side.0)
word-on word k d side u l e f =
    let rest : List story.Letter = drop (suc k) (map letter_of word) in
    let z : suc k ≡ k + 1 = omega arith in
    ap (λ (w : List story.Letter). letters w u) (drop-word word k d (Turn side) l e)
    ∙ ap (λ (b : Bool). stage_if b u (letters rest (one_turn u side.0))) f
    ∙ ap (λ (n : ℕ). letters (drop n (map letter_of word)) (one_turn u side.0)) z

-- it ends where it is spent
pub word-spent : (word : List story.Letter) (u v : Stage) → letters word u ≡ v → is_spent u.ending ≡ true → u ≡ v
word-spent word u v e f = sym (spent-stays word u f) ∙ e

-- a run that breaks off at a letter
pub part-of-word : (style : Style) (start now : Sunk) (why : RunFault) (word : List story.Letter) (u v : Stage)
    → letters word u ≡ v → TookPart start now why (so_far style u) → TookPart start now why (so_far style v)
part-of-word style start now why word u v e h =
    subst (λ (x : Stage). TookPart start now why (so_far style x)) e
    (part-of start now why (so_far style u) (so_far style (letters word u))
    (bytes-go-on style u (letters word u) (word-adds word u)) h)

-- ---- a round

-- the side of the next turn, or the first one again
side-on : (i k : ℕ) → i < k → (i % k + 1) % k ≡ (i + 1) % k
side-on i k l = ap (λ (n : ℕ). (n + 1) % k) (mod-eq_of_lt l)

-- a stage after one more turn of a round
pub round-on : (t u : Stage) (i k : ℕ) → Leads t 0 u (i % k) → i < k → is_spent u.ending ≡ false
    → length (u.graph.queues) ≡ k → Leads t 0 (one_turn u i) ((i + 1) % k)
round-on t u i k h l f e =
    let z : i % k ≡ i = mod-eq_of_lt l in
    subst (λ (n : ℕ). Leads t 0 (one_turn u i) n) (side-on i k l)
    (subst (λ (n : ℕ). Leads t 0 (one_turn u n) ((i % k + 1) % k)) z (leads-turn t 0 u (i % k) k h f e))

-- before the first turn
pub round-start : (t : Stage) (k : ℕ) → 0 < k → Leads t 0 t (0 % k)
round-start t k l = subst (λ (n : ℕ). Leads t 0 t n) (sym (mod-eq_of_lt l)) (leads-none t 0)

-- after a round the first side is next
pub round-first : (t u : Stage) (i k : ℕ) → Leads t 0 u (i % k) → i ≡ k → Leads t 0 u 0
round-first t u i k h e =
    let z : i % k ≡ 0 = ap (λ (n : ℕ). n % k) e ∙ mod_self k in
    subst (λ (n : ℕ). Leads t 0 u n) z h

-- the stage of a turn that is the last
pub gone-last : (style : Style) (start now : Scene) (ending : Ending) (t u : Stage) (s : ℕ) → Leads t 0 u s
    → Stands style start now ending u → ending ≡ an.Spent → Gone style ending start now t
gone-last style start now ending t u s h k e =
    subst (λ (x : Ending). Gone style x start now t) (sym e) (
      h.turns,
      subst (Stands style start now an.Spent) (sym (leads-to t 0 u s h))
          (subst (λ (x : Ending). Stands style start now x u) e k),
    )

pub gone-on : (style : Style) (start now : Scene) (ending : Ending) (t u : Stage) → is_spent (ending_of ending) ≡ false
    → Leads t 0 u 0 → Stands style start now ending u → Gone style ending start now t
gone-on style start now an.Done t u f h k = (u, h, k)
gone-on style start now an.Uncaught t u f h k = (u, h, k)
gone-on style start now an.Spent t u f h k = absurd (true≢false f)

-- where it broke off
pub part-of-round : (style : Style) (start now : Sunk) (why : RunFault) (t u : Stage) (s : ℕ) → Leads t 0 u s
    → TookPart start now why (so_far style u)
    → (n : ℕ) × TookPart start now why (so_far style (rounds n 0 t))
part-of-round style start now why t u s h k =
    (h.turns, subst (λ (x : Stage). TookPart start now why (so_far style x)) (sym (leads-to t 0 u s h)) k)

-- ---- rounds

-- before the first one
pub gone-start : (style : Style) (start now : Scene) (ending : Ending) (t : Stage) → Stands style start now ending t
    → Gone style ending start now t
gone-start style start now an.Done t h = (t, leads-none t 0, h)
gone-start style start now an.Uncaught t h = (t, leads-none t 0, h)
gone-start style start now an.Spent t h = (0, h)

-- where rounds go on
pub gone-from : (style : Style) (start now : Scene) (ending : Ending) (t : Stage)
    → is_spent (ending_of ending) ≡ false → Gone style ending start now t
    → (u : Stage) × Leads t 0 u 0 × Stands style start now ending u
gone-from style start now an.Done t f h = h
gone-from style start now an.Uncaught t f h = h
gone-from style start now an.Spent t f h = absurd (true≢false f)

pub gone-then : (style : Style) (start now : Scene) (ending : Ending) (t u : Stage) → Leads t 0 u 0
    → Gone style ending start now u → Gone style ending start now t
gone-then style start now an.Done t u h k = (k.0, leads-on t 0 u 0 k.0 0 h k.1, k.2)
gone-then style start now an.Uncaught t u h k = (k.0, leads-on t 0 u 0 k.0 0 h k.1, k.2)
gone-then style start now an.Spent t u h k =
    (h.turns + k.0, subst (Stands style start now an.Spent) (sym (h.leads k.0)) k.1)

pub part-then : (style : Style) (start now : Sunk) (why : RunFault) (t u : Stage) → Leads t 0 u 0
    → ((n : ℕ) × TookPart start now why (so_far style (rounds n 0 u)))
    → (n : ℕ) × TookPart start now why (so_far style (rounds n 0 t))
part-then style start now why t u h k =
    (h.turns + k.0, subst (λ (x : Stage). TookPart start now why (so_far style x)) (sym (h.leads k.0)) k.1)

-- the last one
pub over-spent : (style : Style) (start now : Scene) (ending : Ending) (t : Stage)
    → is_spent (ending_of ending) ≡ true → Gone style ending start now t → RoundsOver style (Ok ending) start now t
over-spent style start now an.Done t f h = absurd (true≢false (sym f))
over-spent style start now an.Uncaught t f h = absurd (true≢false (sym f))
over-spent style start now an.Spent t f h =
    (h.0, over-by (rounds h.0 0 t) (ap is_spent h.1.ended), h.1)

pub over-idle : (style : Style) (start now : Scene) (ending : Ending) (t : Stage)
    → is_spent (ending_of ending) ≡ false → HasNoJobs now.world now.world.sides → Gone style ending start now t
    → RoundsOver style (Ok ending) start now t
over-idle style start now ending t f none h =
    let g = gone-from style start now ending t f h in
    let u : Stage = g.0 in
    let to : rounds g.1.turns 0 t ≡ u = leads-to t 0 u 0 g.1 in
    let over : is_over u ≡ true =
    over-none u (ap is_spent g.2.ended ∙ f)
    (ap (λ (k : Graph). all_empty k.queues) g.2.here.image ∙ no-jobs now.world u.graph.log none) in
    (g.1.turns, ap is_over to ∙ over, subst (Stands style start now ending) (sym to) g.2)

-- what ends them
pub over-at : (style : Style) (start now : Scene) (ending : Ending) (t : Stage) → IsOver ending now.world
    → Gone style ending start now t → RoundsOver style (Ok ending) start now t
over-at style start now ending t (inl spent) h = over-spent style start now ending t spent h
over-at style start now ending t (inr none) h = over-by-jobs (is_spent (ending_of ending)) refl
  where
    over-by-jobs : (b : Bool) → is_spent (ending_of ending) ≡ b → RoundsOver style (Ok ending) start now t
    over-by-jobs true e = over-spent style start now ending t e h
    over-by-jobs false e = over-idle style start now ending t e none h

-- ---- what is still to come, over a round

falls-of : (side : Side) (e : Ending) (d d' : Data) (f f' : ℕ) → is_spent (ending_of e) ≡ false → Falls side e d f d' f'
    → ((queue_of d side ≡ []) × (d' ≡ d) × (f' ≡ f)) ⊎ (to_come d' f' < to_come d f)
falls-of side an.Done d d' f f' n h = h
falls-of side an.Uncaught d d' f f' n h = h
falls-of side an.Spent d d' f f' n h = absurd (true≢false n)

-- nothing was done so far, or less is to come
abbrev pub Fell : Data → ℕ → ℕ → Data → ℕ → Type 0
Fell d0 f0 i d f = ((HasNoJobs d0 i) × (d ≡ d0) × (f ≡ f0)) ⊎ (to_come d f < to_come d0 f0)

one-more : (d : Data) (i : ℕ) (side : Side) → side.0 ≡ i → HasNoJobs d i → queue_of d side ≡ []
    → HasNoJobs d (i + 1)
one-more d i side e none q = λ other l. by other (least other.0 i l) l
  where
    least : (a b : ℕ) → a < b + 1 → (a < b) ⊎ (a ≡ b)
    least zero zero l = inr refl
    least zero (suc b) l = inl (omega arith)
    least (suc a) zero l = absurd (omega (arith, l))
    least (suc a) (suc b) l = elim (least a b (omega (arith, l))) [ inl h ↦ inl (omega (arith, h)) | inr h ↦ inr (ap suc h) ]

    by : (other : Side) → (other.0 < i) ⊎ (other.0 ≡ i) → other.0 < i + 1 → queue_of d other ≡ []
    by other (inl h) l = none other h
    by other (inr h) l = subst (λ (n : ℕ). slice_index_or d.queues n [] ≡ []) (e ∙ sym h) q

pub fell-on : (d0 d d' : Data) (f0 f f' i : ℕ) (side : Side) (e : Ending) → side.0 ≡ i
    → is_spent (ending_of e) ≡ false → Fell d0 f0 i d f → Falls side e d f d' f' → Fell d0 f0 (i + 1) d' f'
fell-on d0 d d' f0 f f' i side e at n h k = by h (falls-of side e d d' f f' n k)
  where
    by : Fell d0 f0 i d f → ((queue_of d side ≡ []) × (d' ≡ d) × (f' ≡ f)) ⊎ (to_come d' f' < to_come d f)
        → Fell d0 f0 (i + 1) d' f'
    by (inl p) (inl q) =
        inl (one-more d0 i side at p.0 (subst (λ (x : Data). queue_of x side ≡ []) p.1 q.0), q.1 ∙ p.1, q.2 ∙ p.2)
    by (inl p) (inr q) = inr (subst (λ (n : ℕ). to_come d' f' < n) (ap₂ to_come p.1 p.2) q)
    by (inr p) (inl q) = inr (subst (λ (n : ℕ). n < to_come d0 f0) (sym (ap₂ to_come q.1 q.2)) p)
    by (inr p) (inr q) = inr (omega (arith, p, q))

pub fell-behind : (e : Ending) (d0 d : Data) (f0 f i : ℕ) → i ≡ d0.sides → HasJob d0 → Fell d0 f0 i d f
    → FallsBehind e d0 f0 d f
fell-behind an.Spent d0 d f0 f i at job h = tt
fell-behind an.Done d0 d f0 f i at job (inl h) = absurd (job.2 (h.0 job.0 (subst (λ (n : ℕ). job.0.0 < n) (sym at) job.1)))
fell-behind an.Done d0 d f0 f i at job (inr h) = h
fell-behind an.Uncaught d0 d f0 f i at job (inl h) = absurd (job.2 (h.0 job.0 (subst (λ (n : ℕ). job.0.0 < n) (sym at) job.1)))
fell-behind an.Uncaught d0 d f0 f i at job (inr h) = h

pub spent-behind : (e : Ending) (d0 d : Data) (f0 f : ℕ) → is_spent (ending_of e) ≡ true → FallsBehind e d0 f0 d f
spent-behind an.Done d0 d f0 f h = absurd (true≢false (sym h))
spent-behind an.Uncaught d0 d f0 f h = absurd (true≢false (sym h))
spent-behind an.Spent d0 d f0 f h = tt

-- after a round less is still to come
pub round-less : (e became : Ending) (d d' : Data) (f f' : ℕ) → is_spent (ending_of e) ≡ false
    → FallsBehind became d f d' f' → still_to_come became d' f' < still_to_come e d f
round-less an.Spent became d d' f f' n h = absurd (true≢false n)
round-less an.Done an.Done d d' f f' n h = omega (arith, h)
round-less an.Done an.Uncaught d d' f f' n h = omega (arith, h)
round-less an.Done an.Spent d d' f f' n h = omega arith
round-less an.Uncaught an.Done d d' f f' n h = omega (arith, h)
round-less an.Uncaught an.Uncaught d d' f f' n h = omega (arith, h)
round-less an.Uncaught an.Spent d d' f f' n h = omega arith

-- ---- the letters of a schedule

-- the side of a letter takes part
pub side-within : (sides : ℕ) (word : List Letter) (k : ℕ) (d : Letter) (side : Side) → k < length word
    → get_or word k d ≡ Turn side → NamesItsSides sides word → side.0 < sides
side-within sides word k d side l e h =
    All-at (NamesItsSide sides) word k (Turn side) (slice_get-get_or word k d l ∙ ap Some e) h

-- at the end of the word
pub word-over : (word : List Letter) (k : ℕ) (u : Stage) (v : Stage) → k ≡ length word
    → letters (drop k (map letter_of word)) u ≡ v → u ≡ v
word-over word k u v e h =
    let none : drop k (map letter_of word) ≡ [] =
    ap (λ (n : ℕ). drop n (map letter_of word)) (e ∙ sym (length-map word letter_of)) ∙ drop-all (map letter_of word) in
    ap (λ (w : List story.Letter). letters w u) (sym none) ∙ h
  where
    drop-all : (xs : List story.Letter) → drop (length xs) xs ≡ []
    drop-all [] = refl
    drop-all (x ∷ xs) = drop-all xs
