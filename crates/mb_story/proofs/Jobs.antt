-- Which jobs wait, in a world and in the graph that it stands for, and what is still to come.
use Rattle.std.proofs.Common.{List, [], ap, arith, false, inl, inr, map, refl, slice_get, slice_index_or, suc, sym, true, true≢false, zero, ℕ, ◌<◌, ◌∙◌, ◌∷◌, ◌≡◌, ◌≢◌, ◌⊎◌}
use Rattle.std.specs.Prelude.{take}
use Rattle.mb_base.specs.declared.value.Side.{Side}
use Rattle.mb_frames.specs.Standing.{Logged}
use Rattle.mb_model.proofs.Kept.Queues.{scripts}
use Rattle.mb_model.proofs.Kept.Turns.{has_job, to_come as stage_to_come, turn-busy}
use Rattle.mb_model.specs.Story.{Stage, all_empty, is_spent, one_turn}
use Rattle.mb_model.specs.Trace.Entries.{entries}
use Rattle.mb_story.specs.Running.{StandsAt, ending_of}
use Rattle.mb_story.specs.declared.ending.Ending.{Ending}
use Rattle.mb_story.specs.declared.ending.Ending.TheVariants as an
use Rattle.mb_story.specs.machine.Telling.{Falls, HasNoJobs, to_come}
use Rattle.mb_world.specs.Data.{Data, queue_of}
use Rattle.mb_world.specs.Graph as graph
use Rattle.mb_world.specs.Graph.{Entry, Item, Traced}
use Rattle.mb_world.specs.Image.{Image, entries_in, job_in, names_of}
use Rattle.mb_world.specs.declared.scope.Job.{Job}

-- ---- queues

job-at : (F : Job → graph.Job) (qs : List (List Job)) (n i : ℕ) → i < n → (slice_index_or qs i [] ≡ [] → ⊥)
    → has_job (slice_get (map (map F) (take n qs)) i) ≡ true
job-at F [] n i h none = absurd (none refl)
job-at F (q ∷ qs) zero i h none = absurd (omega (arith, h))
job-at F ([] ∷ qs) (suc n) zero h none = absurd (none refl)
job-at F ((j ∷ js) ∷ qs) (suc n) zero h none = refl
job-at F (q ∷ qs) (suc n) (suc i) h none = job-at F qs n i (omega (arith, h)) none

none-there : (F : Job → graph.Job) (qs : List (List Job)) (n : ℕ)
    → ((i : ℕ) → i < n → slice_index_or qs i [] ≡ []) → all_empty (map (map F) (take n qs)) ≡ true
none-there F [] zero h = refl
none-there F [] (suc n) h = refl
none-there F (q ∷ qs) zero h = refl
none-there F ([] ∷ qs) (suc n) h = none-there F qs n (λ i l. h (suc i) (omega (arith, l)))
none-there F ((j ∷ js) ∷ qs) (suc n) h = absurd (let bad : j ∷ js ≡ [] = h zero (omega arith) in cc)

pub has-job : (d : Data) (side : Side) (log : List Item) → side.0 < d.sides → (queue_of d side ≡ [] → ⊥)
    → has_job (slice_get (Image d log).queues side.0) ≡ true
has-job d side log h none = job-at (job_in (names_of d)) d.queues d.sides side.0 h none

pub no-jobs : (d : Data) (log : List Item) → HasNoJobs d d.sides → all_empty (Image d log).queues ≡ true
no-jobs d log h =
    none-there (job_in (names_of d)) d.queues d.sides
    (λ i l. let side : Side = record { 0 = i } in h side l)

-- ---- a stage where any world stands

entries-traced : (es : List Entry) → entries (map Traced es) ≡ es
entries-traced [] = refl
entries-traced (e ∷ es) = ap (λ (z : List Entry). e ∷ z) (entries-traced es)

abbrev pub log_of : Data → List Item
log_of d = map Traced (entries_in d)

pub is-logged : (d : Data) → Logged d (log_of d)
is-logged d = entries-traced (entries_in d)

abbrev pub stage_of : Data → ℕ → Ending → Stage
stage_of d f ending = record { graph = Image d (log_of d); left = f; ending = ending_of ending; ran = [] }

pub stands-there : (d : Data) (f : ℕ) (ending : Ending) → StandsAt d f (stage_of d f ending)
stands-there d f ending = record { image = refl; logged = is-logged d; left = refl }

-- ---- what is still to come

pub unspent : (e : Ending) → e ≢ an.Spent → is_spent (ending_of e) ≡ false
unspent an.Done h = refl
unspent an.Uncaught h = refl
unspent an.Spent h = absurd (h refl)

pub is-unspent : (e : Ending) → is_spent (ending_of e) ≡ false → e ≢ an.Spent
is-unspent an.Done h e = cc
is-unspent an.Uncaught h e = cc
is-unspent an.Spent h e = absurd (true≢false h)

pub spent-is : (e : Ending) → is_spent (ending_of e) ≡ true → e ≡ an.Spent
spent-is an.Done h = absurd (true≢false (sym h))
spent-is an.Uncaught h = absurd (true≢false (sym h))
spent-is an.Spent h = refl

-- a stage that a turn of a queue with a job left
less-by : (t u : Stage) (d d' : Data) (f f' : ℕ) (e : Ending) → e ≢ an.Spent → StandsAt d f t → StandsAt d' f' u
    → u.ending ≡ ending_of e → (is_spent u.ending ≡ true) ⊎ (stage_to_come u < stage_to_come t)
    → to_come d' f' < to_come d f
less-by t u d d' f f' e n p q is (inl spent) = absurd (true≢false (sym spent ∙ ap is_spent is ∙ unspent e n))
less-by t u d d' f f' e n p q is (inr less) =
    let a : scripts (t.graph.queues) ≡ scripts (Image d []).queues = ap (λ (g : graph.Graph). scripts g.queues) p.image in
    let b : scripts (u.graph.queues) ≡ scripts (Image d' []).queues = ap (λ (g : graph.Graph). scripts g.queues) q.image in
    omega (arith, less, a, b, p.left, q.left)

pub turn-falls : (d d' : Data) (f f' : ℕ) (side : Side) (ending became : Ending) → became ≢ an.Spent
    → side.0 < d.sides → (queue_of d side ≡ [] → ⊥)
    → StandsAt d' f' (one_turn (stage_of d f ending) side.0)
    → (one_turn (stage_of d f ending) side.0).ending ≡ ending_of became
    → to_come d' f' < to_come d f
turn-falls d d' f f' side ending became n i none here is =
    let t : Stage = stage_of d f ending in
    less-by t (one_turn t side.0) d d' f f' became n (stands-there d f ending) here is
    (turn-busy t side.0 (has-job d side (log_of d) i none)).1

pub falls-by : (side : Side) (became : Ending) (d d' : Data) (f f' : ℕ)
    → (became ≢ an.Spent → ((queue_of d side ≡ []) × (d' ≡ d) × (f' ≡ f)) ⊎ (to_come d' f' < to_come d f))
    → Falls side became d f d' f'
falls-by side an.Done d d' f f' h = h (λ e. cc)
falls-by side an.Uncaught d d' f f' h = h (λ e. cc)
falls-by side an.Spent d d' f f' h = tt
