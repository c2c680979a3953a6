-- A job of `later` is the last of the acting side's queue, and the world stays ready.
use Rattle.std.proofs.Common.{◌++◌, ◌<◌, ◌∙◌, ◌∷◌, ◌≡◌, List, None, Ok, Option, Some, [], ap, arith, false, map, option_map, refl, slice_get, slice_index_or, slice_set, suc, sym, take, true, zero, ℕ}
use Rattle.std.specs.Prelude.{All}
use Rattle.std.proofs.lemmas.List.{map-append}
use Rattle.std.proofs.lemmas.List.Elements.{All-cons, All-nil, All-push, All-weaker}
use Rattle.std.proofs.lemmas.Option.{slice_get-map, unwrap_or-slice_get}
use Rattle.std.specs.Prelude.{unwrap_or}
use Rattle.mb_base.specs.declared.value.Side.{Side}
use Rattle.mb_base.specs.declared.value.Value.{Value}
use Rattle.mb_base.specs.declared.value.Value.TheVariants as v
use Rattle.mb_frames.proofs.HeldCells.{jobs-held}
use Rattle.mb_frames.proofs.Passed.{Part-passed, Part-sure, Passes-becomes}
use Rattle.mb_frames.proofs.Readying.{queue-changed}
use Rattle.mb_frames.proofs.Steps.{Sure-value}
use Rattle.mb_frames.specs.Found.{HoldsJob}
use Rattle.mb_frames.specs.Held.{HeldCallable}
use Rattle.mb_frames.specs.Passing.{Part}
use Rattle.mb_frames.specs.Ready.{Changed, IsReady, MayHold}
use Rattle.mb_frames.specs.declared.frame.Move.TheVariants as move
use Rattle.mb_frames.specs.declared.task.Answer.TheVariants as a
use Rattle.mb_frames.specs.declared.task.Outcome.TheVariants as o
use Rattle.mb_model.specs.BuiltIns.Arguments.{undefined}
use Rattle.mb_model.specs.BuiltIns.Basics.{later, queue_or_empty, with_job}
use Rattle.mb_model.specs.Meaning.{finished}
use Rattle.mb_model.specs.Writing.{◌>>=◌, Row, change, is_value, type_error, unless_type_error}
use Rattle.mb_world.proofs.AfterCalls.{of-queue}
use Rattle.mb_world.specs.Contained.{IsOwn, in_job}
use Rattle.mb_world.specs.Data.{Data, queue_of, with_queue}
use Rattle.mb_world.specs.Formed.{IsCallable, job_values}
use Rattle.mb_world.specs.Graph.{Call as CallJob, Graph, Item, Job as GraphJob}
use Rattle.mb_world.specs.Ids.{JobIn}
use Rattle.mb_world.specs.Image.{Image, Resolve, job_in, names_of}
use Rattle.mb_world.specs.Objects.{is_callable}
use Rattle.mb_world.specs.Value.{Undefined, Val}
use Rattle.mb_world.specs.declared.scope.Job.{Job}
use Rattle.mb_world.specs.declared.scope.Job.TheVariants as j

-- ---- the queue of the image

take-there : {A : Type 0} (xs : List A) (n k : ℕ) → k < n → slice_get (take n xs) k ≡ slice_get xs k
take-there xs zero k h = absurd (omega (arith, h))
take-there [] (suc n) k h = refl
take-there (x ∷ xs) (suc n) zero h = refl
take-there (x ∷ xs) (suc n) (suc k) h = take-there xs n k (omega (arith, h))

empty-mapped : (g : Job → GraphJob) (o : Option (List Job))
    → queue_or_empty (option_map (map g) o) ≡ map g (unwrap_or o [])
empty-mapped g None = refl
empty-mapped g (Some jobs) = refl

module _ (d : Data) (home : Side) (f : Value) (inside : home.0 < d.sides) where
  abbrev jobs : List Job
  jobs = queue_of d home ++ (j.Call f ∷ [])

  queue-is : queue_or_empty (slice_get (map (map (job_in (names_of d))) (take d.sides d.queues)) home.0)
      ≡ map (job_in (names_of d)) (queue_of d home)
  queue-is =
      let g = job_in (names_of d) in
      ap queue_or_empty (slice_get-map (map g) (take d.sides d.queues) home.0
      ∙ ap (option_map (map g)) (take-there d.queues d.sides home.0 inside))
      ∙ empty-mapped g (slice_get d.queues home.0)
      ∙ ap (map g) (unwrap_or-slice_get d.queues home.0 [])

  queued : (log : List Item) → with_job home.0 (CallJob (Resolve (names_of d) f)) (Image d log)
      ≡ (record (Image d log) {
        queues = slice_set (Image d log).queues home.0 (map (job_in (names_of d)) jobs);
      })
  queued log =
      ap (λ q. let r : Graph = record (Image d log) { queues = slice_set (Image d log).queues home.0 q } in r)
      (ap (λ q. q ++ (CallJob (Resolve (names_of d) f) ∷ [])) queue-is
      ∙ sym (map-append (job_in (names_of d)) (queue_of d home) (j.Call f ∷ [])))

  -- the row goes on once the test is passed
  pub later-row : ((log : List Item) → is_callable (Image d log) (Resolve (names_of d) f) ≡ true) → (u : ℕ)
      → Part home (Ok (move.Done (o.Normal (a.Value v.Undefined)))) d (with_queue d home jobs) u u
      (later home.0 (Resolve (names_of d) f) finished)
  later-row callable u =
      let d1 : Data = with_queue d home jobs in
      let x : Val = Resolve (names_of d) f in
      let p : Graph → Row = later home.0 x finished in
      let q : Graph → Row = is_value (Resolve (names_of d1) v.Undefined) finished in
      Part-passed home (Ok (move.Done (o.Normal (a.Value v.Undefined)))) d d1 d1 u u u p q
      (Passes-becomes d d1 u _ p q (of-queue d home jobs) refl refl refl refl
      (λ log. ap (λ b. (unless_type_error home.0 b >>=
      (λ y. change (with_job home.0 (CallJob x)) >>= (λ z. undefined))) finished (Image d log)) (callable log)
      ∙ ap q (queued log)))
      (Part-sure home d1 u q (move.Done (o.Normal (a.Value v.Undefined))) (Sure-value home d1 v.Undefined tt))

-- what can't be called is refused
pub uncalled-row : (d : Data) (s : ℕ) (x : Val) (log : List Item) → is_callable (Image d log) x ≡ false
    → later s x finished (Image d log) ≡ type_error s finished (Image d log)
uncalled-row d s x log e =
    ap (λ b. (unless_type_error s b >>= (λ y. change (with_job s (CallJob x)) >>= (λ z. undefined))) finished
    (Image d log)) e

-- ---- jobs that a home may hold

module _ (d : Data) (home : Side) where
  job-within : (x : Job) → HoldsJob d home x → JobIn d x
  job-within j.Script h = tt
  job-within (j.Call f) h = h.within

  job-callable : (x : Job) → HoldsJob d home x → All (IsCallable d) (job_values x)
  job-callable j.Script h = All-nil (IsCallable d)
  job-callable (j.Call f) h = All-cons (IsCallable d) f [] h.sound (All-nil (IsCallable d))

  job-own : d.joined ≡ false → (x : Job) → HoldsJob d home x → All (IsOwn d home) (in_job x)
  job-own u j.Script h = All-nil (IsOwn d home)
  job-own u (j.Call f) h = h.own u

  pub job-added : IsReady d → home.0 < 8 → (f : Value) → MayHold d home (HeldCallable f)
      → Changed home d (with_queue d home (queue_of d home ++ (j.Call f ∷ [])))
  job-added r i f h =
      let all : All (HoldsJob d home) (queue_of d home ++ (j.Call f ∷ []))
      = All-push (HoldsJob d home) (queue_of d home) (j.Call f) (jobs-held d r home i) h in
      let jobs : List Job = queue_of d home ++ (j.Call f ∷ []) in
      queue-changed home d r jobs (All-weaker (HoldsJob d home) (JobIn d) job-within jobs all)
      (All-weaker (HoldsJob d home) (λ x. All (IsCallable d) (job_values x)) job-callable jobs all)
      (λ u. All-weaker (HoldsJob d home) (λ x. All (IsOwn d home) (in_job x)) (job-own u) jobs all)
