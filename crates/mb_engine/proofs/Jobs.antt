-- A machine that begins a job is ready, and gives what the job gives.
use Rattle.std.proofs.Common.{List, None, Option, Some, [], ap, arith, drop, inl, length, refl, slice_get}
use Rattle.std.proofs.Common.{slice_index_or, suc, sym, true, zero, ℕ, ◌-◌, ◌<◌, ◌∙◌, ◌∷◌, ◌≡◌}
use Rattle.std.proofs.lemmas.List.Elements.{All-nil, All-tail}
use Rattle.std.specs.Prelude.{All, IsSomeAnd, map, take}
use Rattle.mb_base.specs.declared.value.ObjId.{ObjId}
use Rattle.mb_base.specs.declared.value.Side.{Side}
use Rattle.mb_base.specs.declared.value.Value.TheVariants as v
use Rattle.mb_engine.proofs.Globals.{scope-begun}
use Rattle.mb_engine.specs.Begun.{HasScript, IsBegun, global_scope}
use Rattle.mb_engine.specs.machine.Advancing.{meant}
use Rattle.mb_engine.specs.machine.Starting.{Begins, call_frame, root, script_frame}
use Rattle.mb_frames.proofs.AfterCalls.{queue-all}
use Rattle.mb_frames.proofs.HeldCells.{jobs-held}
use Rattle.mb_frames.proofs.Leaving.{held-stays, holds-in, holds-own, holds-sound}
use Rattle.mb_frames.proofs.Readying.{queue-changed}
use Rattle.mb_frames.proofs.Stack.{forms-grow}
use Rattle.mb_frames.specs.Found.{HoldsJob}
use Rattle.mb_frames.specs.Held.{HeldCallable}
use Rattle.mb_frames.specs.Holding.{frame_held}
use Rattle.mb_frames.specs.Kinds.{is_evaluated}
use Rattle.mb_frames.specs.Ready.{Changed, Holds, IsReady, IsReadyMachine, MayHold}
use Rattle.mb_frames.specs.Sorts.{ACompletion, Sort, waits_for}
use Rattle.mb_frames.specs.Standing.{RestBy, at_home, forms_at, frame_gives, stack_gives}
use Rattle.mb_frames.specs.Stepping.{IsStart}
use Rattle.mb_frames.specs.Wholeness.{IsFitFrame, StaysFound}
use Rattle.mb_frames.specs.declared.frame.Frame.{Frame}
use Rattle.mb_frames.specs.declared.frame.Frame.TheVariants as x
use Rattle.mb_frames.specs.declared.machine.Machine.{Machine}
use Rattle.mb_frames.specs.declared.machine.Waiting.{Waiting}
use Rattle.mb_growth.specs.Names.{HasGlobals}
use Rattle.mb_model.specs.Engine.{given}
use Rattle.mb_model.specs.Meaning.{row}
use Rattle.mb_model.specs.Story.{job_ends, last_form}
use Rattle.mb_model.specs.Task.{Evaluate, Normal, Nothing}
use Rattle.mb_world.proofs.Grow.{All-at}
use Rattle.mb_world.specs.Contained.{IsOwn, in_job}
use Rattle.mb_world.specs.Data.{Data, Script, queue_of, with_queue}
use Rattle.mb_world.specs.Formed.{IsCallable, job_values}
use Rattle.mb_world.specs.Graph.{Item}
use Rattle.mb_world.specs.Ids.{JobIn}
use Rattle.mb_world.specs.Image.{Image, job_in, names_of, program_in}
use Rattle.mb_world.specs.Value.{Undefined}
use Rattle.mb_world.specs.declared.scope.Job.{Job}
use Rattle.mb_world.specs.declared.scope.Job.TheVariants as j

-- ---- a machine of one frame, which starts

start-waits : (y : Frame) (s : Sort) → IsStart y → waits_for y s ≡ true
start-waits (x.Begin t) s h = refl
start-waits (x.Begun t) s h = refl
start-waits (x.Anew t) s h = refl
start-waits (x.Expr t) s h = absurd h
start-waits (x.Stmt t) s h = absurd h
start-waits (x.Call t) s h = absurd h
start-waits (x.Reflect t) s h = absurd h
start-waits (x.Array t) s h = absurd h
start-waits (x.Proxy t) s h = absurd h
start-waits (x.Collect t) s h = absurd h
start-waits (x.Membrane t) s h = absurd h
start-waits (x.Entry t) s h = absurd h

module _ (d : Data) (side : Side) (y : Frame) (m : Machine) (is : m.stack.items ≡ at_home side y ∷ [])
    (done : m.done ≡ None) where
  pub starting-ready : IsReady d → side.0 < d.sides → IsStart y → IsFitFrame d y → Holds d side (frame_held y)
      → m.now ≡ side → IsReadyMachine d m
  starting-ready r inside starts fit holds at = record {
    world = r;
    formed = record {
      ids = record { frames = rw is (holds-in d side (frame_held y) holds, tt); done = rw done tt };
      homes = rw is (inside, tt);
      now = rw at inside;
      frames = rw is (holds-sound d side (frame_held y) holds, tt);
      fit = rw is (fit, tt);
      done = rw done tt;
      outcome = rw (is, done) starts;
      sort = ACompletion;
      linked = rw is (start-waits y ACompletion starts, tt);
      of_sort = rw done tt;
    };
    contained = λ u. record {
      world = r.contained u;
      frames = rw is (holds-own d side (frame_held y) u holds, tt);
      done = rw done tt;
      homes = rw (is, at) (inl refl, tt);
    };
  }

  pub starting-rest : (f : ℕ) (log : List Item) → RestBy meant m d f log
      ≡ frame_gives meant (names_of d) (forms_at d side) side.0 y (Normal Nothing) (Image d log) f
  starting-rest f log =
      ap (λ (ys : List Waiting). stack_gives meant d ys m.done (Image d log) f) is
      ∙ ap (λ e. stack_gives meant d (at_home side y ∷ []) e (Image d log) f) done

-- ---- the frame of a job

some-in : {A : Type 0} (P : A → Type 0) (xs : List A) (i : ℕ) → IsSomeAnd (slice_get xs i) P → i < length xs
some-in P [] i h = absurd h
some-in P (x ∷ xs) zero h = omega arith
some-in P (x ∷ xs) (suc i) h = let k : i < length xs = some-in P xs i h in omega (arith, k)

root-at : (texts : List (List ℕ)) (ps : List (Option Script)) (i n : ℕ) → i < n
    → last_form (slice_get (map (program_in texts) (take n ps)) i)
    ≡ length ((program_in texts (slice_index_or ps i None)).forms) - 1
root-at texts [] i zero h = absurd (omega (arith, h))
root-at texts [] i (suc n) h = refl
root-at texts (p ∷ ps) i zero h = absurd (omega (arith, h))
root-at texts (p ∷ ps) zero (suc n) h = refl
root-at texts (p ∷ ps) (suc i) (suc n) h = root-at texts ps i n (omega (arith, h))

module _ (d : Data) (side : Side) (b : IsBegun d) (inside : side.0 < d.sides) where
  script-held : Holds d side (frame_held (script_frame d side))
  script-held =
      let s : HasScript d side = b.scripts side inside in
      let e : is_evaluated (slice_get (forms_at d side) (root d side).0) ≡ true = rw s.last refl in (
        record {
          within = some-in (λ k. k.home ≡ side) d.scopes side.0 (scope-begun d b.globals side inside);
          sound = scope-begun d b.globals side inside;
          own = λ u. All-nil (IsOwn d side);
        },
        (
          record { within = tt; sound = tt; own = λ u. All-nil (IsOwn d side) },
          (record { within = tt; sound = e; own = λ u. All-nil (IsOwn d side) }, tt),
        ),
      )

  call-held : (object : ObjId) → MayHold d side (HeldCallable (v.Object object))
      → Holds d side (frame_held (call_frame side object))
  call-held object h = (
    record { within = h.within; sound = tt; own = h.own },
    (
      record { within = tt; sound = tt; own = λ u. All-nil (IsOwn d side) },
      (record { within = All-nil _; sound = All-nil _; own = λ u. All-nil (IsOwn d side) }, tt),
    ),
  )

  pub job-held : (job : Job) (y : Frame) → HoldsJob d side job → Begins d side job y → Holds d side (frame_held y)
  job-held j.Script y h e = rw e script-held
  job-held (j.Call (v.Object object)) y h e = rw e (call-held object h)
  job-held (j.Call v.Undefined) y h e = absurd e
  job-held (j.Call v.Null) y h e = absurd e
  job-held (j.Call (v.Bool z)) y h e = absurd e
  job-held (j.Call (v.Whole z)) y h e = absurd e
  job-held (j.Call (v.Text z)) y h e = absurd e
  job-held (j.Call (v.Symbol z)) y h e = absurd e

  pub job-starts : (job : Job) (y : Frame) → Begins d side job y → IsStart y × IsFitFrame d y
  job-starts j.Script y e = rw e (tt, tt)
  job-starts (j.Call (v.Object object)) y e = rw e (tt, tt)
  job-starts (j.Call v.Undefined) y e = absurd e
  job-starts (j.Call v.Null) y e = absurd e
  job-starts (j.Call (v.Bool z)) y e = absurd e
  job-starts (j.Call (v.Whole z)) y e = absurd e
  job-starts (j.Call (v.Text z)) y e = absurd e
  job-starts (j.Call (v.Symbol z)) y e = absurd e

  pub job-gives : (job : Job) (y : Frame) → Begins d side job y → (f : ℕ) (log : List Item)
      → frame_gives meant (names_of d) (forms_at d side) side.0 y (Normal Nothing) (Image d log) f
      ≡ job_ends side.0 (job_in (names_of d) job) (Image d log) f
  job-gives j.Script y e f log =
      rw e (ap (λ (n : ℕ). given row (Evaluate side.0 n side.0 Undefined) (Image d log) f)
      (sym (root-at d.texts d.programs side.0 d.sides inside)))
  job-gives (j.Call (v.Object object)) y e f log = rw e refl
  job-gives (j.Call v.Undefined) y e f log = absurd e
  job-gives (j.Call v.Null) y e f log = absurd e
  job-gives (j.Call (v.Bool z)) y e f log = absurd e
  job-gives (j.Call (v.Whole z)) y e f log = absurd e
  job-gives (j.Call (v.Text z)) y e f log = absurd e
  job-gives (j.Call (v.Symbol z)) y e f log = absurd e

-- ---- a begun world stays begun

pub begun-stays : (d d' : Data) → IsBegun d → IsReady d' → StaysFound d d' → HasGlobals d.sides (Image d' [])
    → IsBegun d'
begun-stays d d' b r s has = record {
  ready = r;
  scripts = λ side i.
      let h : HasScript d side = b.scripts side (rw (← s.grew.sides) i) in
      let e : forms_at d' side ≡ forms_at d side = forms-grow d d' b.ready.ids s.grew side in
      record { statements = h.statements; last = rw e h.last; few = rw e h.few };
  globals = rw s.grew.sides has;
}

-- ---- a job is taken

all-drop : {A : Type 0} (P : A → Type 0) (xs : List A) → All P xs → All P (drop 1 xs)
all-drop P [] h = h
all-drop P (x ∷ xs) h = All-tail P x xs h

pub taken-changed : (d : Data) (side : Side) → IsReady d → side.0 < 8
    → Changed side d (with_queue d side (drop 1 (queue_of d side)))
taken-changed d side r i =
    queue-changed side d r (drop 1 (queue_of d side))
    (all-drop (JobIn d) (queue_of d side) (queue-all (JobIn d) d.queues r.ids.queues_in side.0))
    (all-drop (λ (y : Job). All (IsCallable d) (job_values y)) (queue_of d side)
    (queue-all (λ (y : Job). All (IsCallable d) (job_values y)) d.queues r.formed.jobs side.0))
    (λ u. all-drop (λ (y : Job). All (IsOwn d side) (in_job y)) (queue_of d side) ((r.contained u).jobs_own side i))

-- what a job holds it still holds
pub job-still : (d d' : Data) (side : Side) → IsReady d → Changed side d d' → (job : Job) → HoldsJob d side job
    → HoldsJob d' side job
job-still d d' side r k j.Script h = tt
job-still d d' side r k (j.Call f) h = held-stays side d d' r k (HeldCallable f) h

-- the first job may be held once it is taken
pub first-held : (d : Data) (side : Side) (job : Job) → IsReady d → side.0 < 8
    → slice_get (queue_of d side) 0 ≡ Some job
    → HoldsJob (with_queue d side (drop 1 (queue_of d side))) side job
first-held d side job r i e =
    job-still d (with_queue d side (drop 1 (queue_of d side))) side r (taken-changed d side r i) job
    (All-at (HoldsJob d side) (queue_of d side) 0 job e (jobs-held d r side i))

pub taken-begun : (d : Data) (side : Side) → IsBegun d → side.0 < 8
    → IsBegun (with_queue d side (drop 1 (queue_of d side)))
taken-begun d side b i =
    let k : Changed side d (with_queue d side (drop 1 (queue_of d side))) = taken-changed d side b.ready i in
    begun-stays d (with_queue d side (drop 1 (queue_of d side))) b k.ready k.found b.globals
