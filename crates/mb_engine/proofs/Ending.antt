-- How a turn ends whose job has ended.
use Rattle.std.proofs.Common.{Bool, Err, List, None, Ok, Option, Result, Some, [], ap, append-nil, append_assoc, arith}
use Rattle.std.proofs.Common.{false, map, option_map, refl, slice_get, slice_index_or, slice_set, subst, suc, sym, true}
use Rattle.std.proofs.Common.{true≢false, zero, ℕ, ◌++◌, ◌<◌, ◌∙◌, ◌∷◌, ◌≡◌}
use Rattle.std.specs.Prelude.{IfOk, IsSome, OnOk, drop, if◌then◌else◌, take}
use Rattle.mb_base.specs.declared.value.Side.{Side}
use Rattle.mb_base.specs.declared.value.Value.{Value}
use Rattle.mb_engine.proofs.Reaching.{told-none, told-then}
use Rattle.mb_engine.specs.Turns.{IsTold, Left, Turns, halts}
use Rattle.mb_engine.specs.declared.turns.TurnEnd.{TurnEnd}
use Rattle.mb_engine.specs.declared.turns.TurnEnd.TheVariants as end
use Rattle.mb_engine.specs.machine.Advancing.{Reached, Reaches, Stuck, meant}
use Rattle.mb_engine.specs.machine.Running.{Finishes, IsRealOutcome, JobEnds}
use Rattle.mb_frames.proofs.Apartness.{value-real}
use Rattle.mb_frames.specs.Held.{AreIn, HeldValue}
use Rattle.mb_frames.specs.Holding.{done_held}
use Rattle.mb_frames.specs.Passing.{TextsGrew}
use Rattle.mb_frames.specs.Ready.{IsReady, IsReadyMachine, MayHold, ReadyAfter}
use Rattle.mb_frames.specs.Resolved.{outcome_in}
use Rattle.mb_frames.specs.Standing.{Logged, stack_gives}
use Rattle.mb_frames.specs.Stepping.{Written}
use Rattle.mb_frames.specs.Wholeness.{AreOwn, AreSound}
use Rattle.mb_frames.specs.declared.machine.Halt.{Halt}
use Rattle.mb_frames.specs.declared.machine.Halt.TheVariants.{NoMemory, Spent as SpentHalt}
use Rattle.mb_frames.specs.declared.machine.Machine.{Machine}
use Rattle.mb_frames.specs.declared.machine.Waiting.{Waiting}
use Rattle.mb_frames.specs.declared.task.Outcome.{Outcome}
use Rattle.mb_frames.specs.declared.task.Outcome.TheVariants as o
use Rattle.mb_model.specs.Engine.{Gives}
use Rattle.mb_model.specs.Meaning.{Ends}
use Rattle.mb_model.specs.Story.{TurnOf, job_ends, take_turn, thrown_text, turn_ended, with_uncaught}
use Rattle.mb_model.specs.Story as story
use Rattle.mb_model.specs.Task as model
use Rattle.mb_world.proofs.AfterCalls.{of-queue}
use Rattle.mb_world.specs.Graph as graph
use Rattle.std.proofs.lemmas.Option.{slice_get-map}
use Rattle.mb_model.specs.Trace.Entries.{entries, entry_of}
use Rattle.mb_text.specs.Spelling.{spelled}
use Rattle.mb_world.specs.Data.{Data, queue_of, with_queue}
use Rattle.mb_world.specs.EntryLine.{side_letter}
use Rattle.mb_world.specs.Graph.{Graph, Item, Uncaught}
use Rattle.mb_world.specs.Image.{Image, Resolve, job_in, names_of}
use Rattle.mb_world.specs.declared.scope.Job.{Job}

-- ---- after what came before

pub left-on : (d d' : Data) (l l1 l' : Written) (log a : List Item) (g : Graph) → IsTold d l l1 log a
    → Left d' l1 l' (log ++ a) g → Left d' l l' log g
left-on d d' l l1 l' log a g h k =
    let t : IsTold d' l l' log (a ++ k.added) = told-then d d' l l1 l' log a k.added h k.told in
    record {
      added = a ++ k.added;
      image = k.image ∙ ap (Image d') (append_assoc log a k.added);
      told = t;
    }

pub turns-on : (e : TurnEnd) (d d' : Data) (f : ℕ) (l l1 l' : Written) (log a : List Item) (t : story.TurnEnd)
    → IsTold d l l1 log a → Turns e d' f l1 l' (log ++ a) t → Turns e d' f l l' log t
turns-on end.Idle d d' f l l1 l' log a t h k = k
turns-on end.Ended d d' f l l1 l' log a t h k = (k.0, k.1, left-on d d' l l1 l' log a k.0 h k.2)
turns-on end.Uncaught d d' f l l1 l' log a t h k = (k.0, k.1, left-on d d' l l1 l' log a k.0 h k.2)
turns-on end.Spent d d' f l l1 l' log a t h k = (k.0, k.1, left-on d d' l l1 l' log a k.0 h k.2)
turns-on end.NoMemory d d' f l l1 l' log a t h k = tt

-- ---- a machine without frames has its outcome

pub job-ended : (m : Machine) (d : Data) (f : ℕ) (l l' : Written) (log : List Item) (e : Ends) (outcome : Outcome)
    → Reached m d f l l' log e → m.stack.items ≡ [] → m.done ≡ Some outcome → JobEnds (Ok outcome) d f l l' log e
job-ended m d f l l' log e outcome h is done = (
  Image d (log ++ h.added),
  sym h.rest ∙ ap (λ (ys : List Waiting). stack_gives meant d ys m.done (Image d (log ++ h.added)) f) is
      ∙ ap (λ y. stack_gives meant d [] y (Image d (log ++ h.added)) f) done,
  record { added = h.added; image = refl; told = h.told },
)

pub job-stuck : (d : Data) (f : ℕ) (l l' : Written) (log : List Item) (e : Ends) → Stuck d f l l' log e
    → JobEnds (Err SpentHalt) d f l l' log e
job-stuck d f l l' log e h =
    (Image d (log ++ h.added), h.rest, record { added = h.added; image = refl; told = h.told })

-- ---- the turn of an outcome

left-none : (d : Data) (l : Written) (log : List Item) → Logged d log → Left d l l log (Image d log)
left-none d l log e =
    record { added = []; image = ap (Image d) (sym (append-nil log)); told = told-none d l log e }

pub outcome-ends : (d : Data) (l : Written) (log : List Item) (s : ℕ) (outcome : Outcome) → Logged d log
    → ((x : Value) → outcome ≡ o.Throw x → ⊥)
    → (f : ℕ) → Turns end.Ended d f l l log (turn_ended s (Gives (outcome_in (names_of d) outcome) (Image d log) f))
outcome-ends d l log s (o.Normal a) e n = λ f. (Image d log, refl, left-none d l log e)
outcome-ends d l log s (o.Throw x) e n = absurd (n x refl)
outcome-ends d l log s (o.Return x) e n = λ f. (Image d log, refl, left-none d l log e)
outcome-ends d l log s o.Break e n = λ f. (Image d log, refl, left-none d l log e)
outcome-ends d l log s o.Continue e n = λ f. (Image d log, refl, left-none d l log e)

uncaught-entries : (log : List Item) (s : ℕ) (t : List ℕ) → entries (log ++ (Uncaught s t ∷ [])) ≡ entries log
uncaught-entries [] s t = refl
uncaught-entries (i ∷ is) s t = ap (λ z. entry_of i ++ z) (uncaught-entries is s t)

pub throw-ends : (d d' : Data) (l l' : Written) (log : List Item) (s : ℕ) (x : Value) → Logged d log → TextsGrew d d'
    → l' ≡ record l {
      lines = l.lines ++ (side_letter l.lettered s ∷ 33 ∷ 32 ∷
          spelled false (thrown_text (Image d log) (Resolve (names_of d) x))) ∷ [];
    }
    → (f : ℕ) → Turns end.Uncaught d' f l l' log
    (turn_ended s (Gives (outcome_in (names_of d) (o.Throw x)) (Image d log) f))
throw-ends d d' l l' log s x e t h = λ f.
    let i : Item = Uncaught s (thrown_text (Image d log) (Resolve (names_of d) x)) in (
      with_uncaught s (Resolve (names_of d) x) (Image d log),
      refl,
      record {
        added = i ∷ [];
        image = sym (t.becomes.image (log ++ (i ∷ [])));
        told = record {
          logged = uncaught-entries log s (thrown_text (Image d log) (Resolve (names_of d) x)) ∙ e ∙ sym t.trace;
          lines = h;
        };
      },
    )

-- ---- the first job of a queue

queue-is : (qs : List (List Job)) (n i : ℕ) (j : Job) → i < n → slice_get (slice_index_or qs i []) 0 ≡ Some j
    → slice_get (take n qs) i ≡ Some (slice_index_or qs i [])
queue-is [] n i j h e = absurd cc
queue-is (q ∷ qs) zero i j h e = absurd (omega (arith, h))
queue-is (q ∷ qs) (suc n) zero j h e = refl
queue-is (q ∷ qs) (suc n) (suc i) j h e = queue-is qs n i j (omega (arith, h)) e

jobs-are : (q : List Job) (j : Job) → slice_get q 0 ≡ Some j → q ≡ j ∷ drop 1 q
jobs-are [] j e = absurd cc
jobs-are (i ∷ q) j e = let k : i ≡ j = cc in rw k refl

pub job-taken : (d : Data) (side : Side) (j : Job) (f : ℕ) (log : List Item) → side.0 < d.sides
    → slice_get (queue_of d side) 0 ≡ Some j
    → TurnOf (Image d log) side.0 f
    ≡ turn_ended side.0 (job_ends side.0 (job_in (names_of d) j)
    (Image (with_queue d side (drop 1 (queue_of d side))) log) f)
job-taken d side j f log i e =
    let q : List Job = queue_of d side in
    let a : slice_get (Image d log).queues side.0
    ≡ Some (job_in (names_of d) j ∷ map (job_in (names_of d)) (drop 1 q))
    = slice_get-map (map (job_in (names_of d))) (take d.sides d.queues) side.0
    ∙ ap (option_map (map (job_in (names_of d)))) (queue-is d.queues d.sides side.0 j i e)
    ∙ ap (λ (z : List Job). Some (map (job_in (names_of d)) z)) (jobs-are q j e) in
    ap (take_turn (Image d log) side.0 f) a
    ∙ ap (λ (g : Graph). turn_ended side.0 (job_ends side.0 (job_in (names_of d) j) g f))
    (sym ((of-queue d side (drop 1 q)).image log))

-- ---- an empty queue

idle-at : (g : Graph) (s f : ℕ) (F : Job → graph.Job) (qs : List (List Job)) (n i : ℕ) → slice_index_or qs i [] ≡ []
    → take_turn g s f (slice_get (map (map F) (take n qs)) i) ≡ story.Idle
idle-at g s f F [] zero i e = refl
idle-at g s f F [] (suc n) i e = refl
idle-at g s f F (q ∷ qs) zero i e = refl
idle-at g s f F (q ∷ qs) (suc n) zero e = rw e refl
idle-at g s f F (q ∷ qs) (suc n) (suc i) e = idle-at g s f F qs n i e

pub idle-turn : (d : Data) (side : Side) (f : ℕ) (log : List Item) → queue_of d side ≡ []
    → TurnOf (Image d log) side.0 f ≡ story.Idle
idle-turn d side f log e = idle-at (Image d log) side.0 f (job_in (names_of d)) d.queues d.sides side.0 e

set-idle : (qs : List (List Job)) (i : ℕ) → slice_index_or qs i [] ≡ []
    → slice_set qs i (drop 1 (slice_index_or qs i [])) ≡ qs
set-idle [] i e = refl
set-idle (q ∷ qs) zero e = rw e refl
set-idle (q ∷ qs) (suc i) e = ap (λ z. q ∷ z) (set-idle qs i e)

pub idle-same : (d : Data) (side : Side) → queue_of d side ≡ [] → with_queue d side (drop 1 (queue_of d side)) ≡ d
idle-same d side e = ap (λ (z : List (List Job)). record d { queues = z }) (set-idle d.queues side.0 e)

pub none-first : (q : List Job) → slice_get q 0 ≡ None → q ≡ []
none-first [] e = refl
none-first (j ∷ q) e = absurd cc

pub some-first : (q : List Job) (j : Job) → slice_get q 0 ≡ Some j → q ≡ [] → ⊥
some-first [] j e h = cc
some-first (x ∷ q) j e h = cc

-- ---- a halted world

left-halted : (d : Data) (l l' : Written) (log : List Item) (g : Graph) → Left d l l' log g
    → Left (record d { halted = true }) l l' log g
left-halted d l l' log g h =
    record { added = h.added; image = h.image; told = record { logged = h.told.logged; lines = h.told.lines } }

pub turns-halted : (e : TurnEnd) (d : Data) (f : ℕ) (l l' : Written) (log : List Item) (t : story.TurnEnd)
    → Turns e d f l l' log t → Turns e (record d { halted = true }) f l l' log t
turns-halted end.Idle d f l l' log t k = k
turns-halted end.Ended d f l l' log t k = (k.0, k.1, left-halted d l l' log k.0 k.2)
turns-halted end.Uncaught d f l l' log t k = (k.0, k.1, left-halted d l l' log k.0 k.2)
turns-halted end.Spent d f l l' log t k = (k.0, k.1, left-halted d l l' log k.0 k.2)
turns-halted end.NoMemory d f l l' log t k = tt

-- ---- lines that stood apart

left-apart : (d : Data) (l own l' : Written) (log : List Item) (g : Graph)
    → Left d (record l { lines = [] }) own log g → l' ≡ record l { lines = l.lines ++ own.lines } → Left d l l' log g
left-apart d l own l' log g h e = record {
  added = h.added;
  image = h.image;
  told = record {
    logged = h.told.logged;
    lines = e ∙ ap (λ (z : Written). record l { lines = l.lines ++ z.lines }) h.told.lines;
  };
}

pub turns-apart : (e : TurnEnd) (d : Data) (f : ℕ) (l own l' : Written) (log : List Item) (t : story.TurnEnd)
    → Turns e d f (record l { lines = [] }) own log t → l' ≡ record l { lines = l.lines ++ own.lines }
    → Turns e d f l l' log t
turns-apart end.Idle d f l own l' log t k h = k
turns-apart end.Ended d f l own l' log t k h = (k.0, k.1, left-apart d l own l' log k.0 k.2 h)
turns-apart end.Uncaught d f l own l' log t k h = (k.0, k.1, left-apart d l own l' log k.0 k.2 h)
turns-apart end.Spent d f l own l' log t k h = (k.0, k.1, left-apart d l own l' log k.0 k.2 h)
turns-apart end.NoMemory d f l own l' log t k h = tt

-- ---- a job and its outcome together

pub job-halts : (halt : Halt) (m : Machine) (d : Data) (f : ℕ) (l l' : Written) (log : List Item) (x y : Ends)
    → Reaches (Err halt) m d f l l' log x → x ≡ y → JobEnds (Err halt) d f l l' log y
job-halts SpentHalt m d f l l' log x y h e =
    subst (λ (z : Ends). JobEnds (Err SpentHalt) d f l l' log z) e (job-stuck d f l l' log x h)
job-halts NoMemory m d f l l' log x y h e = tt

pub turn-follows : (e : TurnEnd) (d d' : Data) (f : ℕ) (l l1 l' : Written) (log : List Item) (s : ℕ) (outcome : Outcome)
    (x : Ends) → JobEnds (Ok outcome) d f l l1 log x
    → ((after : List Item) → Logged d after → (u : ℕ) → Turns e d' u l1 l' after
    (turn_ended s (Gives (outcome_in (names_of d) outcome) (Image d after) u)))
    → Turns e d' f l l' log (turn_ended s x)
turn-follows e d d' f l l1 l' log s outcome x j k =
    let after : List Item = log ++ j.2.added in
    let o : model.Outcome = outcome_in (names_of d) outcome in
    let same : x ≡ Gives o (Image d after) f = j.1 ∙ ap (λ (g : Graph). Gives o g f) j.2.image in
    subst (λ (z : Ends). Turns e d' f l l' log (turn_ended s z)) (sym same)
    (turns-on e d d' f l l1 l' log j.2.added (turn_ended s (Gives o (Image d after) f)) j.2.told
    (k after j.2.told.logged f))

pub turn-stuck : (d : Data) (f : ℕ) (l l' : Written) (log : List Item) (s : ℕ) (x : Ends)
    → JobEnds (Err SpentHalt) d f l l' log x → Turns end.Spent d f l l' log (turn_ended s x)
turn-stuck d f l l' log s x j = (j.0, ap (turn_ended s) j.1, j.2)

-- what was thrown is no shadow
pub outcome-real : (d : Data) (m : Machine) (outcome : Outcome) → IsReadyMachine d m → m.done ≡ Some outcome
    → IsRealOutcome d outcome
outcome-real d m (o.Normal a) h e = tt
outcome-real d m (o.Throw x) h e =
    let i : AreIn d (HeldValue x ∷ []) = rw e at h.formed.ids.done in
    let s : AreSound d m.now (HeldValue x ∷ []) = rw e at h.formed.done in
    let v : MayHold d m.now (HeldValue x) = record {
      within = i.0;
      sound = s.0;
      own = λ u. (subst (λ y. AreOwn d m.now (done_held y)) e (h.contained u).done).0;
    } in
    (i.0, value-real d h.world m.now x v)
outcome-real d m (o.Return x) h e = tt
outcome-real d m o.Break h e = tt
outcome-real d m o.Continue h e = tt

-- ---- the world after a turn

abbrev pub HaltedBy : TurnEnd → Data → Data → Type 0
HaltedBy e d d' = d' ≡ (if halts e then record d { halted = true } else d)

pub turn-halts : (e : TurnEnd) (d d' : Data) (f : ℕ) (l l' : Written) (log : List Item) (t : story.TurnEnd)
    → HaltedBy e d d' → Turns e d f l l' log t → Turns e d' f l l' log t
turn-halts end.Idle d d' f l l' log t h k = k
turn-halts end.Ended d d' f l l' log t h k = rw h k
turn-halts end.Uncaught d d' f l l' log t h k = rw h k
turn-halts end.Spent d d' f l l' log t h k = rw h (turns-halted end.Spent d f l l' log t k)
turn-halts end.NoMemory d d' f l l' log t h k = tt

pub is-halted : (e : TurnEnd) (d d' : Data) → HaltedBy e d d' → (halts e ≡ false → d.halted ≡ false)
    → d'.halted ≡ halts e
is-halted end.Idle d d' h k = rw h (k refl)
is-halted end.Ended d d' h k = rw h (k refl)
is-halted end.Uncaught d d' h k = rw h (k refl)
is-halted end.Spent d d' h k = rw h refl
is-halted end.NoMemory d d' h k = rw h refl

pub goes-on : (e : TurnEnd) (d d' : Data) → HaltedBy e d d' → halts e ≡ false → d' ≡ d
goes-on end.Idle d d' h k = h
goes-on end.Ended d d' h k = h
goes-on end.Uncaught d d' h k = h
goes-on end.Spent d d' h k = absurd (true≢false k)
goes-on end.NoMemory d d' h k = absurd (true≢false k)

pub same-sides : (e : TurnEnd) (d d' : Data) → HaltedBy e d d' → (d'.joined ≡ d.joined) × (d'.sides ≡ d.sides)
same-sides end.Idle d d' h = rw h (refl, refl)
same-sides end.Ended d d' h = rw h (refl, refl)
same-sides end.Uncaught d d' h = rw h (refl, refl)
same-sides end.Spent d d' h = rw h (refl, refl)
same-sides end.NoMemory d d' h = rw h (refl, refl)

-- ---- the outcome of a job

-- what a job leaves whose machine ran
pub job-finishes : (ran : Result (Unit {0}) Halt) (halted : Bool) (result : Result Outcome Halt) (m : Machine)
    (d : Data)
    (f : ℕ) (l l' : Written) (log : List Item) (x y : Ends) → Finishes ran halted m.done result
    → OnOk ran (m.stack.items ≡ []) → Reaches ran m d f l l' log x → x ≡ y → JobEnds result d f l l' log y
job-finishes (Ok u) false result m d f l l' log x y h none r e =
    rw h.2 (subst (λ (z : Ends). JobEnds (Ok h.0) d f l l' log z) e (job-ended m d f l l' log x h.0 r none h.1))
job-finishes (Ok u) true result m d f l l' log x y h none r e = rw h tt
job-finishes (Err halt) halted result m d f l l' log x y h none r e = rw h (job-halts halt m d f l l' log x y r e)

pub finishes-running : (ran : Result (Unit {0}) Halt) (d : Data) (result : Result Outcome Halt) (done : Option Outcome)
    → Finishes ran d.halted done result → OnOk result (d.halted ≡ false)
finishes-running ran d result done h = by d.halted refl ran h
  where
    by : (b : Bool) → d.halted ≡ b → (r : Result (Unit {0}) Halt) → Finishes r b done result
        → OnOk result (d.halted ≡ false)
    by false e (Ok u) k = rw k.2 e
    by true e (Ok u) k = rw k tt
    by false e (Err halt) k = rw k tt
    by true e (Err halt) k = rw k tt

pub finishes-real : (ran : Result (Unit {0}) Halt) (halted : Bool) (result : Result Outcome Halt) (m : Machine)
    (d : Data)
    → Finishes ran halted m.done result → ReadyAfter ran d m → IfOk result (IsRealOutcome d)
finishes-real (Ok u) false result m d h r = rw h.2 (outcome-real d m h.0 r h.1)
finishes-real (Ok u) true result m d h r = rw h tt
finishes-real (Err halt) halted result m d h r = rw h tt

-- the world is ready after a halt too
pub ready-after : (ran : Result (Unit {0}) Halt) (m : Machine) (d : Data) → ReadyAfter ran d m → IsReady d
ready-after (Ok u) m d r = r.world
ready-after (Err halt) m d r = r

-- a machine without frames has its outcome
pub has-outcome : (ran : Result (Unit {0}) Halt) (m : Machine) (d : Data) → ReadyAfter ran d m
    → OnOk ran (m.stack.items ≡ []) → OnOk ran (IsSome m.done)
has-outcome (Ok u) m d r none = rw none at r.formed.outcome
has-outcome (Err halt) m d r none = tt
