-- A machine stays formed where its step says of its own part what it is to say.
use Rattle.mb_frames.specs.declared.frame.Frame.TheVariants as x
use Rattle.mb_frames.specs.Stepping.{HasItsOutcome, IsWait}
use Rattle.mb_base.specs.declared.value.Side.{Side}
use Rattle.mb_frames.proofs.Founding.{stack-sound}
use Rattle.mb_frames.proofs.Growing.{below-in, machine-in, outcome-stays}
use Rattle.mb_frames.proofs.Linking.{linked-below, linked-both, linked-fits}
use Rattle.mb_frames.proofs.Parts.{all-both, all-first, all-then}
use Rattle.mb_frames.proofs.Stack.{forms-grow}
use Rattle.mb_frames.proofs.Steps.{Grew-same, Grew-then}
use Rattle.mb_frames.specs.Failing.{HasErrorPrototype, HasItsBuiltIns, error_place}
use Rattle.mb_frames.specs.Holding.{frame_held, outcome_held, task_held}
use Rattle.mb_frames.specs.Sorts.{AValue, AreLinked, IsOfSort, Sort, fits, frame_sort, stack_sort, task_gives, waits_for}
use Rattle.mb_frames.specs.Standing.{Here, Logged, forms_at, left_by}
use Rattle.mb_frames.specs.Stepping.{Stepped, Written}
use Rattle.mb_frames.specs.Wholeness.{AreSound, FormedMachine, GoesOnFormed, IsStackSound, StaysFound, sort_by, AreFit, IsFitBegun, IsFitFrame, IsFitTask}
use Rattle.mb_frames.specs.declared.frame.Frame.{Frame}
use Rattle.mb_frames.specs.declared.frame.Move.TheVariants as move
use Rattle.mb_frames.specs.declared.machine.Machine.{Machine}
use Rattle.mb_frames.specs.declared.machine.Waiting.{Waiting}
use Rattle.mb_frames.specs.declared.task.Outcome.{Outcome}
use Rattle.mb_frames.specs.declared.task.Task.{Task}
use Rattle.mb_world.proofs.Grow.{ScopeIn-grows, ValueIn-grows}
use Rattle.mb_world.specs.Data.{Data, built_in_of}
use Rattle.mb_world.specs.Form.{Form}
use Rattle.mb_world.specs.Graph.{Item}
use Rattle.mb_world.specs.Ids.{HasItsIds}
use Rattle.mb_world.specs.Intrinsics.{intrinsic}
use Rattle.mb_world.specs.declared.cell.ErrorKind.{ErrorKind}
use Rattle.mb_world.specs.declared.cell.ErrorKind.TheVariants.{Error as ErrorKindError, TypeError as ErrorKindType, RangeError as ErrorKindRange, ReferenceError as ErrorKindReference}
use Rattle.std.specs.List.{AllByRecursion}
use Rattle.std.proofs.Common.{List, None, Option, [], arith, is_some, refl, subst, sym, true, ℕ, ◌++◌, ◌<◌, ◌∷◌, ◌≡◌, ◌≢◌}

-- ---- what was found

pub Found-same : (d : Data) → StaysFound d d
Found-same d = record {
  grew = Grew-same d;
  callable = λ y i h. h;
  constructor = λ y i h. h;
  functions = λ id h. h;
  collection = λ id i h. h;
  arrays = λ id home h. h;
  plain = λ id home h. h;
  scopes = λ id home i h. h;
  entries = omega arith;
  proxies = λ id home h. h;
}

pub Found-then : (a b c : Data) → StaysFound a b → StaysFound b c → StaysFound a c
Found-then a b c s t = record {
  grew = Grew-then a b c s.grew t.grew;
  callable = λ y i h. t.callable y (ValueIn-grows a b s.grew.grows y i) (s.callable y i h);
  constructor = λ y i h. t.constructor y (ValueIn-grows a b s.grew.grows y i) (s.constructor y i h);
  functions = λ id h. t.functions id (s.functions id h);
  collection = λ id i h. t.collection id (omega (arith, i, s.grew.grows.cells_in)) (s.collection id i h);
  arrays = λ id home h. t.arrays id home (s.arrays id home h);
  plain = λ id home h. t.plain id home (s.plain id home h);
  scopes = λ id home i h. t.scopes id home (ScopeIn-grows a b s.grew.grows id i) (s.scopes id home i h);
  entries = omega (arith, s.entries, t.entries);
  proxies = λ id home h. t.proxies id home (s.proxies id home h);
}

-- ---- machines

linked-after : (m m' : Machine) (d d' : Data) (f f' : ℕ) (l l' : Written) (q : Stepped m m' d d' f f' l l')
    (h : FormedMachine d m) → HasItsIds d → StaysFound d d'
    → (k : GoesOnFormed d' (sort_by d q.top h.sort) q.passage)
    → AreLinked (forms_at d') (q.below ++ left_by q.passage) k.given
linked-after m m' d d' f f' l l' q h i s k =
    let e : forms_at d' ≡ forms_at d = λ u side. forms-grow d d' i s.grew side u in
    let a : AreLinked (forms_at d) q.below (sort_by d q.top h.sort)
    = linked-below (forms_at d) q.below (q.top ∷ []) h.sort (rw (← q.was) h.linked) in
    let b : AreLinked (forms_at d') q.below (sort_by d q.top h.sort)
    = subst (λ (fs : Side → List Form). AreLinked fs q.below (sort_by d q.top h.sort)) (sym e) a in
    linked-both (forms_at d') q.below (left_by q.passage) k.given
    (linked-fits (forms_at d') q.below (stack_sort (forms_at d') (left_by q.passage) k.given)
    (sort_by d q.top h.sort) k.fitting b) k.linked

homes-after : (m m' : Machine) (d d' : Data) (f f' : ℕ) (l l' : Written) (q : Stepped m m' d d' f f' l l')
    (h : FormedMachine d m) → HasItsIds d → StaysFound d d'
    → (k : GoesOnFormed d' (sort_by d q.top h.sort) q.passage)
    → AllByRecursion (λ y. y.home.0 < d'.sides) (q.below ++ left_by q.passage)
homes-after m m' d d' f f' l l' q h i s k =
    let a : AllByRecursion (λ (y : Waiting). y.home.0 < d.sides) q.below
    = all-first (λ (y : Waiting). y.home.0 < d.sides) q.below (q.top ∷ []) (rw (← q.was) h.homes) in
    all-both (λ (y : Waiting). y.home.0 < d'.sides) q.below (left_by q.passage)
    (all-then (λ (y : Waiting). y.home.0 < d.sides) (λ (y : Waiting). y.home.0 < d'.sides)
    (λ y u. rw s.grew.sides u) q.below a) k.homes

frames-after : (m m' : Machine) (d d' : Data) (f f' : ℕ) (l l' : Written) (q : Stepped m m' d d' f f' l l')
    (h : FormedMachine d m) → HasItsIds d → StaysFound d d'
    → (k : GoesOnFormed d' (sort_by d q.top h.sort) q.passage)
    → IsStackSound d' (q.below ++ left_by q.passage)
frames-after m m' d d' f f' l l' q h i s k =
    let a : IsStackSound d q.below
    = all-first (λ (y : Waiting). AreSound d y.home (frame_held y.frame)) q.below (q.top ∷ [])
    (rw (← q.was) h.frames) in
    all-both (λ (y : Waiting). AreSound d' y.home (frame_held y.frame)) q.below (left_by q.passage)
    (stack-sound d d' i s q.below (below-in m m' d d' f f' l l' q h.ids) a) k.frames

-- what waits is fit
wait-fit : (d : Data) (y : Frame) → IsWait y → IsFitFrame d y
wait-fit d (x.Begin t) h = absurd h
wait-fit d (x.Begun t) h = absurd h
wait-fit d (x.Anew t) h = absurd h
wait-fit d (x.Expr y) h = tt
wait-fit d (x.Stmt y) h = tt
wait-fit d (x.Call y) h = tt
wait-fit d (x.Reflect y) h = tt
wait-fit d (x.Array y) h = tt
wait-fit d (x.Proxy y) h = tt
wait-fit d (x.Collect y) h = tt
wait-fit d (x.Membrane y) h = tt
wait-fit d (x.Entry y) h = tt

below-fit : (d : Data) (below : List Waiting) (top : Waiting) (ended : Option Outcome)
    → HasItsOutcome (below ++ (top ∷ [])) ended → AreFit d below
below-fit d [] top ended h = tt
below-fit d (y ∷ []) top ended h = (wait-fit d y.frame h.0, tt)
below-fit d (y ∷ z ∷ ys) top ended h = (wait-fit d y.frame h.0, below-fit d (z ∷ ys) top ended h.1)

pub formed-after : (m m' : Machine) (d d' : Data) (f f' : ℕ) (l l' : Written) (q : Stepped m m' d d' f f' l l')
    (log : List Item) → Logged d log → (h : FormedMachine d m) → HasItsIds d
    → StaysFound d d'
    → GoesOnFormed d' (sort_by d q.top h.sort) q.passage → FormedMachine d' m'
formed-after m m' d d' f f' l l' q log e h i s k = record {
  ids = machine-in m m' d d' f f' l l' q h.ids;
  homes = rw q.is (homes-after m m' d d' f f' l l' q h i s k);
  now = rw q.now k.now;
  frames = rw q.is (frames-after m m' d d' f f' l l' q h i s k);
  fit = rw q.is (all-both (λ (y : Waiting). IsFitFrame d' y.frame) q.below (left_by q.passage)
      (below-fit d' q.below q.top m.done (rw (← q.was) h.outcome)) k.fit);
  done = rw (q.now, q.done) k.done;
  outcome = outcome-stays m m' d d' f f' l l' q log e h.outcome;
  sort = k.given;
  linked = rw q.is (linked-after m m' d d' f f' l l' q h i s k);
  of_sort = rw q.done k.of_sort;
}

error-there : (d : Data) → HasItsBuiltIns d → (side : Side) → side.0 < d.sides → (place : ℕ)
    → intrinsic place ≢ None → is_some (built_in_of d.joined d.cells side place) ≡ true
error-there d h side i place n = rw ((h side place i n).found) refl

-- each side has the prototypes of errors
pub has-errors : (d : Data) → HasItsBuiltIns d → (side : Side) → side.0 < d.sides
    → (error : ErrorKind) → HasErrorPrototype d side error
has-errors d h side i ErrorKindError = error-there d h side i (error_place ErrorKindError) (λ e. cc)
has-errors d h side i ErrorKindType = error-there d h side i (error_place ErrorKindType) (λ e. cc)
has-errors d h side i ErrorKindRange = error-there d h side i (error_place ErrorKindRange) (λ e. cc)
has-errors d h side i ErrorKindReference = error-there d h side i (error_place ErrorKindReference) (λ e. cc)

-- ---- moves

module _ (d : Data) (home : Side) (wanted : Sort) (inside : home.0 < d.sides) where
  pub ends-formed : (o : Outcome) (given : Sort) → AreSound d home (outcome_held o) → IsOfSort given o
      → fits given wanted ≡ true → GoesOnFormed d wanted (Here home (move.Done o))
  ends-formed o given h k e = record {
    homes = tt;
    now = inside;
    frames = tt;
    fit = tt;
    done = h;
    given = given;
    of_sort = k;
    linked = tt;
    fitting = e;
  }

  pub next-formed : (t : Task) → AreSound d home (task_held t) → IsFitTask d t
      → fits (task_gives (forms_at d home) t) wanted ≡ true
      → GoesOnFormed d wanted (Here home (move.Next t))
  next-formed t h n e = record {
    homes = (inside, tt);
    now = inside;
    frames = (h, tt);
    fit = (n, tt);
    done = tt;
    given = AValue;
    of_sort = tt;
    linked = (refl, tt);
    fitting = e;
  }

  pub anew-formed : (t : Task) → AreSound d home (task_held t) → IsFitBegun d t
      → fits (task_gives (forms_at d home) t) wanted ≡ true
      → GoesOnFormed d wanted (Here home (move.Anew t))
  anew-formed t h n e = record {
    homes = (inside, tt);
    now = inside;
    frames = (h, tt);
    fit = (n, tt);
    done = tt;
    given = AValue;
    of_sort = tt;
    linked = (refl, tt);
    fitting = e;
  }

  pub wait-formed : (y : Frame) (t : Task) → AreSound d home (frame_held y) → AreSound d home (task_held t)
      → IsFitFrame d y → IsFitTask d t → waits_for y (task_gives (forms_at d home) t) ≡ true
      → fits (frame_sort (forms_at d home) y (task_gives (forms_at d home) t)) wanted ≡ true
      → GoesOnFormed d wanted (Here home (move.Wait y t))
  wait-formed y t h k w n e i = record {
    homes = (inside, (inside, tt));
    now = inside;
    frames = (h, (k, tt));
    fit = (w, (n, tt));
    done = tt;
    given = AValue;
    of_sort = tt;
    linked = (e, (refl, tt));
    fitting = i;
  }

  pub entered-formed : (y : Frame) (t : Task) → AreSound d home (frame_held y) → AreSound d home (task_held t)
      → IsFitFrame d y → IsFitBegun d t → waits_for y (task_gives (forms_at d home) t) ≡ true
      → fits (frame_sort (forms_at d home) y (task_gives (forms_at d home) t)) wanted ≡ true
      → GoesOnFormed d wanted (Here home (move.Entered y t))
  entered-formed y t h k w n e i = record {
    homes = (inside, (inside, tt));
    now = inside;
    frames = (h, (k, tt));
    fit = (w, (n, tt));
    done = tt;
    given = AValue;
    of_sort = tt;
    linked = (e, (refl, tt));
    fitting = i;
  }
