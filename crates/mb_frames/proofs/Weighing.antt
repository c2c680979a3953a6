-- Each step falls by the measure.
use Rattle.mb_frames.specs.Resolved.{task_in}
use Rattle.mb_model.specs.Meaning.{row}
use Rattle.std.proofs.Common.{◌*◌, ◌+◌, ◌++◌, ◌<◌, Bool, List, None, Option, Some, [], ap, arith, false, length, length-append, refl, true, ℕ, ◌∷◌, ◌≡◌}
use Rattle.mb_frames.proofs.Steps.{append-none}
use Rattle.mb_frames.specs.Resolved.{done_in}
use Rattle.mb_frames.specs.Standing.{Across, Here, Logged, Passage, above, at_home, done_by, forms_at, frame_row, left_by, move_of, row_of, under_way}
use Rattle.mb_frames.specs.Stepping.{HasItsOutcome, IsBegin, IsEntered, IsStart, IsWait, MayPass, Stepped, Written, charge, done_weight, stack_weight, start_weight, top_weight, weight}
use Rattle.mb_model.specs.Engine.{Pay}
use Rattle.mb_model.specs.Task.{Outcome}
use Rattle.mb_model.specs.Writing.{Row}
use Rattle.mb_world.specs.Data.{Data}
use Rattle.mb_world.specs.Form.{Form}
use Rattle.mb_world.specs.Graph.{Graph, Item}
use Rattle.mb_world.specs.Image.{Image, Names, names_of}
use Rattle.mb_frames.specs.declared.frame.Frame.{Frame}
use Rattle.mb_frames.specs.declared.frame.Frame.TheVariants as x
use Rattle.mb_frames.specs.declared.frame.Move.{Move}
use Rattle.mb_frames.specs.declared.frame.Move.TheVariants as move
use Rattle.mb_frames.specs.declared.machine.Waiting.{Waiting}
use Rattle.mb_frames.specs.declared.machine.Machine.{Machine}

-- what a move leaves, beside what was there below it
move_weight : Move → ℕ
move_weight (move.Done o) = 9
move_weight (move.Wait y t) = 7
move_weight (move.Next t) = 5
move_weight (move.Anew t) = 10
move_weight (move.Entered y t) = 4

abbrev passage_weight : Passage → ℕ
passage_weight (Here home m) = move_weight m
passage_weight (Across y home m) = 2 + move_weight m

-- ---- a passage weighs less than what it takes the place of, with what is charged

of-begin : (g : Graph) (p : Row) (m : Passage) (n : ℕ) → MayPass false (Pay 1 g p) m
    → passage_weight m < 5 + n + 16 * charge (Pay 1 g p) (move_of m)
unfolding move_weight
of-begin g p (Here home (move.Done o)) n h = omega arith
of-begin g p (Here home (move.Wait y t)) n h = omega arith
of-begin g p (Here home (move.Next t)) n h = omega arith
of-begin g p (Here home (move.Anew t)) n h = omega arith
of-begin g p (Here home (move.Entered y t)) n h = omega arith
of-begin g p (Across z home (move.Done o)) n h = absurd h.1
of-begin g p (Across z home (move.Wait y t)) n h = omega arith
of-begin g p (Across z home (move.Next t)) n h = omega arith
of-begin g p (Across z home (move.Anew t)) n h = omega arith
of-begin g p (Across z home (move.Entered y t)) n h = absurd h.1

of-begun : (g : Graph) (p : Row) (m : Passage) (n : ℕ) → MayPass false (Pay 1 g p) m → (IsEntered (move_of m) → ⊥)
    → passage_weight m < 2 + n + 16 * charge (Pay 1 g p) (move_of m)
unfolding move_weight
of-begun g p (Here home (move.Done o)) n h e = omega arith
of-begun g p (Here home (move.Wait y t)) n h e = omega arith
of-begun g p (Here home (move.Next t)) n h e = omega arith
of-begun g p (Here home (move.Anew t)) n h e = omega arith
of-begun g p (Here home (move.Entered y t)) n h e = absurd (e tt)
of-begun g p (Across z home (move.Done o)) n h e = absurd h.1
of-begun g p (Across z home (move.Wait y t)) n h e = omega arith
of-begun g p (Across z home (move.Next t)) n h e = omega arith
of-begun g p (Across z home (move.Anew t)) n h e = omega arith
of-begun g p (Across z home (move.Entered y t)) n h e = absurd h.1

of-anew : (p : Row) (m : Passage) (n : ℕ) → MayPass false p m → (IsEntered (move_of m) → ⊥)
    → passage_weight m < 10 + n + 16 * charge p (move_of m)
unfolding move_weight
of-anew p (Here home (move.Done o)) n h e = omega arith
of-anew p (Here home (move.Wait y t)) n h e = omega arith
of-anew p (Here home (move.Next t)) n h e = omega arith
of-anew p (Here home (move.Anew t)) n h e = omega (arith, h)
of-anew p (Here home (move.Entered y t)) n h e = absurd (e tt)
of-anew p (Across z home (move.Done o)) n h e = absurd h.1
of-anew p (Across z home (move.Wait y t)) n h e = omega arith
of-anew p (Across z home (move.Next t)) n h e = omega arith
of-anew p (Across z home (move.Anew t)) n h e = omega (arith, h.1)
of-anew p (Across z home (move.Entered y t)) n h e = absurd h.1

of-wait : (p : Row) (m : Passage) → MayPass true p m → passage_weight m < 11 + 16 * charge p (move_of m)
unfolding move_weight
of-wait p (Here home (move.Done o)) h = omega arith
of-wait p (Here home (move.Wait y t)) h = omega arith
of-wait p (Here home (move.Next t)) h = omega arith
of-wait p (Here home (move.Anew t)) h = omega arith
of-wait p (Here home (move.Entered y t)) h = absurd h
of-wait p (Across z home (move.Done o)) h = absurd h.1
of-wait p (Across z home (move.Wait y t)) h = omega arith
of-wait p (Across z home (move.Next t)) h = omega arith
of-wait p (Across z home (move.Anew t)) h = omega (arith, h.1)
of-wait p (Across z home (move.Entered y t)) h = absurd h.1

-- ---- stacks

-- the top frame starts, or the outcome is there
TopFits : {A : Type 0} → Frame → Option A → Type 0
TopFits y ended = IsWait y → done_weight ended ≡ 9

abbrev pub AreWaits : List Waiting → Type 0
AreWaits [] = Unit {0}
AreWaits (y ∷ ys) = IsWait y.frame × AreWaits ys

no-start : (y : Frame) → IsWait y → start_weight y ≡ 0
no-start (x.Begin t) h = absurd h
no-start (x.Begun t) h = absurd h
no-start (x.Anew t) h = absurd h
no-start (x.Expr t) h = refl
no-start (x.Stmt t) h = refl
no-start (x.Call t) h = refl
no-start (x.Reflect t) h = refl
no-start (x.Array t) h = refl
no-start (x.Proxy t) h = refl
no-start (x.Collect t) h = refl
no-start (x.Membrane t) h = refl
no-start (x.Entry t) h = refl

start-or-wait : (y : Frame) → IsStart y → IsWait y → ⊥
start-or-wait (x.Begin t) s h = h
start-or-wait (x.Begun t) s h = h
start-or-wait (x.Anew t) s h = h
start-or-wait (x.Expr t) s h = s
start-or-wait (x.Stmt t) s h = s
start-or-wait (x.Call t) s h = s
start-or-wait (x.Reflect t) s h = s
start-or-wait (x.Array t) s h = s
start-or-wait (x.Proxy t) s h = s
start-or-wait (x.Collect t) s h = s
start-or-wait (x.Membrane t) s h = s
start-or-wait (x.Entry t) s h = s

top-fits : {A : Type 0} (below : List Waiting) (top : Waiting) (ended : Option A)
    → HasItsOutcome (below ++ (top ∷ [])) ended → TopFits top.frame ended
unfolding TopFits
top-fits [] top None h = λ k. absurd (start-or-wait top.frame h k)
top-fits [] top (Some y) h = λ k. refl
top-fits (y ∷ []) top ended h = top-fits [] top ended h.1
top-fits (y ∷ z ∷ ys) top ended h = top-fits (z ∷ ys) top ended h.1

pub below-waits : {A : Type 0} (below : List Waiting) (top : Waiting) (ended : Option A)
    → HasItsOutcome (below ++ (top ∷ [])) ended → AreWaits below
below-waits [] top ended h = tt
below-waits (y ∷ []) top ended h = (h.0, tt)
below-waits (y ∷ z ∷ ys) top ended h = (h.0, below-waits (z ∷ ys) top ended h.1)

top-waits : (below : List Waiting) → AreWaits below → top_weight below ≡ 0
top-waits [] h = refl
top-waits (y ∷ []) h = no-start y.frame h.0
top-waits (y ∷ z ∷ ys) h = top-waits (z ∷ ys) h.1

top-pushed : (below : List Waiting) (y : Waiting) (ys : List Waiting)
    → top_weight (below ++ (y ∷ ys)) ≡ top_weight (y ∷ ys)
top-pushed [] y ys = refl
top-pushed (z ∷ []) y ys = refl
top-pushed (z ∷ u ∷ zs) y ys = top-pushed (u ∷ zs) y ys

stack-before : {A : Type 0} (below : List Waiting) (top : Waiting) (ended : Option A)
    → stack_weight (below ++ (top ∷ [])) ended ≡ 2 * length below + 2 + start_weight top.frame + done_weight ended
stack-before below top ended =
    omega (arith, length-append below (top ∷ []), top-pushed below top [])

stack-after : (begun : Bool) (p : Row) (below : List Waiting) (m : Passage) → AreWaits below → MayPass begun p m
    → stack_weight (below ++ left_by m) (done_by (move_of m)) ≡ 2 * length below + passage_weight m
unfolding move_weight
stack-after begun p below (Here home (move.Done o)) h k =
    omega (arith, ap length (append-none below), ap top_weight (append-none below), top-waits below h)
stack-after begun p below (Here home (move.Wait y t)) h k =
    omega (arith, length-append below (above home (move.Wait y t)), top-pushed below (at_home home y) (at_home home (x.Begin t) ∷ []))
stack-after begun p below (Here home (move.Next t)) h k =
    omega (arith, length-append below (above home (move.Next t)), top-pushed below (at_home home (x.Begin t)) [])
stack-after begun p below (Here home (move.Anew t)) h k =
    omega (arith, length-append below (above home (move.Anew t)), top-pushed below (at_home home (x.Anew t)) [])
stack-after begun p below (Here home (move.Entered y t)) h k =
    omega (arith, length-append below (above home (move.Entered y t)), top-pushed below (at_home home y) (at_home home (x.Begun t) ∷ []))
stack-after begun p below (Across z home (move.Done o)) h k = absurd k.1
stack-after begun p below (Across z home (move.Wait y t)) h k =
    omega (arith, length-append below (z ∷ above home (move.Wait y t)), top-pushed below z (above home (move.Wait y t)))
stack-after begun p below (Across z home (move.Next t)) h k =
    omega (arith, length-append below (z ∷ above home (move.Next t)), top-pushed below z (above home (move.Next t)))
stack-after begun p below (Across z home (move.Anew t)) h k =
    omega (arith, length-append below (z ∷ above home (move.Anew t)), top-pushed below z (above home (move.Anew t)))
stack-after begun p below (Across z home (move.Entered y t)) h k = absurd k.1

-- a passage weighs less than the top frame, with the outcome and what is charged
passage-falls : {A : Type 0} (n : Names) (fs : List Form) (s : ℕ) (y : Frame) (o : Outcome) (g : Graph) (m : Passage)
    (ended : Option A) → TopFits y ended → (IsEntered (move_of m) → IsBegin y)
    → MayPass (under_way y) (frame_row n fs s y o g) m
    → passage_weight m < 2 + start_weight y + done_weight ended + 16 * charge (frame_row n fs s y o g) (move_of m)
unfolding TopFits
passage-falls n fs s (x.Begin t) o g m ended h e k = omega (arith, of-begin g (row (task_in n s t) g) m (done_weight ended) k)
passage-falls n fs s (x.Begun t) o g m ended h e k = omega (arith, of-begun g (row (task_in n s t) g) m (done_weight ended) k e)
passage-falls n fs s (x.Anew t) o g m ended h e k = omega (arith, of-anew (row (task_in n s t) g) m (done_weight ended) k e)
passage-falls n fs s (x.Expr t) o g m ended h e k =
    omega (arith, of-wait (frame_row n fs s (x.Expr t) o g) m k, h tt)
passage-falls n fs s (x.Stmt t) o g m ended h e k =
    omega (arith, of-wait (frame_row n fs s (x.Stmt t) o g) m k, h tt)
passage-falls n fs s (x.Call t) o g m ended h e k =
    omega (arith, of-wait (frame_row n fs s (x.Call t) o g) m k, h tt)
passage-falls n fs s (x.Reflect t) o g m ended h e k =
    omega (arith, of-wait (frame_row n fs s (x.Reflect t) o g) m k, h tt)
passage-falls n fs s (x.Array t) o g m ended h e k =
    omega (arith, of-wait (frame_row n fs s (x.Array t) o g) m k, h tt)
passage-falls n fs s (x.Proxy t) o g m ended h e k =
    omega (arith, of-wait (frame_row n fs s (x.Proxy t) o g) m k, h tt)
passage-falls n fs s (x.Collect t) o g m ended h e k =
    omega (arith, of-wait (frame_row n fs s (x.Collect t) o g) m k, h tt)
passage-falls n fs s (x.Membrane t) o g m ended h e k =
    omega (arith, of-wait (frame_row n fs s (x.Membrane t) o g) m k, h tt)
passage-falls n fs s (x.Entry t) o g m ended h e k =
    omega (arith, of-wait (frame_row n fs s (x.Entry t) o g) m k, h tt)

pub weight-falls : (m m' : Machine) (d d' : Data) (f f' : ℕ) (l l' : Written) (q : Stepped m m' d d' f f' l l')
    (log : List Item) → Logged d log → HasItsOutcome m.stack.items m.done → weight m' f' < weight m f
weight-falls m m' d d' f f' l l' q log e h =
    let g : Graph = Image d log in
    let p : Row = row_of d q.top m.done g in
    let h' : HasItsOutcome (q.below ++ (q.top ∷ [])) m.done = rw (← q.was) h in
    let a : stack_weight m.stack.items m.done ≡ 2 * length q.below + 2 + start_weight q.top.frame + done_weight m.done
    = rw q.was (stack-before q.below q.top m.done) in
    let b : stack_weight m'.stack.items m'.done ≡ 2 * length q.below + passage_weight q.passage
    = rw (q.is, q.done) (stack-after (under_way q.top.frame) p q.below q.passage
    (below-waits q.below q.top m.done h') (q.step.may log e)) in
    let c : passage_weight q.passage < 2 + start_weight q.top.frame + done_weight m.done + 16 * charge p (move_of q.passage)
    = passage-falls (names_of d) (forms_at d q.top.home) q.top.home.0 q.top.frame (done_in (names_of d) m.done) g
    q.passage m.done (top-fits q.below q.top m.done h') q.enters (q.step.may log e) in
    omega (arith, a, b, c, q.step.paid log e, q.step.left log e)
