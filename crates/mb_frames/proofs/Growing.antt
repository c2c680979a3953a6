-- What stands in a machine names something of its world after each step, and its outcome is where it is to be.
use Rattle.mb_base.specs.declared.value.Side.{Side}
use Rattle.mb_frames.proofs.Weighing.{AreWaits, below-waits}
use Rattle.mb_world.proofs.Grow.{FullIn-grows, KeyIn-grows, Maybe-weaker, ValueIn-grows}
use Rattle.std.proofs.Common.{arith}
use Rattle.std.proofs.Common.{◌++◌, Bool, List, None, Option, Some, [], false, refl, true, ℕ, ◌∷◌}
use Rattle.mb_desc.specs.declared.descriptor.Desc.{Desc}
use Rattle.mb_frames.specs.Held.{AreIn, DescIn, Held, HeldArray, HeldBegan, HeldCallable, HeldCollection, HeldConstructor, HeldDesc, HeldEntered, HeldFields, HeldFull, HeldFunction, HeldIn, HeldKey, HeldKeyIf, HeldKeys, HeldNode, HeldNodeIf, HeldObject, HeldPlace, HeldPlain, HeldPrototype, HeldReal, HeldScope, HeldSide, HeldSign, HeldText, HeldTextIf, HeldValue, HeldValues, HeldVisited}
use Rattle.mb_frames.specs.Holding.{MachineIn, StackIn, done_held, frame_held, move_held, passage_held, task_held}
use Rattle.mb_frames.specs.Standing.{Across, Here, Logged, Passage, above, at_home, done_by, left_by, move_of, row_of, under_way}
use Rattle.mb_frames.specs.Stepping.{HasItsOutcome, IsWait, MayCross, MayPass, Stepped, Written}
use Rattle.mb_model.specs.Writing.{Row}
use Rattle.mb_world.specs.Data.{Data}
use Rattle.mb_world.specs.Graph.{Item}
use Rattle.mb_world.specs.Grows.{Grows}
use Rattle.mb_world.specs.Ids.{FullIn, KeyIn, TextIn, ValueIn}
use Rattle.mb_world.specs.Image.{Image}
use Rattle.mb_base.specs.declared.value.Value.{Value}
use Rattle.mb_frames.specs.declared.frame.Frame.{Frame}
use Rattle.mb_frames.specs.declared.frame.Frame.TheVariants as x
use Rattle.mb_frames.specs.declared.frame.Move.{Move}
use Rattle.mb_frames.specs.declared.frame.Move.TheVariants as move
use Rattle.mb_frames.specs.declared.machine.Waiting.{Waiting}
use Rattle.mb_frames.specs.declared.machine.Machine.{Machine}
use Rattle.std.proofs.lemmas.List.Elements.{All-weaker}

module _ (d d' : Data) (g : Grows d d') where
  desc-grows : (y : Desc Value) → DescIn d y → DescIn d' y
  desc-grows y h = record {
    value_in = Maybe-weaker (ValueIn d) (ValueIn d') (ValueIn-grows d d' g) y.value h.value_in;
    get_in = Maybe-weaker (ValueIn d) (ValueIn d') (ValueIn-grows d d' g) y.get h.get_in;
    set_in = Maybe-weaker (ValueIn d) (ValueIn d') (ValueIn-grows d d' g) y.set h.set_in;
  }

  pub held-grows : (y : Held) → HeldIn d y → HeldIn d' y
  held-grows (HeldValue y) h = ValueIn-grows d d' g y h
  held-grows (HeldValues ys) h = All-weaker (ValueIn d) (ValueIn d') (ValueIn-grows d d' g) ys h
  held-grows (HeldCallable y) h = ValueIn-grows d d' g y h
  held-grows (HeldConstructor y) h = ValueIn-grows d d' g y h
  held-grows (HeldPrototype y) h = ValueIn-grows d d' g y h
  held-grows (HeldVisited y) h = ValueIn-grows d d' g y h
  held-grows (HeldObject id) h = omega (arith, h, g.cells_in)
  held-grows (HeldFunction id) h = omega (arith, h, g.cells_in)
  held-grows (HeldCollection id) h = omega (arith, h, g.cells_in)
  held-grows (HeldArray id) h = omega (arith, h, g.cells_in)
  held-grows (HeldPlain id) h = omega (arith, h, g.cells_in)
  held-grows (HeldKey key) h = KeyIn-grows d d' g key h
  held-grows (HeldKeys keys) h = All-weaker (KeyIn d) (KeyIn d') (KeyIn-grows d d' g) keys h
  held-grows (HeldKeyIf key) h = Maybe-weaker (KeyIn d) (KeyIn d') (KeyIn-grows d d' g) key h
  held-grows (HeldText text) h = omega (arith, h, g.texts_in)
  held-grows (HeldTextIf text) h =
      Maybe-weaker (TextIn d) (TextIn d') (λ t k. omega (arith, k, g.texts_in)) text h
  held-grows (HeldScope scope) h = omega (arith, h, g.scopes_in)
  held-grows (HeldNode test node) h = h
  held-grows (HeldNodeIf id) h = h
  held-grows (HeldSign sign) h = h
  held-grows (HeldDesc y) h = desc-grows y h
  held-grows (HeldFields y) h = desc-grows y h
  held-grows (HeldFull full) h = FullIn-grows d d' g full h
  held-grows (HeldReal full) h = Maybe-weaker (FullIn d) (FullIn d') (FullIn-grows d d' g) full h
  held-grows (HeldPlace place) h = h
  held-grows (HeldBegan began) h = h
  held-grows (HeldEntered id) h = omega (arith, h, g.cells_in)
  held-grows (HeldSide side) h = h

  pub are-grown : (ys : List Held) → AreIn d ys → AreIn d' ys
  are-grown [] h = h
  are-grown (y ∷ ys) h = (held-grows y h.0, are-grown ys h.1)

  pub stack-grows : (ys : List Waiting) → StackIn d ys → StackIn d' ys
  stack-grows [] h = h
  stack-grows (y ∷ ys) h = (are-grown (frame_held y.frame) h.0, stack-grows ys h.1)

pub are-first : (d : Data) (a b : List Held) → AreIn d (a ++ b) → AreIn d a
are-first d [] b h = tt
are-first d (y ∷ ys) b h = (h.0, are-first d ys b h.1)

pub are-second : (d : Data) (a b : List Held) → AreIn d (a ++ b) → AreIn d b
are-second d [] b h = h
are-second d (y ∷ ys) b h = are-second d ys b h.1

stack-both : (d : Data) (a b : List Waiting) → StackIn d a → StackIn d b → StackIn d (a ++ b)
stack-both d [] b h k = k
stack-both d (y ∷ ys) b h k = (h.0, stack-both d ys b h.1 k)

pub stack-below : (d : Data) (a b : List Waiting) → StackIn d (a ++ b) → StackIn d a
stack-below d [] b h = tt
stack-below d (y ∷ ys) b h = (h.0, stack-below d ys b h.1)

above-in : (d : Data) (home : Side) (m : Move) → AreIn d (move_held m) → StackIn d (above home m)
above-in d home (move.Done y) h = tt
above-in d home (move.Wait y t) h =
    (are-first d (frame_held y) (task_held t) h, (are-second d (frame_held y) (task_held t) h, tt))
above-in d home (move.Next t) h = (h, tt)
above-in d home (move.Anew t) h = (h, tt)
above-in d home (move.Entered y t) h =
    (are-first d (frame_held y) (task_held t) h, (are-second d (frame_held y) (task_held t) h, tt))

left-in : (d : Data) (m : Passage) → AreIn d (passage_held m) → StackIn d (left_by m)
left-in d (Here home m) h = above-in d home m h
left-in d (Across y home m) h = (
  are-first d (frame_held y.frame) (move_held m) h,
  above-in d home m (are-second d (frame_held y.frame) (move_held m) h),
)

outcome-in : (d : Data) (m : Move) → AreIn d (move_held m) → AreIn d (done_held (done_by m))
outcome-in d (move.Done y) h = h
outcome-in d (move.Wait y t) h = tt
outcome-in d (move.Next t) h = tt
outcome-in d (move.Anew t) h = tt
outcome-in d (move.Entered y t) h = tt

done-in : (d : Data) (m : Passage) → AreIn d (passage_held m) → AreIn d (done_held (done_by (move_of m)))
done-in d (Here home m) h = outcome-in d m h
done-in d (Across y home m) h = outcome-in d m (are-second d (frame_held y.frame) (move_held m) h)

-- the frames below the top one
pub below-in : (m m' : Machine) (d d' : Data) (f f' : ℕ) (l l' : Written) (q : Stepped m m' d d' f f' l l')
    → MachineIn d m → StackIn d q.below
below-in m m' d d' f f' l l' q h = stack-below d q.below (q.top ∷ []) (rw (← q.was) h.frames)

pub machine-in : (m m' : Machine) (d d' : Data) (f f' : ℕ) (l l' : Written) → Stepped m m' d d' f f' l l'
    → MachineIn d m → MachineIn d' m'
machine-in m m' d d' f f' l l' q h = record {
  frames = rw q.is (stack-both d' q.below (left_by q.passage)
      (stack-grows d d' q.step.grew.grows q.below (below-in m m' d d' f f' l l' q h))
      (left-in d' q.passage q.step.ids));
  done = rw q.done (done-in d' q.passage q.step.ids);
}

-- ---- the outcome

crossing-waits : (y : Frame) → MayCross y → IsWait y
crossing-waits (x.Begin t) h = absurd h
crossing-waits (x.Begun t) h = absurd h
crossing-waits (x.Anew t) h = absurd h
crossing-waits (x.Expr t) h = tt
crossing-waits (x.Stmt t) h = tt
crossing-waits (x.Call t) h = tt
crossing-waits (x.Reflect t) h = tt
crossing-waits (x.Array t) h = tt
crossing-waits (x.Proxy t) h = tt
crossing-waits (x.Collect t) h = tt
crossing-waits (x.Membrane t) h = tt
crossing-waits (x.Entry t) h = tt

pushed-on : {A : Type 0} (below : List Waiting) (y : Waiting) (ys : List Waiting) (ended : Option A) → AreWaits below
    → HasItsOutcome (y ∷ ys) ended → HasItsOutcome (below ++ (y ∷ ys)) ended
pushed-on [] y ys ended h k = k
pushed-on (z ∷ []) y ys ended h k = (h.0, k)
pushed-on (z ∷ u ∷ zs) y ys ended h k = (h.0, pushed-on (u ∷ zs) y ys ended h.1 k)

ended-on : {A : Type 0} (below : List Waiting) (a : A) → AreWaits below → HasItsOutcome (below ++ []) (Some a)
ended-on [] a h = refl
ended-on (y ∷ []) a h = h.0
ended-on (y ∷ z ∷ ys) a h = (h.0, ended-on (z ∷ ys) a h.1)

outcome-after : (begun : Bool) (p : Row) (below : List Waiting) (m : Passage) → AreWaits below → MayPass begun p m
    → HasItsOutcome (below ++ left_by m) (done_by (move_of m))
outcome-after begun p below (Here home (move.Done o)) h k = ended-on below o h
outcome-after begun p below (Here home (move.Wait y t)) h k =
    pushed-on below (at_home home y) (at_home home (x.Begin t) ∷ []) None h (k, tt)
outcome-after begun p below (Here home (move.Next t)) h k = pushed-on below (at_home home (x.Begin t)) [] None h tt
outcome-after begun p below (Here home (move.Anew t)) h k = pushed-on below (at_home home (x.Anew t)) [] None h tt
outcome-after true p below (Here home (move.Entered y t)) h k = absurd k
outcome-after false p below (Here home (move.Entered y t)) h k =
    pushed-on below (at_home home y) (at_home home (x.Begun t) ∷ []) None h (k, tt)
outcome-after begun p below (Across z home (move.Done o)) h k = absurd k.1
outcome-after begun p below (Across z home (move.Wait y t)) h k =
    pushed-on below z (above home (move.Wait y t)) None h (crossing-waits z.frame k.0, (k.1, tt))
outcome-after begun p below (Across z home (move.Next t)) h k =
    pushed-on below z (above home (move.Next t)) None h (crossing-waits z.frame k.0, tt)
outcome-after begun p below (Across z home (move.Anew t)) h k =
    pushed-on below z (above home (move.Anew t)) None h (crossing-waits z.frame k.0, tt)
outcome-after begun p below (Across z home (move.Entered y t)) h k = absurd k.1

pub outcome-stays : (m m' : Machine) (d d' : Data) (f f' : ℕ) (l l' : Written) (q : Stepped m m' d d' f f' l l')
    (log : List Item) → Logged d log → HasItsOutcome m.stack.items m.done → HasItsOutcome m'.stack.items m'.done
outcome-stays m m' d d' f f' l l' q log e h =
    rw (q.is, q.done) (outcome-after (under_way q.top.frame) (row_of d q.top m.done (Image d log)) q.below q.passage
    (below-waits q.below q.top m.done (rw (← q.was) h)) (q.step.may log e))
