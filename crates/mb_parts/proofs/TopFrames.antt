-- What holds of the frame on top of a stack.
use Rattle.std.proofs.Common.{◌++◌, ◌≡◌, ◌∷◌, Err, List, Ok, Option, [], subst, ℕ}
use Rattle.std.specs.List.{AllByRecursion}
use Rattle.mb_base.specs.declared.value.Side.{Side}
use Rattle.mb_frames.specs.Standing.{Here, above, at_home, done_by, row_of, under_way}
use Rattle.mb_frames.specs.Stepping.{IsBegin, IsEntered, PutsNone, Step, Stepped, Steps, Unpaid, Went, Written}
use Rattle.mb_frames.specs.declared.frame.Move.{Move}
use Rattle.mb_frames.specs.declared.frame.Move.TheVariants as move
use Rattle.mb_frames.specs.declared.machine.Halt.{Halt}
use Rattle.mb_frames.specs.declared.machine.Halt.TheVariants.{NoMemory, Spent as SpentHalt}
use Rattle.mb_frames.specs.declared.machine.Machine.{Machine}
use Rattle.mb_frames.specs.declared.machine.Waiting.{Waiting}
use Rattle.mb_frames.specs.declared.task.Outcome.{Outcome}
use Rattle.mb_world.specs.Data.{Data}
use Rattle.mb_parts.specs.Top.{IsOnTop}

top-of : (P : Waiting → Type 0) (below : List Waiting) (y : Waiting) → IsOnTop P (below ++ (y ∷ [])) → P y
top-of P [] y h = h
top-of P (x ∷ []) y h = h
top-of P (x ∷ z ∷ below) y h = top-of P (z ∷ below) y h

pub on-top : (P : Waiting → Type 0) (stack below : List Waiting) (y : Waiting) → stack ≡ below ++ (y ∷ [])
    → IsOnTop P stack → P y
on-top P stack below y e h = top-of P below y (subst (IsOnTop P) e h)

last-of : (P : Waiting → Type 0) (below : List Waiting) (y : Waiting) → AllByRecursion P (below ++ (y ∷ [])) → P y
last-of P [] y h = h.0
last-of P (x ∷ below) y h = last-of P below y h.1

pub last-in : (P : Waiting → Type 0) (stack below : List Waiting) (y : Waiting) → stack ≡ below ++ (y ∷ [])
    → AllByRecursion P stack → P y
last-in P stack below y e h = last-of P below y (subst (AllByRecursion P) e h)

pub entered-none : (m : Move) → PutsNone (Ok m) → IsEntered m → ⊥
entered-none (move.Done y) n h = absurd h
entered-none (move.Wait y t) n h = absurd h
entered-none (move.Next t) n h = absurd h
entered-none (move.Anew t) n h = absurd h
entered-none (move.Entered y t) n h = absurd n

-- a step of the frame on top is one of the machine, at whichever home it goes on
abbrev pub stepped-at : (side : Side) (m m' : Machine) (d d' : Data) (f f' : ℕ) (l l' : Written) (below : List Waiting)
    (top : Waiting) (ended : Option Outcome) (step : Move) → m.stack.items ≡ below ++ (top ∷ [])
    → m'.stack.items ≡ below ++ above side step → m'.done ≡ done_by step → m'.now ≡ side → ended ≡ m.done
    → (IsEntered step → IsBegin top.frame)
    → Step side (under_way top.frame) (Ok step) d d' f f' l l' (row_of d (at_home top.home top.frame) ended)
    → Stepped m m' d d' f f' l l'
stepped-at side m m' d d' f f' l l' below top ended step w i e n z p s = record {
  below = below;
  top = top;
  passage = Here side step;
  was = w;
  is = i;
  done = e;
  now = n;
  enters = p;
  step = subst (λ (y : Option Outcome). Went (under_way top.frame) d d' f f' l l' (row_of d top y) (Here side step))
      z s;
}

pub stopped-at : (side : Side) (halt : Halt) (m m' : Machine) (d d' : Data) (f f' : ℕ) (l l' : Written)
    (below : List Waiting) (top : Waiting) (ended : Option Outcome) → m.stack.items ≡ below ++ (top ∷ [])
    → ended ≡ m.done
    → Step side (under_way top.frame) (Err halt) d d' f f' l l' (row_of d (at_home top.home top.frame) ended)
    → Steps (Err halt) m m' d d' f f' l l'
stopped-at side SpentHalt m m' d d' f f' l l' below top ended w z s = record {
  below = below;
  top = top;
  was = w;
  step = subst (λ (y : Option Outcome). Unpaid (under_way top.frame) d d' f f' l l' (row_of d top y)) z s;
}
stopped-at side NoMemory m m' d d' f f' l l' below top ended w z s = tt

-- the usual step goes on at the home of the frame, and adds nothing to the log
abbrev pub stepped : (m m' : Machine) (d d' : Data) (f f' : ℕ) (l : Written) (below : List Waiting) (top : Waiting)
    (ended : Option Outcome) (step : Move) → m.stack.items ≡ below ++ (top ∷ [])
    → m'.stack.items ≡ below ++ above top.home step → m'.done ≡ done_by step → m'.now ≡ top.home → ended ≡ m.done
    → PutsNone (Ok step)
    → Step top.home (under_way top.frame) (Ok step) d d' f f' l l (row_of d (at_home top.home top.frame) ended)
    → Stepped m m' d d' f f' l l
stepped m m' d d' f f' l below top ended step w i e n z p s =
    stepped-at top.home m m' d d' f f' l l below top ended step w i e n z (λ h. absurd (entered-none step p h)) s

pub stopped : (halt : Halt) (m m' : Machine) (d d' : Data) (f f' : ℕ) (l : Written) (below : List Waiting)
    (top : Waiting)
    (ended : Option Outcome) → m.stack.items ≡ below ++ (top ∷ []) → ended ≡ m.done
    → Step top.home (under_way top.frame) (Err halt) d d' f f' l l (row_of d (at_home top.home top.frame) ended)
    → Steps (Err halt) m m' d d' f f' l l
stopped halt m m' d d' f f' l below top ended w z s =
    stopped-at top.home halt m m' d d' f f' l l below top ended w z s
