-- A step of a Proxy leaves a ready machine.
use Rattle.std.proofs.Common.{◌++◌, ◌<◌, ◌≡◌, ◌∙◌, ◌∷◌, Bool, Err, List, Ok, Result, [], ap, false, refl, subst, sym}
use Rattle.std.proofs.Common.{true, ℕ}
use Rattle.std.specs.Prelude.{IfOk, Option}
use Rattle.mb_base.specs.declared.value.Side.{Side}
use Rattle.mb_frames.proofs.Steadying.{halt-keeps, machine-ready, noted-ready, step-keeps, top-holds, top-home}
use Rattle.mb_frames.specs.Ready.{Changed, IsReadyMachine, KeepsBy, Leaves}
use Rattle.mb_frames.specs.Sorts.{Sort, frame_sort}
use Rattle.mb_frames.specs.Standing.{Here, forms_at}
use Rattle.mb_frames.specs.Stepping.{IsBegin, IsEntered, PutsNone, Stepped, Written}
use Rattle.mb_frames.specs.Wholeness.{StepsKept, sort_by}
use Rattle.mb_frames.specs.declared.frame.Frame.{Frame}
use Rattle.mb_frames.specs.declared.frame.Frame.TheVariants as x
use Rattle.mb_frames.specs.declared.frame.Move.{Move}
use Rattle.mb_frames.specs.declared.machine.Halt.{Halt}
use Rattle.mb_frames.specs.declared.machine.Machine.{Machine}
use Rattle.mb_frames.specs.declared.machine.Waiting.{Waiting}
use Rattle.mb_frames.specs.declared.task.Outcome.{Outcome}
use Rattle.mb_frames.specs.declared.task.Task.{Task}
use Rattle.mb_parts.proofs.TopFrames.{entered-none}
use Rattle.mb_scriptproxy.proofs.Owned.{frame-home, frame-in}
use Rattle.mb_scriptproxy.specs.machine.Acting.{acting_side}
use Rattle.mb_world.specs.Data.{Data}

-- ---- a step

module _ (m m' : Machine) (d d' : Data) (f f' : ℕ) (l l' : Written) (q : Stepped m m' d d' f f' l l')
    (h : IsReadyMachine d m) (side : Side) (y : Move) (p : q.passage ≡ Here side y) (done : Option Outcome)
    (s : side ≡ acting_side d q.top.home q.top.frame done)
    (k : (sort : Sort)
    → KeepsBy side (frame_sort (forms_at d q.top.home) q.top.frame sort) (Ok y) d d') where
  own-side : d.joined ≡ false → side ≡ q.top.home
  own-side u =
      s ∙ frame-home d q.top.home h.world q.top.frame done (top-holds d m q.below q.top h q.was) u

  inside : side.0 < d.sides
  inside = subst (λ (z : Side). z.0 < d.sides) (sym s)
      (frame-in d q.top.home h.world q.top.frame done (top-holds d m q.below q.top h q.was)
      (top-home d m q.below q.top h q.was))

  wanted : Leaves d' side (sort_by d q.top h.formed.sort) y
  wanted = (k h.formed.sort).leaves

  module _ (u : d.joined ≡ false) where
    here : q.passage ≡ Here q.top.home y
    here = p ∙ ap (λ (z : Side). Here z y) (own-side u)

    changed : Changed q.top.home d d'
    changed = subst (λ (z : Side). Changed z d d') (own-side u) (k h.formed.sort).changed

    left : Leaves d' q.top.home (sort_by d q.top h.formed.sort) y
    left = subst (λ (z : Side). Leaves d' z (sort_by d q.top h.formed.sort) y) (own-side u) wanted

  pub step-ready : IsReadyMachine d' m'
  step-ready = by d.joined refl
    where
      by : (b : Bool) → d.joined ≡ b → IsReadyMachine d' m'
      by true u =
          noted-ready m m' d d' f f' l l' q h side y p u inside (k h.formed.sort).changed.ready
          (k h.formed.sort).changed.found wanted
      by false u = machine-ready m m' d d' f f' l l' q h y (here u) (changed u) (left u)

  pub step-kept : StepsKept (Ok tt) m m' d d'
  step-kept = λ u below top was. step-keeps m m' d d' f f' l l' q h y (here u) (changed u) (left u) u below top was

-- where it halts, whatever the part of the row left
pub halted-kept : (halt : Halt) (r : Result Move Halt) (m m' : Machine) (d d' : Data) (below : List Waiting)
    (top : Waiting) (side : Side) (done : Option Outcome) (sort : Sort) → IsReadyMachine d m
    → m.stack.items ≡ below ++ (top ∷ []) → side ≡ acting_side d top.home top.frame done
    → KeepsBy side (frame_sort (forms_at d top.home) top.frame sort) r d d'
    → StepsKept (Err halt) m m' d d'
halted-kept halt r m m' d d' below top side done sort h was s k = λ u under last also.
    halt-keeps halt m m' d d' below top was
    (subst (λ (z : Side). Changed z d d')
    (s ∙ frame-home d top.home h.world top.frame done (top-holds d m below top h was) u) k.changed)
    u under last also

-- a step of a row that is under way puts no entry below
pub enters-none : (r : Result Move Halt) (y : Frame) → PutsNone r → IfOk r (λ m. IsEntered m → IsBegin y)
enters-none (Ok m) y h = λ e. absurd (entered-none m h e)
enters-none (Err halt) y h = tt

pub enters-begin : (r : Result Move Halt) (y : Task) → IfOk r (λ m. IsEntered m → IsBegin (x.Begin y))
enters-begin (Ok m) y = λ e. tt
enters-begin (Err halt) y = tt
