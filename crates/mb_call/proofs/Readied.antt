-- A step of a call leaves a ready machine.
use Rattle.std.proofs.Common.{◌++◌, ◌<◌, ◌≡◌, ◌∙◌, ◌∷◌, Bool, Err, List, Ok, Result, [], ap, false, refl, subst, sym}
use Rattle.std.proofs.Common.{true, true≢false, ℕ}
use Rattle.std.specs.Prelude.{IfOk}
use Rattle.mb_base.specs.declared.value.Side.{Side}
use Rattle.mb_call.proofs.Owners.{frame-home, frame-in}
use Rattle.mb_call.specs.Ours.{IsCallFrame}
use Rattle.mb_call.specs.machine.Acting.{acting_side}
use Rattle.mb_call.specs.machine.Noting.{KeepsFrame}
use Rattle.mb_frames.proofs.Steadying.{halt-keeps, machine-ready, noted-ready, step-keeps, top-holds, top-home}
use Rattle.mb_frames.specs.Ready.{Changed, IsReady, IsReadyMachine, Leaves, LeavesBy}
use Rattle.mb_frames.specs.Sorts.{Sort, frame_sort}
use Rattle.mb_frames.specs.Standing.{Here, forms_at}
use Rattle.mb_frames.specs.Stepping.{IsBegin, IsEntered, PutsNone, Stepped, Written}
use Rattle.mb_frames.specs.Wholeness.{StaysFound, StepsKept, sort_by}
use Rattle.mb_frames.specs.declared.frame.Frame.{Frame}
use Rattle.mb_frames.specs.declared.frame.Frame.TheVariants as x
use Rattle.mb_frames.specs.declared.frame.Move.{Move}
use Rattle.mb_frames.specs.declared.machine.Halt.{Halt}
use Rattle.mb_frames.specs.declared.machine.Machine.{Machine}
use Rattle.mb_frames.specs.declared.machine.Waiting.{Waiting}
use Rattle.mb_frames.specs.declared.task.Task.{Task}
use Rattle.mb_parts.proofs.TopFrames.{entered-none}
use Rattle.mb_world.specs.Data.{Data}

-- ---- what a frame keeps

module _ (home acts : Side) (s : Sort) (r : Result Move Halt) (d d' : Data) where
  pub ready-after : (y : Frame) → KeepsFrame home acts y s r d d' → IsReady d'
  ready-after (x.Entry y) k = k.ready
  ready-after y k = k.changed.ready

  pub found-after : (y : Frame) → KeepsFrame home acts y s r d d' → StaysFound d d'
  found-after (x.Entry y) k = k.found
  found-after y k = k.changed.found

  leaves-after : (y : Frame) → KeepsFrame home acts y s r d d' → LeavesBy d' acts (frame_sort (forms_at d home) y s) r
  leaves-after (x.Entry y) k = k.leaves
  leaves-after y k = k.leaves

  -- entries are made in joined worlds alone
  changed-after : (y : Frame) → IsCallFrame d y → d.joined ≡ false → KeepsFrame home acts y s r d d'
      → Changed acts d d'
  changed-after (x.Entry y) o u k = absurd (true≢false (sym o ∙ u))
  changed-after y o u k = k.changed

-- ---- a step

module _ (m m' : Machine) (d d' : Data) (f f' : ℕ) (l l' : Written) (q : Stepped m m' d d' f f' l l')
    (h : IsReadyMachine d m) (side : Side) (y : Move) (p : q.passage ≡ Here side y)
    (s : side ≡ acting_side d q.top.home q.top.frame) (ours : IsCallFrame d q.top.frame)
    (k : (sort : Sort) → KeepsFrame q.top.home side q.top.frame sort (Ok y) d d') where
  own-side : d.joined ≡ false → side ≡ q.top.home
  own-side u = s ∙ frame-home d q.top.home h.world q.top.frame (top-holds d m q.below q.top h q.was) u

  inside : side.0 < d.sides
  inside = subst (λ (z : Side). z.0 < d.sides) (sym s)
      (frame-in d q.top.home h.world q.top.frame (top-holds d m q.below q.top h q.was)
      (top-home d m q.below q.top h q.was))

  wanted : Leaves d' side (sort_by d q.top h.formed.sort) y
  wanted = leaves-after q.top.home side h.formed.sort (Ok y) d d' q.top.frame (k h.formed.sort)

  module _ (u : d.joined ≡ false) where
    here : q.passage ≡ Here q.top.home y
    here = p ∙ ap (λ (z : Side). Here z y) (own-side u)

    changed : Changed q.top.home d d'
    changed = subst (λ (z : Side). Changed z d d') (own-side u)
        (changed-after q.top.home side h.formed.sort (Ok y) d d' q.top.frame ours u (k h.formed.sort))

    left : Leaves d' q.top.home (sort_by d q.top h.formed.sort) y
    left = subst (λ (z : Side). Leaves d' z (sort_by d q.top h.formed.sort) y) (own-side u) wanted

  pub call-ready : IsReadyMachine d' m'
  call-ready = by d.joined refl
    where
      by : (b : Bool) → d.joined ≡ b → IsReadyMachine d' m'
      by true u =
          noted-ready m m' d d' f f' l l' q h side y p u inside
          (ready-after q.top.home side h.formed.sort (Ok y) d d' q.top.frame (k h.formed.sort))
          (found-after q.top.home side h.formed.sort (Ok y) d d' q.top.frame (k h.formed.sort)) wanted
      by false u = machine-ready m m' d d' f f' l l' q h y (here u) (changed u) (left u)

  pub call-kept : StepsKept (Ok tt) m m' d d'
  call-kept = λ u below top was. step-keeps m m' d d' f f' l l' q h y (here u) (changed u) (left u) u below top was

-- where it halts, whatever the part of the row left
pub halted-kept : (halt : Halt) (r : Result Move Halt) (m m' : Machine) (d d' : Data) (below : List Waiting)
    (top : Waiting) (side : Side) → (h : IsReadyMachine d m) → m.stack.items ≡ below ++ (top ∷ [])
    → side ≡ acting_side d top.home top.frame → IsCallFrame d top.frame
    → KeepsFrame top.home side top.frame h.formed.sort r d d' → StepsKept (Err halt) m m' d d'
halted-kept halt r m m' d d' below top side h was s ours k = λ u under last also.
    halt-keeps halt m m' d d' below top was
    (subst (λ (z : Side). Changed z d d')
    (s ∙ frame-home d top.home h.world top.frame (top-holds d m below top h was) u)
    (changed-after top.home side h.formed.sort r d d' top.frame ours u k))
    u under last also

-- a step of a row that is under way puts no entry below
pub enters-none : (r : Result Move Halt) (y : Frame) → PutsNone r → IfOk r (λ m. IsEntered m → IsBegin y)
enters-none (Ok m) y h = λ e. absurd (entered-none m h e)
enters-none (Err halt) y h = tt

pub enters-begin : (r : Result Move Halt) (y : Task) → IfOk r (λ m. IsEntered m → IsBegin (x.Begin y))
enters-begin (Ok m) y = λ e. tt
enters-begin (Err halt) y = tt
