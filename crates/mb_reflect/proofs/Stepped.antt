-- A step of a member leaves a ready machine.
use Rattle.std.proofs.Common.{◌++◌, ◌≡◌, ◌∷◌, List, None, Ok, Option, Some, [], is_some, refl, subst, sym, true, ℕ}
use Rattle.std.specs.Prelude.{IsSomeAnd}
use Rattle.mb_base.specs.declared.value.Side.{Side}
use Rattle.mb_call.specs.Ours.{Acts}
use Rattle.mb_frames.proofs.Steadying.{machine-ready, step-keeps, top-holds, top-home}
use Rattle.mb_frames.specs.Holding.{frame_held}
use Rattle.mb_frames.specs.Ready.{IsReadyMachine, KeepsBy}
use Rattle.mb_frames.specs.Sorts.{AreLinked, IsOfSort, Sort, waits_for}
use Rattle.mb_frames.specs.Standing.{Here, forms_at}
use Rattle.mb_frames.specs.Stepping.{HasItsOutcome, MayCross, Stepped, Written}
use Rattle.mb_frames.specs.Wholeness.{StepsKept, sort_by}
use Rattle.mb_frames.specs.declared.frame.Frame.{Frame}
use Rattle.mb_frames.specs.declared.frame.Frame.TheVariants as x
use Rattle.mb_frames.specs.declared.frame.Move.{Move}
use Rattle.mb_frames.specs.declared.machine.Machine.{Machine}
use Rattle.mb_frames.specs.declared.machine.Waiting.{Waiting}
use Rattle.mb_frames.specs.declared.task.Outcome.{Outcome}
use Rattle.mb_reflect.specs.Ours.{IsReflectFrame}
use Rattle.mb_reflect.specs.machine.Running.{IsHanded}
use Rattle.mb_world.specs.Data.{Data}
use Rattle.mb_world.specs.Form.{Form}
use Rattle.mb_world.specs.Ids.{Maybe}

-- ---- the frame on top

-- none of them crosses
pub no-crossing : (y : Frame) → IsReflectFrame y → MayCross y → ⊥
no-crossing (x.Membrane y) h k = h
no-crossing y h k = k

pub top-acts : (d : Data) (m : Machine) (below : List Waiting) (top : Waiting) → IsReadyMachine d m
    → m.stack.items ≡ below ++ (top ∷ []) → Acts d top.home (frame_held top.frame)
top-acts d m below top h was = record {
  ready = h.world;
  side = top-home d m below top h was;
  holds = top-holds d m below top h was;
}

linked-last : (forms : Side → List Form) (below : List Waiting) (y : Waiting) (s : Sort)
    → AreLinked forms (below ++ (y ∷ [])) s → waits_for y.frame s ≡ true
linked-last forms [] y s h = h.0
linked-last forms (z ∷ below) y s h = linked-last forms below y s h.1

outcome-last : (below : List Waiting) (y : Waiting) (last : Option Outcome) → HasItsOutcome (below ++ (y ∷ [])) last
    → HasItsOutcome (y ∷ []) last
outcome-last [] y last h = h
outcome-last (z ∷ []) y last h = h.1
outcome-last (z ∷ u ∷ below) y last h = outcome-last (u ∷ below) y last h.1

fits-frame : (y : Frame) (home : Side) (s : Sort) (last : Option Outcome) → waits_for y s ≡ true
    → Maybe (IsOfSort s) last → (let top : Waiting = record { home = home; frame = y } in HasItsOutcome (top ∷ []) last)
    → IsHanded y last
fits-frame (x.Reflect y) home s None w i h = absurd h
fits-frame (x.Reflect y) home s (Some o) w i h = record { sort = s; is = i; fit = w }
fits-frame y home s last w i h = tt

pub handed : (d : Data) (m : Machine) (below : List Waiting) (top : Waiting) (last : Option Outcome)
    → IsReadyMachine d m → m.stack.items ≡ below ++ (top ∷ []) → last ≡ m.done → IsHanded top.frame last
handed d m below top last h was ended =
    subst (IsHanded top.frame) (sym ended)
    (fits-frame top.frame top.home h.formed.sort m.done
    (linked-last (forms_at d) below top h.formed.sort (rw (← was) h.formed.linked)) h.formed.of_sort
    (outcome-last below top m.done (rw (← was) h.formed.outcome)))

pub is-there : {A : Type 0} (P : A → Type 0) (o : Option A) → IsSomeAnd o P → is_some o ≡ true
is-there P None h = absurd h
is-there P (Some y) h = refl

-- ---- the machine

module _ (m m' : Machine) (d d' : Data) (f f' : ℕ) (l l' : Written) (q : Stepped m m' d d' f f' l l')
    (h : IsReadyMachine d m) (y : Move) (p : q.passage ≡ Here q.top.home y)
    (k : KeepsBy q.top.home (sort_by d q.top h.formed.sort) (Ok y) d d') where
  pub step-ready : IsReadyMachine d' m'
  step-ready = machine-ready m m' d d' f f' l l' q h y p k.changed k.leaves

  pub step-kept : StepsKept (Ok tt) m m' d d'
  step-kept = step-keeps m m' d d' f f' l l' q h y p k.changed k.leaves
