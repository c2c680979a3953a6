-- A step of an array's member: what it is handed, and that it leaves a ready machine.
use Rattle.std.proofs.Common.{◌++◌, ◌∷◌, ◌≡◌, List, None, Ok, Option, Some, [], is_some, refl, subst, sym, true}
use Rattle.std.specs.Prelude.{IsSomeAnd}
use Rattle.mb_arrayapi.specs.Ours.{IsArrayFrame}
use Rattle.mb_arrayapi.specs.machine.Handing.{IsHanded}
use Rattle.mb_base.specs.declared.value.Side.{Side}
use Rattle.mb_frames.proofs.Steadying.{machine-ready, step-keeps}
use Rattle.mb_frames.specs.Ready.{IsReadyMachine, KeepsBy}
use Rattle.mb_frames.specs.Sorts.{AreLinked, IsOfSort, Sort, waits_for}
use Rattle.mb_frames.specs.Standing.{Here, forms_at}
use Rattle.mb_frames.specs.Stepping.{HasItsOutcome, MayCross, Stepped, Written}
use Rattle.mb_frames.specs.Wholeness.{StepsKept, sort_by}
use Rattle.mb_frames.specs.declared.frame.Frame.{Frame}
use Rattle.mb_frames.specs.declared.frame.Frame.TheVariants as x
use Rattle.mb_frames.specs.declared.frame.Move.{Move}
use Rattle.mb_frames.specs.declared.machine.Machine.{Machine}
use Rattle.mb_frames.specs.declared.machine.Waiting.{Waiting}
use Rattle.mb_frames.specs.declared.task.Outcome.{Outcome}
use Rattle.mb_world.specs.Data.{Data}
use Rattle.mb_world.specs.Form.{Form}
use Rattle.mb_world.specs.Ids.{Maybe}
use Rattle.std.proofs.Common.{ℕ}

-- ---- what it is handed

-- none of them crosses
pub no-crossing : (y : Frame) → IsArrayFrame y → MayCross y → ⊥
no-crossing (x.Membrane y) h k = h
no-crossing y h k = k

linked-last : (forms : Side → List Form) (below : List Waiting) (y : Waiting) (s : Sort)
    → AreLinked forms (below ++ (y ∷ [])) s → waits_for y.frame s ≡ true
linked-last forms [] y s h = h.0
linked-last forms (z ∷ below) y s h = linked-last forms below y s h.1

outcome-last : (below : List Waiting) (y : Waiting) (done : Option Outcome) → HasItsOutcome (below ++ (y ∷ [])) done
    → HasItsOutcome (y ∷ []) done
outcome-last [] y done h = h
outcome-last (z ∷ []) y done h = h.1
outcome-last (z ∷ u ∷ below) y done h = outcome-last (u ∷ below) y done h.1

fits-frame : (y : Frame) (home : Side) (s : Sort) (done : Option Outcome) → waits_for y s ≡ true
    → Maybe (IsOfSort s) done → (let top : Waiting = record { home = home; frame = y } in HasItsOutcome (top ∷ []) done)
    → IsHanded y done
fits-frame (x.Array y) home s None w i h = absurd h
fits-frame (x.Array y) home s (Some o) w i h = record { sort = s; is = i; fit = w }
fits-frame y home s done w i h = tt

pub handed : (d : Data) (m : Machine) (below : List Waiting) (top : Waiting) (done : Option Outcome)
    → IsReadyMachine d m → m.stack.items ≡ below ++ (top ∷ []) → done ≡ m.done → IsHanded top.frame done
handed d m below top done h was ended =
    subst (IsHanded top.frame) (sym ended)
    (fits-frame top.frame top.home h.formed.sort m.done
    (linked-last (forms_at d) below top h.formed.sort (rw (← was) h.formed.linked)) h.formed.of_sort
    (outcome-last below top m.done (rw (← was) h.formed.outcome)))

pub is-there : {A : Type 0} (P : A → Type 0) (o : Option A) → IsSomeAnd o P → is_some o ≡ true
is-there P None h = absurd h
is-there P (Some x) h = refl

-- ---- the machine that it leaves

module _ (m m' : Machine) (d d' : Data) (f f' : ℕ) (l l' : Written) (q : Stepped m m' d d' f f' l l')
    (h : IsReadyMachine d m) (y : Move) (p : q.passage ≡ Here q.top.home y)
    (k : KeepsBy q.top.home (sort_by d q.top h.formed.sort) (Ok y) d d') where
  pub step-ready : IsReadyMachine d' m'
  step-ready = machine-ready m m' d d' f f' l l' q h y p k.changed k.leaves

  pub step-kept : StepsKept (Ok tt) m m' d d'
  step-kept = step-keeps m m' d d' f f' l l' q h y p k.changed k.leaves
