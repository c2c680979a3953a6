-- What a ready machine hands to the frame of a call on top.
use Rattle.std.proofs.Common.{◌++◌, ◌≡◌, ◌∷◌, List, None, Option, Some, [], is_some, refl, subst, sym, true}
use Rattle.std.specs.Prelude.{IsSomeAnd}
use Rattle.mb_base.specs.declared.value.Side.{Side}
use Rattle.mb_call.specs.Ours.{IsCallFrame}
use Rattle.mb_call.specs.machine.Resuming.{IsHanded}
use Rattle.mb_frames.specs.Ready.{IsReadyMachine}
use Rattle.mb_frames.specs.Sorts.{AreLinked, IsOfSort, Sort, waits_for}
use Rattle.mb_frames.specs.Standing.{forms_at}
use Rattle.mb_frames.specs.Stepping.{HasItsOutcome, MayCross}
use Rattle.mb_frames.specs.declared.frame.Frame.{Frame}
use Rattle.mb_frames.specs.declared.frame.Frame.TheVariants as x
use Rattle.mb_frames.specs.declared.machine.Machine.{Machine}
use Rattle.mb_frames.specs.declared.machine.Waiting.{Waiting}
use Rattle.mb_frames.specs.declared.task.Outcome.{Outcome}
use Rattle.mb_world.specs.Data.{Data}
use Rattle.mb_world.specs.Form.{Form}
use Rattle.mb_world.specs.Ids.{Maybe}

-- none of them crosses
pub no-crossing : (d : Data) (y : Frame) → IsCallFrame d y → MayCross y → ⊥
no-crossing d (x.Membrane y) h k = h
no-crossing d y h k = k

linked-last : (forms : Side → List Form) (below : List Waiting) (y : Waiting) (s : Sort)
    → AreLinked forms (below ++ (y ∷ [])) s → waits_for y.frame s ≡ true
linked-last forms [] y s h = h.0
linked-last forms (z ∷ below) y s h = linked-last forms below y s h.1

outcome-last : (below : List Waiting) (y : Waiting) (left : Option Outcome) → HasItsOutcome (below ++ (y ∷ [])) left
    → HasItsOutcome (y ∷ []) left
outcome-last [] y left h = h
outcome-last (z ∷ []) y left h = h.1
outcome-last (z ∷ u ∷ below) y left h = outcome-last (u ∷ below) y left h.1

fits-frame : (y : Frame) (home : Side) (s : Sort) (left : Option Outcome) → waits_for y s ≡ true
    → Maybe (IsOfSort s) left → (let top : Waiting = record { home = home; frame = y } in HasItsOutcome (top ∷ []) left)
    → IsHanded y left
fits-frame (x.Call y) home s None w i h = absurd h
fits-frame (x.Call y) home s (Some o) w i h = record { sort = s; is = i; fit = w }
fits-frame (x.Entry y) home s None w i h = absurd h
fits-frame (x.Entry y) home s (Some o) w i h = record { sort = s; is = i; fit = w }
fits-frame y home s left w i h = tt

pub handed : (d : Data) (m : Machine) (below : List Waiting) (top : Waiting) (left : Option Outcome)
    → IsReadyMachine d m → m.stack.items ≡ below ++ (top ∷ []) → left ≡ m.done → IsHanded top.frame left
handed d m below top left h was ended =
    subst (IsHanded top.frame) (sym ended)
    (fits-frame top.frame top.home h.formed.sort m.done
    (linked-last (forms_at d) below top h.formed.sort (rw (← was) h.formed.linked)) h.formed.of_sort
    (outcome-last below top m.done (rw (← was) h.formed.outcome)))

pub is-there : {A : Type 0} (P : A → Type 0) (o : Option A) → IsSomeAnd o P → is_some o ≡ true
is-there P None h = absurd h
is-there P (Some x) h = refl
