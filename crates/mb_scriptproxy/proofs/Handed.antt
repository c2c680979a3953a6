-- What a ready machine hands to the frame of a Proxy on top.
use Rattle.std.proofs.Common.{◌++◌, ◌≡◌, ◌∷◌, List, None, Option, Some, [], is_some, refl, subst, sym, true}
use Rattle.std.specs.Prelude.{IsSomeAnd}
use Rattle.mb_base.specs.declared.value.Side.{Side}
use Rattle.mb_frames.specs.Ready.{IsReadyMachine}
use Rattle.mb_frames.specs.Sorts.{AreLinked, IsOfSort, Sort, waits_for}
use Rattle.mb_frames.specs.Standing.{forms_at}
use Rattle.mb_frames.specs.Stepping.{HasItsOutcome, MayCross}
use Rattle.mb_frames.specs.declared.frame.Frame.{Frame}
use Rattle.mb_frames.specs.declared.frame.Frame.TheVariants as x
use Rattle.mb_frames.specs.declared.machine.Machine.{Machine}
use Rattle.mb_frames.specs.declared.machine.Waiting.{Waiting}
use Rattle.mb_frames.specs.declared.task.Outcome.{Outcome}
use Rattle.mb_scriptproxy.specs.Ours.{IsProxyFrame}
use Rattle.mb_scriptproxy.specs.machine.Resuming.{IsHanded}
use Rattle.mb_world.specs.Data.{Data}
use Rattle.mb_world.specs.Form.{Form}
use Rattle.mb_world.specs.Ids.{Maybe}

-- none of them crosses
pub no-crossing : (d : Data) (y : Frame) → IsProxyFrame d y → MayCross y → ⊥
no-crossing d (x.Membrane y) h k = h
no-crossing d y h k = k

linked-last : (forms : Side → List Form) (below : List Waiting) (y : Waiting) (s : Sort)
    → AreLinked forms (below ++ (y ∷ [])) s → waits_for y.frame s ≡ true
linked-last forms [] y s h = h.0
linked-last forms (z ∷ below) y s h = linked-last forms below y s h.1

outcome-last : (below : List Waiting) (y : Waiting) (given : Option Outcome) → HasItsOutcome (below ++ (y ∷ [])) given
    → HasItsOutcome (y ∷ []) given
outcome-last [] y given h = h
outcome-last (z ∷ []) y given h = h.1
outcome-last (z ∷ u ∷ below) y given h = outcome-last (u ∷ below) y given h.1

fits-frame : (y : Frame) (home : Side) (s : Sort) (given : Option Outcome) → waits_for y s ≡ true
    → Maybe (IsOfSort s) given → (let top : Waiting = record { home = home; frame = y } in HasItsOutcome (top ∷ []) given)
    → IsHanded y given
fits-frame (x.Proxy y) home s None w i h = absurd h
fits-frame (x.Proxy y) home s (Some o) w i h = record { sort = s; is = i; fit = w }
fits-frame y home s given w i h = tt

pub handed : (d : Data) (m : Machine) (below : List Waiting) (top : Waiting) (given : Option Outcome)
    → IsReadyMachine d m → m.stack.items ≡ below ++ (top ∷ []) → given ≡ m.done → IsHanded top.frame given
handed d m below top given h was ended =
    subst (IsHanded top.frame) (sym ended)
    (fits-frame top.frame top.home h.formed.sort m.done
    (linked-last (forms_at d) below top h.formed.sort (rw (← was) h.formed.linked)) h.formed.of_sort
    (outcome-last below top m.done (rw (← was) h.formed.outcome)))

pub is-there : {A : Type 0} (P : A → Type 0) (o : Option A) → IsSomeAnd o P → is_some o ≡ true
is-there P None h = absurd h
is-there P (Some x) h = refl
