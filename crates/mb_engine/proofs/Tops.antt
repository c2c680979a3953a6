-- Whose the frame on top is, which is the last.
use Rattle.std.proofs.Common.{List, Some, [], arith, length, refl, slice_get, subst, suc, zero, ℕ, ◌-◌, ◌<◌, ◌∷◌, ◌≡◌}
use Rattle.std.specs.List.{AllByRecursion}
use Rattle.mb_engine.specs.declared.owners.Owner.{Owner}
use Rattle.mb_engine.specs.declared.owners.Owner.TheVariants.{Arrays, Calls, Expressions, Intrinsics, Nobody, Proxies}
use Rattle.mb_engine.specs.declared.owners.Owner.TheVariants.{Reflecting, Statements}
use Rattle.mb_engine.specs.machine.Owning.{Belongs, IsTopOf}
use Rattle.mb_frames.specs.Held.{AreIn}
use Rattle.mb_frames.specs.Holding.{FrameIn, frame_held}
use Rattle.mb_frames.specs.Ready.{IsReadyMachine}
use Rattle.mb_frames.specs.Running.{CanRun}
use Rattle.mb_frames.specs.declared.machine.Machine.{Machine}
use Rattle.mb_frames.specs.declared.machine.Waiting.{Waiting}
use Rattle.mb_frames.proofs.Forms.{ready-runs}
use Rattle.mb_parts.specs.Top.{IsOnTop}
use Rattle.mb_world.specs.Data.{Data}

last-holds : (P : Waiting → Type 0) (stack : List Waiting) (y : Waiting) (i : ℕ) → i ≡ length stack - 1
    → AllByRecursion P stack → slice_get stack i ≡ Some y → P y
last-holds P [] y i l h e = absurd cc
last-holds P (x ∷ []) y i l h e =
    let n : i ≡ zero = omega (arith, l) in
    let k : Some x ≡ Some y = subst (λ (j : ℕ). slice_get (x ∷ []) j ≡ Some y) n e in
    let same : x ≡ y = cc in
    subst P same h.0
last-holds P (x ∷ z ∷ above) y zero l h e = absurd (omega (arith, l))
last-holds P (x ∷ z ∷ above) y (suc i) l h e = last-holds P (z ∷ above) y i (omega (arith, l)) h.1 e

on-last : (P : Waiting → Type 0) (stack : List Waiting) (y : Waiting) (i : ℕ) → i ≡ length stack - 1
    → slice_get stack i ≡ Some y → P y → IsOnTop P stack
on-last P [] y i l e h = absurd cc
on-last P (x ∷ []) y i l e h =
    let n : i ≡ zero = omega (arith, l) in
    let k : Some x ≡ Some y = subst (λ (j : ℕ). slice_get (x ∷ []) j ≡ Some y) n e in
    let same : y ≡ x = cc in
    subst P same h
on-last P (x ∷ z ∷ above) y zero l e h = absurd (omega (arith, l))
on-last P (x ∷ z ∷ above) y (suc i) l e h = on-last P (z ∷ above) y i (omega (arith, l)) e h

module _ (d : Data) (m : Machine) (y : Waiting) (e : slice_get m.stack.items (length m.stack.items - 1) ≡ Some y)
    (h : IsReadyMachine d m) where
  pub last-runs : CanRun d y.home
  last-runs =
      ready-runs d y.home h.world
      (last-holds (λ (z : Waiting). z.home.0 < d.sides) m.stack.items y _ refl h.formed.homes e)

  pub last-ids : AreIn d (frame_held y.frame)
  last-ids = last-holds (λ (z : Waiting). FrameIn d z.frame) m.stack.items y _ refl h.formed.ids.frames e

-- who does the step of the last frame does that of the top
pub owns-top : (d : Data) (owner : Owner) (stack : List Waiting) (y : Waiting)
    → slice_get stack (length stack - 1) ≡ Some y → Belongs d owner y → IsTopOf d owner stack
owns-top d Nobody stack y e h = tt
owns-top d Expressions stack y e h = on-last (Belongs d Expressions) stack y _ refl e h
owns-top d Statements stack y e h = on-last (Belongs d Statements) stack y _ refl e h
owns-top d Calls stack y e h = on-last (Belongs d Calls) stack y _ refl e h
owns-top d Intrinsics stack y e h = on-last (Belongs d Intrinsics) stack y _ refl e h
owns-top d Reflecting stack y e h = on-last (Belongs d Reflecting) stack y _ refl e h
owns-top d Arrays stack y e h = on-last (Belongs d Arrays) stack y _ refl e h
owns-top d Proxies stack y e h = on-last (Belongs d Proxies) stack y _ refl e h
