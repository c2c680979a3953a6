-- The trap was looked up: without one the side that asked goes on at its own home.
use Rattle.std.proofs.Common.{◌∷◌, ◌≡◌, Bool, Ok, Result, ap, false, refl, true, ℕ}
use Rattle.std.specs.Prelude.{if◌then◌else◌}
use Rattle.mb_base.specs.declared.value.ObjId.{ObjId}
use Rattle.mb_base.specs.declared.value.Side.{Side}
use Rattle.mb_base.specs.declared.value.Value.{Value}
use Rattle.mb_frames.proofs.Keeping.{keeps-same}
use Rattle.mb_frames.proofs.Leaving.{holds-in}
use Rattle.mb_frames.proofs.Linking.{fits-same}
use Rattle.mb_frames.proofs.Passed.{Part-by, Part-sure}
use Rattle.mb_frames.proofs.Steps.{Sure-next}
use Rattle.mb_frames.specs.Held.{HeldObject, HeldSide}
use Rattle.mb_frames.specs.Holding.{method_held, task_held}
use Rattle.mb_frames.specs.Passing.{Part}
use Rattle.mb_frames.specs.Ready.{Holds, IsReady, KeepsBy, MayHold}
use Rattle.mb_frames.specs.Resolved.{method_in, task_in}
use Rattle.mb_frames.specs.Sorts.{method_gives}
use Rattle.mb_frames.specs.declared.frame.Move.{Move}
use Rattle.mb_frames.specs.declared.frame.Move.TheVariants as move
use Rattle.mb_frames.specs.declared.machine.Halt.{Halt}
use Rattle.mb_frames.specs.declared.task.Method.{Method}
use Rattle.mb_frames.specs.declared.task.Task.{Task}
use Rattle.mb_frames.specs.declared.task.Task.TheVariants as task
use Rattle.mb_model.specs.Meaning.{finished}
use Rattle.mb_model.specs.Objects.Proxies.{trap_callable, trap_got}
use Rattle.mb_model.specs.Writing.{answer}
use Rattle.mb_scriptproxy.proofs.Performed.{held-by, method-anywhere}
use Rattle.mb_scriptproxy.specs.machine.Acting.{is_none, trap_side}
use Rattle.mb_world.specs.Data.{Data}
use Rattle.mb_world.specs.Image.{Image, Names, Resolve, names_of, object_in}
use Rattle.mb_world.specs.Value.{is_nullish}

module _ (home asked : Side) (trap : Value) where
  pub none-side : is_none trap ≡ true → trap_side home asked trap ≡ asked
  none-side e = ap (λ (b : Bool). if b then asked else home) e

  pub some-side : is_none trap ≡ false → trap_side home asked trap ≡ home
  some-side e = ap (λ (b : Bool). if b then asked else home) e

module _ (home asked : Side) (d : Data) (target handler : ObjId) (method : Method) (trap : Value) where
  abbrev n : Names
  n = names_of d

  abbrev untrapped : Task
  untrapped = task.Perform method target home false

  pub Part-none : (f : ℕ) → is_none trap ≡ true → is_nullish (Resolve (names_of d) trap) ≡ true
      → Holds d asked (HeldObject target ∷ method_held target method)
      → Part (trap_side home asked trap) (Ok (move.Next (task.Perform method target home false))) d d f f
      (trap_got asked.0 home.0 (object_in (names_of d) target) (object_in (names_of d) handler)
      (method_in (names_of d) method) (Resolve (names_of d) trap) finished)
  Part-none f e q h =
      let t = object_in n target in
      let y = method_in n method in
      rw (none-side home asked trap e)
      (Part-by asked (Ok (move.Next untrapped)) d d f f
      (trap_got asked.0 home.0 t (object_in n handler) y (Resolve n trap) finished)
      (answer (task_in n asked.0 untrapped) finished)
      (λ log.
      ap (λ (b : Bool).
      (if b then answer (task_in n asked.0 untrapped)
      else trap_callable home.0 t (object_in n handler) (Resolve n trap) y) finished (Image d log)) q)
      (Part-sure asked d f (answer (task_in n asked.0 untrapped) finished) (move.Next untrapped)
      (Sure-next asked d untrapped (holds-in d asked (task_held untrapped) h))))

  pub keeps-none : is_none trap ≡ true → IsReady d → Holds d asked (HeldObject target ∷ method_held target method)
      → KeepsBy (trap_side home asked trap) (method_gives method)
      (Ok (move.Next (task.Perform method target home false))) d d
  keeps-none e r h = rw (none-side home asked trap e)
      (keeps-same asked (method_gives method) (Ok (move.Next untrapped)) d r
      (record { holds = h; fit = tt; gives = fits-same (method_gives method) }))

  pub Part-trap : (r : Result Move Halt) (d' : Data) (f : ℕ) → is_none trap ≡ false
      → is_nullish (Resolve (names_of d) trap) ≡ false
      → Part home r d d' f f (trap_callable home.0 (object_in (names_of d) target) (object_in (names_of d) handler)
      (Resolve (names_of d) trap) (method_in (names_of d) method) finished)
      → Part (trap_side home asked trap) r d d' f f
      (trap_got asked.0 home.0 (object_in (names_of d) target) (object_in (names_of d) handler)
      (method_in (names_of d) method) (Resolve (names_of d) trap) finished)
  Part-trap r d' f e q h =
      let t = object_in n target in
      let y = method_in n method in
      rw (some-side home asked trap e)
      (Part-by home r d d' f f
      (trap_got asked.0 home.0 t (object_in n handler) y (Resolve n trap) finished)
      (trap_callable home.0 t (object_in n handler) (Resolve n trap) y finished)
      (λ log.
      ap (λ (b : Bool).
      (if b then answer (task_in n asked.0 untrapped)
      else trap_callable home.0 t (object_in n handler) (Resolve n trap) y) finished (Image d log)) q) h)

  pub asked-holds : MayHold d home (HeldSide asked) → Holds d home (HeldObject target ∷ method_held target method)
      → Holds d asked (HeldObject target ∷ method_held target method)
  asked-holds q h =
      held-by d home asked (HeldObject target ∷ method_held target method) (refl, method-anywhere target method)
      q.sound.1 h
