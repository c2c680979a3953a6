-- The target is asked, below a frame of a Proxy that waits for the answer.
use Rattle.std.proofs.Common.{List, refl, true, ◌∷◌, ◌≡◌}
use Rattle.mb_base.specs.declared.value.ObjId.{ObjId}
use Rattle.mb_base.specs.declared.value.Side.{Side}
use Rattle.mb_frames.proofs.Keeping.{leaves-wait}
use Rattle.mb_frames.proofs.Leaving.{holds-in}
use Rattle.mb_frames.proofs.Parts.{all-both}
use Rattle.mb_frames.proofs.Steps.{Sure-wait}
use Rattle.mb_frames.specs.Held.{HeldIn, HeldObject}
use Rattle.mb_frames.specs.Holding.{method_held, proxy_held, task_held}
use Rattle.mb_frames.specs.Ready.{Holds, Leaves}
use Rattle.mb_frames.specs.Resolved.{task_in}
use Rattle.mb_frames.specs.Rest.Proxying.{proxy_rest}
use Rattle.mb_frames.specs.Sorts.{Sort, fits, method_gives, proxy_gives, proxy_waits}
use Rattle.mb_frames.specs.Stepping.{Sure}
use Rattle.mb_frames.specs.declared.frame.Frame.TheVariants as x
use Rattle.mb_frames.specs.declared.frame.Move.TheVariants as move
use Rattle.mb_frames.specs.declared.proxies.ProxyFrame.{ProxyFrame}
use Rattle.mb_frames.specs.declared.task.Method.{Method}
use Rattle.mb_frames.specs.declared.task.Task.{Task}
use Rattle.mb_frames.specs.declared.task.Task.TheVariants as task
use Rattle.mb_model.specs.Engine.{Do}
use Rattle.mb_model.specs.Meaning.{finished}
use Rattle.mb_model.specs.Writing.{Row, pass}
use Rattle.mb_world.specs.Data.{Data}
use Rattle.mb_world.specs.Graph.{Graph, Item}
use Rattle.mb_world.specs.Image.{Image, names_of}

module _ (home : Side) (d : Data) (y : ProxyFrame) (method : Method) (target : ObjId)
    (h : Holds d home (proxy_held y)) (k : Holds d home (HeldObject target ∷ method_held target method)) where
  abbrev asked : Task
  asked = task.Perform method target home true

  pub Sure-asks : (p : Graph → Row)
      → ((log : List Item) → p (Image d log) ≡ Do (task_in (names_of d) home.0 asked) (Image d log)
      (λ o. pass o (λ a. proxy_rest (names_of d) home.0 y a finished)))
      → Sure home d p (move.Wait (x.Proxy y) asked)
  Sure-asks p e =
      Sure-wait home d (x.Proxy y) asked p (λ o. pass o (λ a. proxy_rest (names_of d) home.0 y a finished)) e tt
      (λ o g. refl)
      (all-both (HeldIn d) (proxy_held y) (task_held asked) (holds-in d home (proxy_held y) h)
      (holds-in d home (task_held asked) k))

  pub leaves-asks : (wanted : Sort) → fits (method_gives method) (proxy_waits y) ≡ true
      → fits (proxy_gives y) wanted ≡ true → Leaves d home wanted (move.Wait (x.Proxy y) asked)
  leaves-asks wanted e g = leaves-wait d home wanted (x.Proxy y) asked h k tt tt (e, g)
