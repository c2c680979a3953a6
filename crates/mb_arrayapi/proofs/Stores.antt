-- An element is stored, and a loop goes on behind the one at hand.
use Rattle.std.proofs.Common.{◌+◌, ◌∙◌, ◌≡◌, Ok, Result, ap, sym, ℕ}
use Rattle.mb_arrayapi.proofs.Grown.{turns-grow}
use Rattle.mb_arrayapi.specs.declared.turns.Elements.{Elements}
use Rattle.mb_arrayapi.specs.machine.Turning.{elements_held, rest_after, turns_from}
use Rattle.mb_base.specs.declared.value.Side.{Side}
use Rattle.mb_parts.specs.Storing.{Stores}
use Rattle.mb_frames.proofs.Going.{WentOn-free, WentOn-passes}
use Rattle.mb_frames.proofs.Passed.{Part-by, Part-passed}
use Rattle.mb_frames.specs.Held.{AreIn}
use Rattle.mb_frames.specs.Passing.{Part}
use Rattle.mb_frames.specs.declared.frame.Move.{Move}
use Rattle.mb_frames.specs.declared.machine.Halt.{Halt}
use Rattle.mb_model.specs.Meaning.{finished}
use Rattle.mb_model.specs.Task.{Answer}
use Rattle.mb_model.specs.Writing.{◌>>=◌, Does}
use Rattle.mb_world.specs.Data.{Data}
use Rattle.mb_world.specs.Grows.{Grows}
use Rattle.mb_world.specs.Image.{Image, names_of, object_in}
use Rattle.mb_world.specs.Value.{Val}

pub after-grows : (d d' : Data) → Grows d d' → (s : ℕ) (at : Elements) → AreIn d (elements_held at)
    → rest_after (names_of d) s at ≡ rest_after (names_of d') s at
after-grows d d' g s at h =
    sym (ap (λ (o : Val). turns_from (names_of d') s o at.turn (at.place + 1) at.left) (g.same_object at.object h.0)
    ∙ turns-grow d d' g s (object_in (names_of d) at.object) at.turn h.1 (at.place + 1) at.left)

-- what is behind the element goes on in the world in which it was stored
pub Part-stored : (home : Side) (r : Result Move Halt) (d d' d2 : Data) (f f' : ℕ) (at : Elements) (p : Does Answer)
    → Stores (Ok tt) d d' p → AreIn d (elements_held at)
    → Part home r d' d2 f f' (rest_after (names_of d') home.0 at finished)
    → Part home r d d2 f f' ((p >>= (λ b. rest_after (names_of d) home.0 at)) finished)
Part-stored home r d d' d2 f f' at p q h part =
    let k : Does Answer = rest_after (names_of d) home.0 at in
    Part-passed home r d d' d2 f f f' ((p >>= (λ b. k)) finished) (k finished)
    (WentOn-passes Answer d d' f f p q.0 (λ b. k finished) (WentOn-free Answer d d' f p q.0 q.1))
    (Part-by home r d' d2 f f' (k finished) (rest_after (names_of d') home.0 at finished)
    (λ log. ap (λ (y : Does Answer). y finished (Image d' log)) (after-grows d d' q.1.grew.grows home.0 at h)) part)
