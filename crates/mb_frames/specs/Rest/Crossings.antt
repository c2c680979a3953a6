-- The rest of what waits for another side: a value that crosses stands for the same on both sides.
use Rattle.std.specs.Prelude.{ℕ}
use Rattle.mb_frames.specs.Resolved.{method_in}
use Rattle.mb_frames.specs.Rest.Parts.{with_answer}
use Rattle.mb_model.specs.Objects.Proxies.{trap_got}
use Rattle.mb_model.specs.Task.{Answer, Outcome}
use Rattle.mb_model.specs.Writing.{Does, pass, value_in}
use Rattle.mb_world.specs.Image.{Names, object_in}
use Rattle.mb_frames.specs.declared.crossing.MembraneFrame.{MembraneFrame}
use Rattle.mb_frames.specs.declared.crossing.MembraneFrame.TheVariants as m

abbrev pub membrane_rest : Names → ℕ → MembraneFrame → Outcome → Does Answer
membrane_rest n s m.Crossing o = pass o
membrane_rest n s (m.TrapGot owner target handler method) o =
    with_answer o (λ a. trap_got s owner.0 (object_in n target) (object_in n handler) (method_in n method) (value_in a))
