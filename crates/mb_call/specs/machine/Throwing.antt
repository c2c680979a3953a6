-- Moves that throw.
use Rattle.std.specs.Prelude.{◌≡◌}
use Rattle.mb_base.specs.declared.value.Value.{Value}
use Rattle.mb_frames.specs.declared.frame.Move.{Move}
use Rattle.mb_frames.specs.declared.frame.Move.TheVariants as move
use Rattle.mb_frames.specs.declared.task.Outcome.TheVariants as o

abbrev pub Throws : Move → Type 0
Throws m = (x : Value) × (m ≡ move.Done (o.Throw x))
