-- A side that acts in a ready world.
use Rattle.std.specs.Prelude.{List, ◌<◌}
use Rattle.mb_base.specs.declared.value.Side.{Side}
use Rattle.mb_frames.specs.Held.{Held}
use Rattle.mb_frames.specs.Ready.{Holds, IsReady}
use Rattle.mb_world.specs.Data.{Data}

-- the side takes part, and holds these
pub record Acting (d : Data) (home : Side) (held : List Held) : Type 0 where
  pub ready : IsReady d
  pub takes_part : home.0 < d.sides
  pub holds : Holds d home held
