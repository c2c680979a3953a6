-- What a row reads of a world: the side takes part, its script is a program, and each id is one of the world.
use Rattle.std.specs.Prelude.{◌<◌, ◌≤◌}
use Rattle.mb_base.specs.declared.value.Side.{Side}
use Rattle.mb_frames.specs.Grammatical.{IsProgram}
use Rattle.mb_world.specs.Data.{Data, program_of}
use Rattle.mb_world.specs.Ids.{HasItsIds, Maybe}

pub record CanRun (d : Data) (home : Side) : Type 0 where
  pub sides : d.sides ≤ 8
  pub takes_part : home.0 < d.sides
  pub script : Maybe IsProgram (program_of d home)
  pub ids : HasItsIds d
