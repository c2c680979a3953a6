-- Who acts in a function: its owner.
use Rattle.std.specs.Prelude.{None, Option, Some}
use Rattle.mb_base.specs.declared.value.Side.{Side}
use Rattle.mb_world.specs.declared.cell.Cell.{Cell}
use Rattle.mb_world.specs.declared.cell.CellKind.{CellKind}
use Rattle.mb_world.specs.declared.cell.CellKind.TheVariants.{Function}

abbrev pub owner_by : Side → CellKind → Side
owner_by home (Function code) = code.side
owner_by home kind = home

-- the owner of a function; of another object the side that acts already
abbrev pub owner_of : Side → Option Cell → Side
owner_of home None = home
owner_of home (Some c) = owner_by home c.kind
