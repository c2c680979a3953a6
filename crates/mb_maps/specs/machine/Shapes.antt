-- The shape of an object, as its cell tells it.
use Rattle.std.specs.Prelude.{Bool, true, false}
use Rattle.mb_world.specs.declared.cell.CellKind.{CellKind}
use Rattle.mb_world.specs.declared.cell.CellKind.TheVariants as kind
use Rattle.mb_world.specs.declared.cell.Shape.{Shape}
use Rattle.mb_world.specs.declared.cell.Shape.TheVariants.{Plain, Array, Calls, Constructs}

abbrev pub called : (constructs : Bool) → Shape
called true = Constructs
called false = Calls

abbrev pub shape_by : CellKind → Shape
shape_by kind.Array = Array
shape_by (kind.Function code) = called code.constructs
shape_by (kind.Proxy target handler shape) = shape
shape_by (kind.Revoker proxy) = Calls
shape_by k = Plain
