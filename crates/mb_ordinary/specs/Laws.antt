-- The object that a cell is, in the graph for which the world stands.
use Rattle.std.specs.Prelude.{ℕ, ◌≡◌, List, Some, true}
use Rattle.mb_base.specs.declared.value.ObjId.{ObjId}
use Rattle.mb_base.specs.declared.value.Side.{Side}
use Rattle.mb_world.specs.declared.cell.Cell.{Cell}
use Rattle.mb_world.specs.declared.cell.CellKind.TheVariants.{BuiltIn}
use Rattle.mb_world.specs.Graph.{Item}
use Rattle.mb_world.specs.Objects.{thing_at}
use Rattle.mb_world.specs.Data.{Data, cell_at, is_object_cell, built_in_of}
use Rattle.mb_world.specs.Image.{names_of, object_in, Image}
use Rattle.mb_world.specs.Formed.{HasBuiltIn}
use Rattle.mb_ordinary.specs.Objects.{object_at}

-- it is the one that a reference to the cell stands for
abbrev pub IsTheObject : Data → ObjId → List Item → Type 0
IsTheObject d o log = object_at d o ≡ thing_at (Image d log) (object_in (names_of d) o)

-- where the cell has a number
abbrev pub OfNumbered : Type 0
OfNumbered = (d : Data) (o : ObjId) (c : Cell) (log : List Item) → cell_at d o ≡ Some c →
    is_object_cell c ≡ true → IsTheObject d o log

-- where it is a side's built-in, in a world that has its built-ins
abbrev pub OfBuiltIn : Type 0
OfBuiltIn = (d : Data) (o : ObjId) (c : Cell) (log : List Item) (side : Side) (place : ℕ) → cell_at d o ≡ Some c →
    c.kind ≡ BuiltIn place → built_in_of d.joined d.cells side place ≡ Some o → HasBuiltIn d side place →
    IsTheObject d o log
