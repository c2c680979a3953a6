-- Which tasks make an entry: methods of another side's object that are to enter one.
use Rattle.std.specs.Prelude.{Bool, List, None, Option, Some, false, if◌then◌else◌, not, true, ◌≡◌}
use Rattle.mb_base.specs.declared.value.Side.{Side}
use Rattle.mb_frames.specs.Wholeness.{IsProxyAt}
use Rattle.mb_frames.specs.declared.task.Task.{Task}
use Rattle.mb_frames.specs.declared.task.Task.TheVariants as t
use Rattle.mb_model.specs.Trace.Entries.{is_foreign_at}
use Rattle.mb_world.specs.Data.{Data, cell_at, same_side}
use Rattle.mb_world.specs.Graph.{Item}
use Rattle.mb_world.specs.Image.{Image, names_of, object_in}
use Rattle.mb_world.specs.Objects.{thing_at}
use Rattle.mb_world.specs.declared.cell.Cell.{Cell}
use Rattle.mb_world.specs.declared.cell.CellKind.{CellKind}
use Rattle.mb_world.specs.declared.cell.CellKind.TheVariants.{BuiltIn}

abbrev pub IsMethodTask : Task → Type 0
IsMethodTask (t.Perform method object viewer enters) = Unit {0}
IsMethodTask task = ⊥

abbrev pub is_built_in : CellKind → Bool
is_built_in (BuiltIn place) = true
is_built_in kind = false

-- another side owns the object; a built-in is of every side
abbrev pub is_of_another : Side → Option Cell → Bool
is_of_another home None = false
is_of_another home (Some c) = if is_built_in c.kind then false else not (same_side c.home home)

-- the method makes an entry, which stands below it
abbrev pub is_due : Data → Side → Task → Bool
is_due d home (t.Perform method object viewer true) = is_of_another home (cell_at d object)
is_due d home task = false

-- it enters, and its object stands for one of another side: held as it is in a joined world, else by a membrane proxy
abbrev pub IsForeignTask : Data → Side → Task → Type 0
IsForeignTask d home (t.Perform method object viewer true) =
    ((log : List Item) → is_foreign_at home.0 (thing_at (Image d log) (object_in (names_of d) object)) ≡ true) ×
    (d.joined ≡ false → IsProxyAt d home object)
IsForeignTask d home task = ⊥
