-- The objects that cells are.
use Rattle.std.specs.Prelude.{◌≡◌, Bool, true, false, Option, Some, None}
use Rattle.mb_base.specs.declared.value.Key.{Key}
use Rattle.mb_desc.specs.declared.descriptor.Full.{Full}
use Rattle.mb_world.specs.declared.cell.CellKind.{CellKind}
use Rattle.mb_world.specs.declared.cell.CellKind.TheVariants.{Proxy, Membrane}
use Rattle.mb_world.specs.declared.cell.Cell.{Cell}
use Rattle.mb_world.specs.Value.{Val}
use Rattle.mb_world.specs.Graph.{Thing}
use Rattle.mb_world.specs.Objects.{own_property}
use Rattle.mb_world.specs.Data.{Data}
use Rattle.mb_world.specs.Image.{names_of, key_in}
pub use Rattle.mb_world.specs.Image.{owner_by, object_of, object_at}

abbrev pub is_ordinary : CellKind → Bool
is_ordinary (Proxy target handler shape) = false
is_ordinary (Membrane behind shadow) = false
is_ordinary kind = true

-- the cell is there, and is neither a script-made Proxy nor a membrane proxy
abbrev pub IsOrdinary : Option Cell → Type 0
IsOrdinary None = ⊥
IsOrdinary (Some c) = is_ordinary c.kind ≡ true

-- the object's own property at a key of the world
abbrev pub property_of : Data → Key → Thing → Option (Full Val)
property_of d key t = own_property (key_in (names_of d) key) t
