-- What crossing asks of a world, and what it leaves.
use Rattle.std.specs.Prelude.{ℕ, ◌<◌, ◌≤◌, ◌≡◌, [], length, true, false, is_some, Some}
use Rattle.mb_base.specs.declared.value.Side.{Side}
use Rattle.mb_base.specs.declared.value.ObjId.{ObjId}
use Rattle.mb_world.specs.declared.cell.CellKind.{CellKind}
use Rattle.mb_world.specs.declared.cell.CellKind.TheVariants.{Membrane, Shadow}
use Rattle.mb_world.specs.declared.cell.Cell.{Cell}
use Rattle.mb_world.specs.Data.{Data, AtPlace, stand, cell_at, built_in_of}
use Rattle.mb_world.specs.Ids.{CellIn}
use Rattle.mb_world.specs.Contained.{Contained, Paired}
use Rattle.mb_world.specs.Formed.{FormedCell}
use Rattle.mb_world.specs.Laws.{Becomes, same_graph}

-- what a built-in of one side is, each side that takes part has too
abbrev pub AreShared : Data → Type 0
AreShared d = (id : ObjId) (c : Cell) (place : ℕ) (side : Side) → cell_at d id ≡ Some c → stand c ≡ AtPlace place
    → side.0 < d.sides → is_some (built_in_of false d.cells side place) ≡ true

-- a world in which values may cross: each side holds only its own, has one proxy for each foreign object, and its own
-- built-ins
pub record CanCross (d : Data) : Type 0 where
  pub sides : d.sides ≤ 8
  pub contained : Contained d
  pub paired : Paired d
  pub built_ins : AreShared d

-- each cell is as it was
abbrev pub KeepsCells : Data → Data → Type 0
KeepsCells d d' = (id : ObjId) (c : Cell) → cell_at d id ≡ Some c → cell_at d' id ≡ Some c

-- it is a new shadow, which is extensible and without properties, or a membrane proxy with such a shadow
abbrev pub IsNew : Data → Cell → CellKind → Type 0
IsNew d c (Shadow shape) = (c.extensible ≡ true) × (c.props ≡ [])
IsNew d c (Membrane behind shadow) = length d.cells ≤ shadow.0
IsNew d c kind = ⊥

-- each cell that wasn't there before is such a one, and formed
pub record IsAdded (d d' : Data) (c : Cell) : Type 0 where
  pub new : IsNew d c c.kind
  pub within : CellIn d' c
  pub formed : FormedCell d' c

-- Crossing leaves each cell as it was, and all else too, but that a refusal halts the world. It adds nothing but
-- proxies with their shadows, so the graph stays, and each id stands for what it stood for.
pub record Crossed (d d' : Data) : Type 0 where
  pub cells : KeepsCells d d'
  pub rest : d' ≡ record d { cells = d'.cells; halted = d'.halted }
  pub added : (id : ObjId) (c : Cell) → length d.cells ≤ id.0 → cell_at d' id ≡ Some c → IsAdded d d' c
  pub becomes : Becomes d d' same_graph
  pub can_cross : CanCross d → CanCross d'
