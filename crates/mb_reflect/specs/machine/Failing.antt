-- Error objects that are made.
use Rattle.std.specs.Prelude.{Some, [], false, true, ◌≡◌}
use Rattle.mb_base.specs.declared.value.ObjId.{ObjId}
use Rattle.mb_base.specs.declared.value.Side.{Side}
use Rattle.mb_world.specs.Data.{Data, cell_at, is_array, is_object_cell}
use Rattle.mb_world.specs.declared.cell.Cell.{Cell}

-- an object of that home as it was made
pub record IsBare (d : Data) (home : Side) (id : ObjId) : Type 0 where
  pub cell : Cell
  pub there : cell_at d id ≡ Some cell
  pub home_is : cell.home ≡ home
  pub counted : is_object_cell cell ≡ true
  pub no_array : is_array cell.kind ≡ false
  pub extensible : cell.extensible ≡ true
  pub empty : cell.props ≡ []
