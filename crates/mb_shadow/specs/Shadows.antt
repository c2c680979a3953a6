-- What shadows keep of what sides saw and of what entries told.
use Rattle.std.specs.Prelude.{◌≡◌, List, map, Some}
use Rattle.std.specs.List.{AllByRecursion}
use Rattle.mb_base.specs.declared.value.ObjId.{ObjId}
use Rattle.mb_base.specs.declared.value.Side.{Side}
use Rattle.mb_desc.specs.View.{View}
use Rattle.mb_view.specs.Views.{KeepsFacts}
use Rattle.mb_view.specs.Promises.{Fact, Holds}
use Rattle.mb_view.specs.Entries.{Told}
use Rattle.mb_view.specs.Lean.{IsLean}
use Rattle.mb_world.specs.declared.cell.Cell.{Cell}
use Rattle.mb_world.specs.declared.cell.Shape.{Shape}
use Rattle.mb_world.specs.declared.cell.CellKind.TheVariants.{Shadow}
use Rattle.mb_world.specs.Value.{Val}
use Rattle.mb_world.specs.Key.{PropertyKey, same_key}
use Rattle.mb_world.specs.Data.{Data, cell_at}
use Rattle.mb_world.specs.Image.{names_of, number_at, entries_in}
use Rattle.mb_world.specs.Contained.{IsMembrane}
use Rattle.mb_model.specs.Trace.Lawful.{deed_of}
use Rattle.mb_shadow.specs.Seeing.{cell_view, view_through}

-- what the entries of a side on an object tell of it
abbrev pub told_of : Data → Side → ObjId → List (Fact PropertyKey Val)
told_of d side object = Told (map deed_of (entries_in d)) side.0 (number_at (names_of d) object.0)

-- Each fixed fact of the shadow holds of what is seen, and each fact that was told holds of the shadow
-- (ECMA-262, 6.1.7.3).
pub record IsFaithful (d : Data) (side : Side) (object : ObjId) (shadow view : View PropertyKey Val) : Type 0 where
  pub facts : KeepsFacts same_key shadow view
  pub told : AllByRecursion (λ fact. Holds same_key fact shadow) (told_of d side object)

-- so it is for each membrane proxy through which something is seen
abbrev pub Shadowed : Data → Type 0
Shadowed d = (proxy behind shadow : ObjId) (side : Side) (c : Cell) (view : View PropertyKey Val)
    → IsMembrane d proxy side behind shadow → cell_at d shadow ≡ Some c → view_through d proxy ≡ Some view
    → IsFaithful d side behind (cell_view (names_of d) c) view

-- no extensible shadow has a configurable property
abbrev pub Lean : Data → Type 0
Lean d = (id : ObjId) (c : Cell) (shape : Shape) → cell_at d id ≡ Some c → c.kind ≡ Shadow shape
    → IsLean same_key (cell_view (names_of d) c)
