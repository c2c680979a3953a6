-- What the references stand for that a home may hold: each for an object, and no two for the same.
use Rattle.std.specs.Prelude.{All, IfSome, IsSomeAnd, true, ◌≡◌}
use Rattle.mb_base.specs.declared.value.ObjId.{ObjId}
use Rattle.mb_base.specs.declared.value.Value.{Value}
use Rattle.mb_base.specs.declared.value.Value.TheVariants as v
use Rattle.mb_world.specs.Data.{Data, cell_at, is_object_cell}
use Rattle.mb_world.specs.Ids.{Maybe}
use Rattle.mb_world.specs.Image.{names_of, object_in}
use Rattle.mb_world.specs.declared.cell.CellKind.{CellKind}
use Rattle.mb_world.specs.declared.cell.CellKind.TheVariants.{Membrane, Shadow}

-- what stands behind a proxy of the membrane is an object with a number, and no id names a shadow
abbrev pub IsRealKind : Data → CellKind → Type 0
IsRealKind d (Membrane behind shadow) = IsSomeAnd (cell_at d behind) (λ c. is_object_cell c ≡ true)
IsRealKind d (Shadow shape) = ⊥
IsRealKind d kind = Unit {0}

abbrev pub IsRealAt : Data → ObjId → Type 0
IsRealAt d id = IfSome (cell_at d id) (λ c. IsRealKind d c.kind)

abbrev pub IsReal : Data → Value → Type 0
IsReal d (v.Object id) = IsRealAt d id
IsReal d x = Unit {0}

-- so are the values of scopes
abbrev pub HasRealNames : Data → Type 0
HasRealNames d = All (λ s. All (λ b. Maybe (IsReal d) b.value) s.names) d.scopes

-- where these are two objects, and stand for the same, they are the same
abbrev pub AreApart : Data → Value → Value → Type 0
AreApart d x y = (a b : ObjId) → x ≡ v.Object a → y ≡ v.Object b →
    object_in (names_of d) a ≡ object_in (names_of d) b → a ≡ b
