-- What references stand for.
use Rattle.std.specs.Prelude.{◌≡◌, ◌++◌, All, Bool, IsSomeAnd, List, None, Option, Some, [], ◌∷◌, false, true}
use Rattle.mb_base.specs.declared.value.ObjId.{ObjId}
use Rattle.mb_base.specs.declared.value.Value.{Value}
use Rattle.mb_world.specs.declared.cell.CellKind.{CellKind}
use Rattle.mb_world.specs.declared.cell.CellKind.TheVariants.{BuiltIn, Membrane}
use Rattle.mb_desc.specs.declared.descriptor.Full.{Full}
use Rattle.mb_frames.specs.Held.{Held, HeldDesc, HeldPrototype, HeldReal, HeldValue, HeldValues}
use Rattle.mb_frames.specs.Real.{IsReal}
use Rattle.mb_frames.specs.Wholeness.{desc_values}
use Rattle.mb_world.specs.Data.{Data, cell_at, is_counted, is_object_cell, kind_stand}
use Rattle.mb_world.specs.Formed.{full_values}
use Rattle.mb_world.specs.declared.cell.Cell.{Cell}

-- a mark that is there and set
abbrev pub mark_of : Option Bool → Bool
mark_of None = false
mark_of (Some mark) = mark

abbrev pub AreReal : Data → List Value → Type 0
AreReal d xs = All (IsReal d) xs

-- the id names an object with a number
abbrev pub IsCounted : Data → ObjId → Type 0
IsCounted d id = IsSomeAnd (cell_at d id) (λ c. is_object_cell c ≡ true)

-- or a built-in
abbrev pub is_named : CellKind → Bool
is_named (BuiltIn place) = true
is_named kind = is_counted (kind_stand kind)

abbrev pub IsNumbered : Data → ObjId → Type 0
IsNumbered d id = IsSomeAnd (cell_at d id) (λ c. is_named c.kind ≡ true)

-- the object that a reference stands for: that behind a membrane proxy
abbrev pub real_by : ObjId → CellKind → ObjId
real_by id (Membrane behind shadow) = behind
real_by id kind = id

abbrev pub real_of : ObjId → Option Cell → ObjId
real_of id None = id
real_of id (Some c) = real_by id c.kind

abbrev pub real : Data → ObjId → ObjId
real d id = real_of id (cell_at d id)

-- ---- the values that stand in what is held

abbrev pub real_values : Option (Full Value) → List Value
real_values None = []
real_values (Some full) = full_values full

abbrev pub values_in_one : Held → List Value
values_in_one (HeldValue x) = x ∷ []
values_in_one (HeldPrototype x) = x ∷ []
values_in_one (HeldValues xs) = xs
values_in_one (HeldDesc given) = desc_values given
values_in_one (HeldReal full) = real_values full
values_in_one held = []

abbrev pub values_held : List Held → List Value
values_held [] = []
values_held (p ∷ held) = values_in_one p ++ values_held held
