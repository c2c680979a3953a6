-- What a side has for a value of another side, and the world once that value has crossed.
use Rattle.std.specs.Prelude.{◌≡◌, ◌⊎◌, List, length, All, Bool, true, false, Option, Some, None, unwrap_or, option_map, IsSomeAnd}
use Rattle.mb_base.specs.declared.value.Side.{Side}
use Rattle.mb_base.specs.declared.value.ObjId.{ObjId}
use Rattle.mb_base.specs.declared.value.Value.{Value}
use Rattle.mb_base.specs.declared.value.Value.TheVariants as v
use Rattle.mb_desc.specs.declared.descriptor.Full.{Full}
use Rattle.mb_desc.specs.declared.descriptor.Full.TheVariants.{Datum, Accessor}
use Rattle.mb_world.specs.declared.cell.CellKind.{CellKind}
use Rattle.mb_world.specs.declared.cell.CellKind.TheVariants.{Membrane, Shadow}
use Rattle.mb_world.specs.declared.cell.Cell.{Cell}
use Rattle.mb_world.specs.Objects.{shape_of_thing}
use Rattle.mb_world.specs.Data.{Data, Stand, AtPlace, stand, cell_at, same_side, proxy_in, built_in_of, made, obj_id}
use Rattle.mb_world.specs.Contained.{in_value, in_full, is_shadow}
use Rattle.mb_world.specs.Formed.{thing_of}

-- ---- what is meant

abbrev pub behind_of : CellKind → Option ObjId
behind_of (Membrane behind shadow) = Some behind
behind_of kind = None

abbrev pub behind_in : Option Cell → Option ObjId
behind_in None = None
behind_in (Some c) = behind_of c.kind

-- the object behind a membrane proxy
abbrev pub behind_at : Data → ObjId → Option ObjId
behind_at d id = behind_in (cell_at d id)

-- the object that an id means: of a membrane proxy the one behind it
abbrev pub meant : Data → ObjId → ObjId
meant d id = unwrap_or (behind_at d id) id

-- ---- what a side has for it

-- for a built-in its own of the same place, for its own object that object, and for any other its proxy, if there is
-- one
abbrev pub object_by : List Cell → Side → ObjId → (own : Bool) → Stand → Option ObjId
object_by cells side id own (AtPlace place) = built_in_of false cells side place
object_by cells side id true stands = Some id
object_by cells side id false stands = proxy_in cells side id

abbrev pub object_if : List Cell → Side → ObjId → Option Cell → Option ObjId
object_if cells side id None = None
object_if cells side id (Some c) = object_by cells side id (same_side c.home side) (stand c)

-- what a side has for an object that is no membrane proxy
abbrev pub object_for : Data → Side → ObjId → Option ObjId
object_for d side id = object_if d.cells side id (cell_at d id)

abbrev pub counterpart_if : (joined : Bool) → Data → Side → Value → Option Value
counterpart_if false d side (v.Object id) = option_map (λ o. v.Object o) (object_for d side (meant d id))
counterpart_if joined d side x = Some x

-- What a side has for a value: for a primitive the primitive, for a reference what it has for the object that is meant.
-- In a joined world every value is its own counterpart.
abbrev pub counterpart : Data → Side → Value → Option Value
counterpart d side x = counterpart_if d.joined d side x

-- ---- the world once it crossed

-- a new proxy's shadow: it is called, constructs or is an array as the object behind is
abbrev pub with_shadow : Data → Side → ObjId → Data
with_shadow d side id = made d side (Shadow (shape_of_thing (thing_of d id))) v.Null None

-- the side has a proxy of that object, the last cell, and right before it the shadow of the proxy
abbrev pub with_proxy : Data → Side → ObjId → Data
with_proxy d side id = made (with_shadow d side id) side (Membrane id (obj_id (length d.cells))) v.Null None

abbrev pub with_proxy_of : Data → Side → Value → Data
with_proxy_of d side (v.Object id) = with_proxy d side (meant d id)
with_proxy_of d side x = d

abbrev pub with_shadow_of : Data → Side → Value → Data
with_shadow_of d side (v.Object id) = with_shadow d side (meant d id)
with_shadow_of d side x = d

abbrev pub crossed_if : Option Value → Data → Side → Value → Data
crossed_if (Some own) d side x = d
crossed_if None d side x = with_proxy_of d side x

-- the world as it was where the side has the value's counterpart, and else with the proxy that was wanting
unfoldable pub crossed : Data → Side → Value → Data
crossed d side x = crossed_if (counterpart d side x) d side x

abbrev pub halted : Data → Data
halted d = record d { halted = true }

-- a refusal halts the world; the shadow of a proxy that couldn't be made may be there
abbrev pub IsRefused : Data → Data → Side → Value → Type 0
IsRefused d d' side x = (d' ≡ halted d) ⊎ (d' ≡ halted (with_shadow_of d side x))

-- ---- what may cross

-- the cell is of another home, and no shadow
abbrev pub IsOfAnother : Data → Side → ObjId → Type 0
IsOfAnother d side o = IsSomeAnd (cell_at d o) (λ c. (same_side c.home side ≡ false) × (is_shadow c.kind ≡ false))

-- the reference in a value, if it has one, is another side's
abbrev pub IsForeign : Data → Side → Value → Type 0
IsForeign d side x = All (IsOfAnother d side) (in_value x)

-- ---- a whole property

abbrev pub accessor_of : (enumerable configurable : Bool) → (get set : Option Value) → Option (Full Value)
accessor_of e c (Some get) (Some set) = Some (Accessor get set e c)
accessor_of e c get set = None

-- what a side has for a whole property: what it has for the value, or for the getter and the setter
abbrev pub full_counterpart : Data → Side → Full Value → Option (Full Value)
full_counterpart d side (Datum x w e c) = option_map (λ y. Datum y w e c) (counterpart d side x)
full_counterpart d side (Accessor get set e c) = accessor_of e c (counterpart d side get) (counterpart d side set)

-- the world once it crossed, the getter before the setter
abbrev pub full_crossed : Data → Side → Full Value → Data
full_crossed d side (Datum x w e c) = crossed d side x
full_crossed d side (Accessor get set e c) = crossed (crossed d side get) side set

abbrev pub IsFullRefused : Data → Data → Side → Full Value → Type 0
IsFullRefused d d' side (Datum x w e c) = IsRefused d d' side x
IsFullRefused d d' side (Accessor get set e c) =
    IsRefused d d' side get ⊎ IsRefused (crossed d side get) d' side set

-- the references in a property, if it has any, are another side's
abbrev pub IsFullForeign : Data → Side → Full Value → Type 0
IsFullForeign d side full = All (IsOfAnother d side) (in_full full)
