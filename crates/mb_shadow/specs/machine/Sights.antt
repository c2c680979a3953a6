-- Where what a side sees through a proxy comes from, and what a shadow has at a key.
use Rattle.std.specs.Prelude.{◌<◌, ◌≡◌, ℕ, Bool, true, false, List, Option, Some, None, option_map, All, IfSome, IsSomeAnd, not, if◌then◌else◌}
use Rattle.mb_base.specs.declared.value.ObjId.{ObjId}
use Rattle.mb_base.specs.declared.value.Side.{Side}
use Rattle.mb_base.specs.declared.value.Value.{Value}
use Rattle.mb_desc.specs.declared.descriptor.Full.{Full}
use Rattle.mb_desc.specs.Descriptors.{is_configurable}
use Rattle.mb_desc.specs.View.{View}
use Rattle.mb_view.specs.Views.{property_of}
use Rattle.mb_world.specs.declared.cell.Cell.{Cell}
use Rattle.mb_world.specs.Value.{Val}
use Rattle.mb_world.specs.Key.{PropertyKey, same_key, has_key}
use Rattle.mb_world.specs.Graph.{Thing}
use Rattle.mb_world.specs.View.{shown_property, Shown}
use Rattle.mb_world.specs.Data.{Data, cell_at}
use Rattle.mb_world.specs.Ids.{ValueIn}
use Rattle.mb_world.specs.Image.{Names, names_of, object_at, Resolve}
use Rattle.mb_world.specs.Contained.{IsOwn, in_value, is_shadow}
use Rattle.mb_world.specs.Formed.{InRange}
use Rattle.mb_rules.specs.Seen.{graph_of}
use Rattle.mb_ordinary.specs.Objects.{is_ordinary}
use Rattle.mb_shadow.specs.declared.sight.Sight.{Sight}
use Rattle.mb_shadow.specs.Seeing.{cell_view, home_at}
use Rattle.mb_shadow.specs.Following.{IsAfter}
use Rattle.mb_shadow.specs.declared.part.Part.{Part}

-- a value of a side
pub record IsValueOf (d : Data) (side : Side) (x : Value) : Type 0 where
  pub within : ValueIn d x
  pub own : All (IsOwn d side) (in_value x)
  pub whole : InRange x

abbrev pub IsShadow : Option Cell → Type 0
IsShadow cell = IsSomeAnd cell (λ c. is_shadow c.kind ≡ true)

-- ---- what is seen

-- a property that is there and isn't configurable
abbrev pub is_fixed : Option (Full Value) → Bool
is_fixed None = false
is_fixed (Some property) = not (is_configurable property)

abbrev pub view_of : Data → Sight → Option (View PropertyKey Val)
view_of d s = option_map (Shown (graph_of d) s.viewer.0) (object_at d s.object)

-- what is seen is an object or a built-in, for a side that takes part and has the shadow
pub record IsSight (d : Data) (s : Sight) : Type 0 where
  pub cell : Cell
  pub there : cell_at d s.object ≡ Some cell
  pub ordinary : is_ordinary cell.kind ≡ true
  pub real : is_shadow cell.kind ≡ false
  pub takes_part : s.home.0 < d.sides
  pub viewer_there : s.viewer.0 < d.sides
  pub shadow_there : IsShadow (cell_at d s.shadow)
  pub shadow_home : home_at d s.shadow ≡ s.home

abbrev pub seen_in : Data → ℕ → PropertyKey → Option Thing → Option (Full Val)
seen_in d viewer key None = None
seen_in d viewer key (Some t) = shown_property (graph_of d) viewer t key

-- what is seen at a key
abbrev pub seen_at : Data → Sight → PropertyKey → Option (Full Val)
seen_at d s key = seen_in d s.viewer.0 key (object_at d s.object)

-- ---- what a shadow has

abbrev pub held_in : Names → PropertyKey → Option Cell → Option (Full Val)
held_in n key None = None
held_in n key (Some c) = property_of same_key (cell_view n c) key

-- what a cell has at a key
abbrev pub held_at : Data → ObjId → PropertyKey → Option (Full Val)
held_at d id key = held_in (names_of d) key (cell_at d id)

abbrev pub flagged : Names → Cell → Val × Bool
flagged n c = (Resolve n c.proto, c.extensible)

-- its prototype and whether it is extensible
abbrev pub flags_at : Data → ObjId → Option (Val × Bool)
flags_at d id = option_map (flagged (names_of d)) (cell_at d id)

-- it has this at one key, and else what it had
pub record Held (d d' : Data) (id : ObjId) (at : PropertyKey) (property : Option (Full Val)) : Type 0 where
  pub properties : (key : PropertyKey) → held_at d' id key ≡ (if same_key key at then property else held_at d id key)
  pub flags : flags_at d' id ≡ flags_at d id

-- the shadow has what is seen of these keys, and else what it had
pub record Replaced (d d' : Data) (s : Sight) (keys : List PropertyKey) : Type 0 where
  pub properties : (key : PropertyKey)
      → held_at d' s.shadow key ≡ (if has_key key keys then seen_at d s key else held_at d s.shadow key)
  pub flags : flags_at d' s.shadow ≡ flags_at d s.shadow

-- it has what is seen of every key
pub record ReplacedAll (d d' : Data) (s : Sight) : Type 0 where
  pub properties : (key : PropertyKey) → held_at d' s.shadow key ≡ seen_at d s key
  pub flags : flags_at d' s.shadow ≡ flags_at d s.shadow

-- it followed a part of what is seen
abbrev pub FollowedFrom : Data → Data → Sight → Part → Type 0
FollowedFrom d d' s x = IfSome (view_of d s) (λ view. IfSome (cell_at d s.shadow) (λ before.
    IsSomeAnd (cell_at d' s.shadow) (λ after.
    IsAfter (names_of d) x (cell_view (names_of d) before) view (cell_view (names_of d') after))))
