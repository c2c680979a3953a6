-- What a side sees through its membrane proxies, and what is asked of a world for that.
use Rattle.std.specs.Prelude.{ℕ, ◌≡◌, Bool, true, false, map, Option, Some, None, option_map, All, IsSomeAnd}
use Rattle.mb_base.specs.declared.value.ObjId.{ObjId}
use Rattle.mb_base.specs.declared.value.Side.{Side}
use Rattle.mb_base.specs.declared.value.Value.{Value}
use Rattle.mb_desc.specs.declared.descriptor.Full.{Full}
use Rattle.mb_desc.specs.View.{View}
use Rattle.mb_text.specs.Texts.{AreDistinct}
use Rattle.mb_world.specs.declared.cell.Cell.{Cell}
use Rattle.mb_world.specs.declared.cell.CellKind.{CellKind}
use Rattle.mb_world.specs.declared.cell.CellKind.TheVariants.{Membrane, BuiltIn}
use Rattle.mb_world.specs.Value.{Val, Truth, Whole, Text}
use Rattle.mb_world.specs.Key.{PropertyKey}
use Rattle.mb_world.specs.Graph.{RuleKind, Substitute}
use Rattle.mb_world.specs.Standard.{standard_at}
use Rattle.mb_world.specs.View.{ViewOf}
use Rattle.mb_world.specs.Data.{Data, cell_at}
use Rattle.mb_world.specs.Ids.{HasItsIds, FullIn}
use Rattle.mb_world.specs.Image.{Names, names_of, object_in, Resolve, key_in, full_in, thing_in}
use Rattle.mb_world.specs.Contained.{IsOwn, in_full}
use Rattle.mb_world.specs.Formed.{FormedCell, as_standard, HasItsCallables, InRange, full_values, is_whole}
use Rattle.mb_rules.specs.Seen.{graph_of}
use Rattle.mb_maps.specs.Crossed.{CanCross}

-- ---- proxies

abbrev pub is_membrane : CellKind → Bool
is_membrane (Membrane behind shadow) = true
is_membrane kind = false

-- the cell is a membrane proxy
abbrev pub IsProxy : Option Cell → Type 0
IsProxy cell = IsSomeAnd cell (λ c. is_membrane c.kind ≡ true)

abbrev pub home_in : Option Cell → Side
home_in None = record { 0 = 0 }
home_in (Some c) = c.home

-- the side that owns a cell
abbrev pub home_at : Data → ObjId → Side
home_at d id = home_in (cell_at d id)

abbrev pub shadow_by : ObjId → CellKind → ObjId
shadow_by id (Membrane behind shadow) = shadow
shadow_by id kind = id

abbrev pub shadow_in : ObjId → Option Cell → ObjId
shadow_in id None = id
shadow_in id (Some c) = shadow_by id c.kind

-- the shadow of a proxy
abbrev pub shadow_at : Data → ObjId → ObjId
shadow_at d proxy = shadow_in proxy (cell_at d proxy)

-- ---- views

-- what a cell has, without owner, label and kind
abbrev pub cell_view : Names → Cell → View PropertyKey Val
cell_view n c = record {
  prototype = Resolve n c.proto;
  extensible = c.extensible;
  properties = map (λ p. (key_in n p.0, full_in n p.1)) c.props;
}

-- what the shadow of a proxy has
abbrev pub shadow_view : Data → ObjId → Option (View PropertyKey Val)
shadow_view d proxy = option_map (cell_view (names_of d)) (cell_at d (shadow_at d proxy))

-- What the home of a proxy sees through it: the object behind as the policy shows it. Where that is a script-made
-- Proxy, its owner's view of the target, and nothing once the target is gone.
abbrev pub view_through : Data → ObjId → Option (View PropertyKey Val)
view_through d proxy = ViewOf (graph_of d) (home_at d proxy).0 (object_in (names_of d) proxy)

-- ---- what a side gets to see

-- a property whose references are the side's own, as they stand in a world that is formed
pub record IsPropertyOf (d : Data) (side : Side) (property : Full Value) : Type 0 where
  pub within : FullIn d property
  pub own : All (IsOwn d side) (in_full property)
  pub callables : HasItsCallables d property
  pub wholes : All InRange (full_values property)

-- ---- the world

-- a constant of a rule is a truth value, a text or a whole number
abbrev pub IsConstant : Val → Type 0
IsConstant (Truth b) = Unit {0}
IsConstant (Whole z) = is_whole z ≡ true
IsConstant (Text units) = Unit {0}
IsConstant x = ⊥

abbrev pub HasConstant : RuleKind → Type 0
HasConstant (Substitute key x) = IsConstant x
HasConstant kind = Unit {0}

-- each built-in is as the table has it
abbrev pub AreStandard : Data → Type 0
AreStandard d = (id : ObjId) (c : Cell) (place : ℕ) → cell_at d id ≡ Some c → c.kind ≡ BuiltIn place
    → Some (as_standard (thing_in (names_of d) c)) ≡ standard_at place

-- a world in which sides see through their proxies: it isn't joined, and as worlds are between the steps of a machine
pub record CanSee (d : Data) : Type 0 where
  pub texts : AreDistinct d.texts
  pub ids : HasItsIds d
  pub apart : d.joined ≡ false
  pub can_cross : CanCross d
  pub cells : All (FormedCell d) d.cells
  pub standard : AreStandard d
  pub constants : All (λ rule. HasConstant rule.kind) (graph_of d).rules
