-- What a shadow becomes that follows a part of what is seen, and what stays of the world.
use Rattle.std.specs.Prelude.{◌≤◌, ◌≡◌, ◌≢◌, ◌&&◌, Bool, true, false, length, Option, Some, None, IfSome, IsSomeAnd, if◌then◌else◌}
use Rattle.mb_base.specs.declared.value.ObjId.{ObjId}
use Rattle.mb_desc.specs.declared.descriptor.Full.{Full}
use Rattle.mb_desc.specs.Descriptors.{is_configurable}
use Rattle.mb_desc.specs.View.{View}
use Rattle.mb_view.specs.Views.{property_of}
use Rattle.mb_view.specs.Lean.{HasKey, HasWhole}
use Rattle.mb_world.specs.declared.cell.Cell.{Cell}
use Rattle.mb_world.specs.Value.{Val}
use Rattle.mb_world.specs.Key.{PropertyKey, same_key}
use Rattle.mb_world.specs.Data.{Data, cell_at}
use Rattle.mb_world.specs.Ids.{KeyIn}
use Rattle.mb_world.specs.Image.{Names, names_of, key_in}
use Rattle.mb_world.specs.Laws.{Becomes, same_graph}
use Rattle.mb_maps.specs.Crossed.{IsAdded}
use Rattle.mb_shadow.specs.declared.part.Part.{Part}
use Rattle.mb_shadow.specs.declared.part.Part.TheVariants as part
use Rattle.mb_shadow.specs.Seeing.{CanSee, shadow_view, view_through}

abbrev pub PartIn : Data → Part → Type 0
PartIn d (part.Key key) = KeyIn d key
PartIn d part.Whole = Unit {0}

-- ---- the shadow

-- what a shadow has at a key that it followed: an extensible one what is seen, if that isn't configurable, and else
-- what it had; one that isn't extensible what is seen
abbrev pub kept : (extensible : Bool) → (seen had : Option (Full Val)) → Option (Full Val)
kept true None had = had
kept true (Some property) had = if is_configurable property then had else Some property
kept false seen had = seen

-- A shadow that followed a key changed at that key alone. One that followed the whole is what is seen, if that isn't
-- extensible, and else what it was.
abbrev pub property_after : Names → Part → (shadow view : View PropertyKey Val) → PropertyKey → Option (Full Val)
property_after n (part.Key followed) shadow view key =
    if same_key key (key_in n followed)
    then kept shadow.extensible (property_of same_key view key) (property_of same_key shadow key)
    else property_of same_key shadow key
property_after n part.Whole shadow view key =
    if view.extensible then property_of same_key shadow key else property_of same_key view key

abbrev pub extensible_after : Part → (shadow view : View PropertyKey Val) → Bool
extensible_after (part.Key followed) shadow view = shadow.extensible
extensible_after part.Whole shadow view = shadow.extensible && view.extensible

abbrev pub prototype_after : Part → (shadow view : View PropertyKey Val) → Val
prototype_after (part.Key followed) shadow view = shadow.prototype
prototype_after part.Whole shadow view = if view.extensible then shadow.prototype else view.prototype

-- what the shadow has afterwards, in whatever order of keys
pub record IsAfter (n : Names) (x : Part) (before view after : View PropertyKey Val) : Type 0 where
  pub properties : (key : PropertyKey) → property_of same_key after key ≡ property_after n x before view key
  pub extensible : after.extensible ≡ extensible_after x before view
  pub prototype : after.prototype ≡ prototype_after x before view

abbrev pub IsFollowed : Data → Data → ObjId → Part → Type 0
IsFollowed d d' proxy x = IfSome (view_through d proxy) (λ view. IfSome (shadow_view d proxy) (λ before.
    IsSomeAnd (shadow_view d' proxy) (IsAfter (names_of d) x before view)))

-- the shadow has that part of what is seen
abbrev pub HasPart : Names → Part → (shadow view : View PropertyKey Val) → Type 0
HasPart n (part.Key key) shadow view = HasKey same_key (key_in n key) shadow view
HasPart n part.Whole shadow view = HasWhole same_key shadow view

-- ---- the world

-- the cell is still that one's, with another prototype or other properties, or closed
pub record KeepsShadow (c c' : Cell) : Type 0 where
  pub home : c'.home ≡ c.home
  pub kind : c'.kind ≡ c.kind
  pub label : c'.label ≡ c.label
  pub slots : c'.slots ≡ c.slots

-- Following leaves every cell but that shadow as it was, and all else too, but that a refusal halts the world. It adds
-- nothing but proxies with their shadows, so the graph stays, and each id stands for what it stood for.
pub record Followed (d d' : Data) (shadow : ObjId) : Type 0 where
  pub cells : (id : ObjId) (c : Cell) → id ≢ shadow → cell_at d id ≡ Some c → cell_at d' id ≡ Some c
  pub shadow_stays : (c : Cell) → cell_at d shadow ≡ Some c
      → (c' : Cell) × (cell_at d' shadow ≡ Some c') × KeepsShadow c c'
  pub rest : d' ≡ record d { cells = d'.cells; halted = d'.halted }
  pub added : (id : ObjId) (c : Cell) → length d.cells ≤ id.0 → cell_at d' id ≡ Some c → IsAdded d d' c
  pub becomes : Becomes d d' same_graph
  pub can_see : CanSee d'
