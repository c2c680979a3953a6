-- What keeps shadows as they are to be.
use Rattle.std.specs.Prelude.{◌≡◌, ◌⊎◌, List, None, Some, true, false, All}
use Rattle.mb_base.specs.declared.value.ObjId.{ObjId}
use Rattle.mb_desc.specs.View.{View}
use Rattle.mb_text.specs.Texts.{AreDistinct}
use Rattle.mb_view.specs.Views.{property_of, HasDistinctKeys, KeepsFacts}
use Rattle.mb_view.specs.Changes.{Change, AreAllowed, changed_by}
use Rattle.mb_view.specs.Lean.{IsLean}
use Rattle.mb_world.specs.declared.cell.Cell.{Cell}
use Rattle.mb_world.specs.declared.cell.CellKind.{CellKind}
use Rattle.mb_world.specs.declared.cell.CellKind.TheVariants as kind
use Rattle.mb_world.specs.Value.{Val, Undefined, same_value}
use Rattle.mb_world.specs.Key.{PropertyKey, same_key}
use Rattle.mb_world.specs.Graph.{Rule, Entry}
use Rattle.mb_world.specs.Data.{Data, Script, cell_at}
use Rattle.mb_world.specs.Ids.{HasItsIds}
use Rattle.mb_world.specs.Grows.{Grows}
use Rattle.mb_world.specs.Image.{Names, names_of}
use Rattle.mb_world.specs.Contained.{Contained, Paired, PairedFrom}
use Rattle.mb_world.specs.Formed.{FormedBy, is_of_membrane}
use Rattle.mb_rules.specs.Seen.{graph_of}
use Rattle.mb_maps.specs.Crossed.{Crossed}
use Rattle.mb_shadow.specs.declared.part.Part.{Part}
use Rattle.mb_shadow.specs.Seeing.{CanSee, HasConstant, IsProxy, cell_view, shadow_at}
use Rattle.mb_shadow.specs.Following.{IsAfter, HasPart, Followed}
use Rattle.mb_shadow.specs.Shadows.{Shadowed, Lean}

-- ---- the world

-- In a formed world sides see through their proxies, where it isn't joined, each holds only its own and has one proxy
-- for each foreign object.
abbrev pub FormedCanSee : (Script → Type 0) → (List Rule → Type 0) → (Entry → Type 0) → Type 0
FormedCanSee IsProgram AreRules IsEntry = (d : Data) → d.joined ≡ false → AreDistinct d.texts → HasItsIds d
    → FormedBy IsProgram AreRules IsEntry d → Contained d → Paired d → All (λ r. HasConstant r.kind) (graph_of d).rules
    → CanSee d

-- a formed world stays so where a shadow follows
abbrev pub FormedFollows : (Script → Type 0) → (List Rule → Type 0) → (Entry → Type 0) → Type 0
FormedFollows IsProgram AreRules IsEntry = (d d' : Data) (proxy : ObjId) → CanSee d → IsProxy (cell_at d proxy)
    → FormedBy IsProgram AreRules IsEntry d → Followed d d' (shadow_at d proxy) → FormedBy IsProgram AreRules IsEntry d'

-- ---- one shadow

-- the two views are the same but for the order of keys
pub record IsLike (one two : View PropertyKey Val) : Type 0 where
  pub prototype : one.prototype ≡ two.prototype
  pub extensible : one.extensible ≡ two.extensible
  pub properties : (key : PropertyKey) → property_of same_key one key ≡ property_of same_key two key

-- An ordinary object admits changes that make the shadow of before that of after. Its facts hold of the one that
-- followed, whose facts hold of what is seen; it has the part that it followed, and is lean if it was.
pub record Follows (n : Names) (part : Part) (before view after : View PropertyKey Val) : Type 0 where
  pub changes : List (Change PropertyKey Val)
  pub admitted : AreAllowed same_key same_value Undefined changes before
  pub made : IsLike after (changed_by same_key changes before)
  pub evolves : KeepsFacts same_key before after
  pub facts : KeepsFacts same_key after view
  pub has : HasPart n part after view
  pub lean : IsLean same_key before → IsLean same_key after

abbrev pub ShadowsFollow : Type 0
ShadowsFollow = (n : Names) (part : Part) (before view after : View PropertyKey Val) → HasDistinctKeys same_key before
    → HasDistinctKeys same_key view → KeepsFacts same_key before view → IsAfter n part before view after
    → Follows n part before view after

-- ---- all of them

-- crossing adds shadows of which nothing was told
abbrev pub CrossingKeepsShadows : Type 0
CrossingKeepsShadows = (d d' : Data) → HasItsIds d → Paired d → d.joined ≡ false → Crossed d d' → PairedFrom d d'
    → (Shadowed d → Shadowed d') × (Lean d → Lean d')

-- the kind is as it was, but that a script-made Proxy may have lost its target and its handler
abbrev pub KeepsKind : CellKind → CellKind → Type 0
KeepsKind (kind.Proxy (Some target) handler shape) later =
    (later ≡ kind.Proxy (Some target) handler shape) ⊎ (later ≡ kind.Proxy None None shape)
KeepsKind before later = later ≡ before

-- an object that is the same one's, and has all that was fixed of it
pub record KeepsObject (d d' : Data) (c c' : Cell) : Type 0 where
  pub home : c'.home ≡ c.home
  pub label : c'.label ≡ c.label
  pub kind : KeepsKind c.kind c'.kind
  pub facts : KeepsFacts same_key (cell_view (names_of d) c) (cell_view (names_of d') c')

-- objects may have changed, within what is fixed of them, but neither membrane proxies nor shadows, rules nor entries
pub record ObjectsEvolve (d d' : Data) : Type 0 where
  pub rules : d'.rules ≡ d.rules
  pub entries : d'.entries ≡ d.entries
  pub membrane : (id : ObjId) (c : Cell) → is_of_membrane c.kind ≡ true →
      (cell_at d id ≡ Some c → cell_at d' id ≡ Some c) × (cell_at d' id ≡ Some c → cell_at d id ≡ Some c)
  pub resolves : Grows d d'
  pub cells : (id : ObjId) (c : Cell) → cell_at d id ≡ Some c →
      (c' : Cell) × (cell_at d' id ≡ Some c') × KeepsObject d d' c c'

abbrev pub EvolvingKeepsShadows : Type 0
EvolvingKeepsShadows = (d d' : Data) → HasItsIds d → Contained d → Paired d → ObjectsEvolve d d'
    → (Shadowed d → Shadowed d') × (Lean d → Lean d')
