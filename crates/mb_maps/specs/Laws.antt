-- What holds of crossing, for as long as a world goes on.
use Rattle.std.specs.Prelude.{◌≡◌, List, All, Some, false}
use Rattle.mb_base.specs.declared.value.Side.{Side}
use Rattle.mb_base.specs.declared.value.ObjId.{ObjId}
use Rattle.mb_base.specs.declared.value.Value.{Value}
use Rattle.mb_world.specs.declared.cell.Cell.{Cell}
use Rattle.mb_world.specs.Graph as graph
use Rattle.mb_world.specs.Data.{Data, Script, stand, cell_at}
use Rattle.mb_world.specs.Ids.{HasItsIds, ValueIn}
use Rattle.mb_world.specs.Contained.{Contained, Paired, IsOwn, PairedFrom, in_value}
use Rattle.mb_world.specs.Formed.{FormedBy}
use Rattle.mb_world.specs.Image.{names_of, Resolve}
use Rattle.mb_maps.specs.Crossing.{counterpart}
use Rattle.mb_maps.specs.Crossed.{CanCross, Crossed}

-- whose a cell is and what it stands for stays
pub record StaysSo (c c' : Cell) : Type 0 where
  pub home : c'.home ≡ c.home
  pub stands : stand c' ≡ stand c

-- a later world: cells go on standing for what they stood for, and each proxy is still there
pub record IsLater (d d' : Data) : Type 0 where
  pub joined : d'.joined ≡ d.joined
  pub cells : (id : ObjId) (c : Cell) → cell_at d id ≡ Some c → (c' : Cell) × (cell_at d' id ≡ Some c') × StaysSo c c'
  pub paired : PairedFrom d d'
  pub can_cross : CanCross d'

-- what a side has for a value is the side's own, stands for the same, and for it the value's side has the value
pub record IsCounterpart (d : Data) (from to : Side) (x y : Value) : Type 0 where
  pub own : All (IsOwn d to) (in_value y)
  pub meaning : Resolve (names_of d) y ≡ Resolve (names_of d) x
  pub back : counterpart d from y ≡ Some x

abbrev pub BackIsWhatWasGiven : Type 0
BackIsWhatWasGiven = (d : Data) (from to : Side) (x y : Value) → d.joined ≡ false → CanCross d → ValueIn d x
    → All (IsOwn d from) (in_value x) → counterpart d to x ≡ Some y → IsCounterpart d from to x y

-- and it stays what the side has for that value
abbrev pub CounterpartsStay : Type 0
CounterpartsStay = (d d' : Data) (to : Side) (x y : Value) → CanCross d → IsLater d d' → ValueIn d x
    → counterpart d to x ≡ Some y → counterpart d' to x ≡ Some y

-- nothing crosses, or first one value and then another
pub record CrossedInSteps : Type 0 where
  pub same : (d : Data) → Crossed d d
  pub then : (one two three : Data) → Crossed one two → Crossed two three → Crossed one three

-- a formed world stays so where values cross
abbrev pub FormedStays : (Script → Type 0) → (List graph.Rule → Type 0) → (graph.Entry → Type 0) → Type 0
FormedStays IsProgram AreRules IsEntry = (d d' : Data) → d.joined ≡ false → HasItsIds d
    → FormedBy IsProgram AreRules IsEntry d → Crossed d d' → FormedBy IsProgram AreRules IsEntry d'

-- values may cross in a formed world, where each side holds only its own and has one proxy for each foreign object
abbrev pub FormedCanCross : (Script → Type 0) → (List graph.Rule → Type 0) → (graph.Entry → Type 0) → Type 0
FormedCanCross IsProgram AreRules IsEntry = (d : Data) → d.joined ≡ false → FormedBy IsProgram AreRules IsEntry d
    → Contained d → Paired d → CanCross d
