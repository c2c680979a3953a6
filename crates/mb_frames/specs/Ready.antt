-- What a step meets, and what each part of a row keeps: the world is formed, and in one that isn't joined each side
-- holds only its own.
use Rattle.std.specs.List.{AllByRecursion}
use Rattle.std.specs.Prelude.{◌<◌, ◌≡◌, ◌≢◌, [], All, Bool, Err, List, None, Ok, Option, Result, Some, false, true, ℕ}
use Rattle.mb_base.specs.declared.value.ObjId.{ObjId}
use Rattle.mb_base.specs.declared.value.Side.{Side}
use Rattle.mb_frames.specs.Grammatical.{IsProgram}
use Rattle.mb_frames.specs.Held.{Held, HeldIn}
use Rattle.mb_frames.specs.Holding.{move_held}
use Rattle.mb_frames.specs.Sorts.{IsOfSort, Sort, fits, frame_sort, task_gives, waits_for}
use Rattle.mb_frames.specs.Standing.{forms_at}
use Rattle.mb_frames.specs.Wholeness.{FormedMachine, IsFitBegun, IsFitFrame, IsFitTask, IsSound, KeepsCell, KeptWorld, MachineContained, StaysFound, in_held}
use Rattle.mb_frames.specs.declared.frame.Move.{Move}
use Rattle.mb_frames.specs.declared.frame.Move.TheVariants as move
use Rattle.mb_frames.specs.declared.machine.Halt.{Halt}
use Rattle.mb_frames.specs.declared.machine.Machine.{Machine}
use Rattle.mb_base.specs.declared.value.StrId.{StrId}
use Rattle.mb_base.specs.declared.value.Value.{Value}
use Rattle.mb_world.specs.Contained.{Contained, IsOwn, Paired, in_cell, in_kind, in_value}
use Rattle.mb_world.specs.Data.{Data, cell_at, is_counted, kind_stand, set_cell}
use Rattle.mb_world.specs.Formed.{FormedBy, FormedCell, HasItsKind, InRange, IsNullOrObject, is_of_membrane, kind_values}
use Rattle.mb_world.specs.Graph as graph
use Rattle.mb_world.specs.Intrinsics.{intrinsic}
use Rattle.mb_world.specs.Ids.{CellIn, HasItsIds, KindIn, Maybe, TextIn, ValueIn}
use Rattle.mb_world.specs.declared.cell.Cell.{Cell}
use Rattle.mb_world.specs.declared.cell.CellKind.{CellKind}
use Rattle.mb_world.specs.declared.cell.CellKind.TheVariants.{Array, BuiltIn}
use Rattle.mb_world.specs.declared.rule.RuleKind.{RuleKind}
use Rattle.mb_world.specs.declared.rule.RuleKind.TheVariants.{Substitute}

-- ---- worlds

-- which rules there are, and of which form an entry is, no step asks
abbrev pub AnyRules : List graph.Rule → Type 0
AnyRules rules = Unit {0}

abbrev pub AnyEntry : graph.Entry → Type 0
AnyEntry entry = Unit {0}

-- a rule's constant is in range, and no object
abbrev pub HasItsConstant : RuleKind → Type 0
HasItsConstant (Substitute key value) = (in_value value ≡ []) × InRange value
HasItsConstant kind = Unit {0}

-- a world between the steps
pub record IsReady (d : Data) : Type 0 where
  pub formed : FormedBy IsProgram AnyRules AnyEntry d
  pub ids : HasItsIds d
  -- in a joined world all sides share one built-in of a place
  pub one_built_in : d.joined ≡ true → (i k : ObjId) (place : ℕ) (c e : Cell) → cell_at d i ≡ Some c →
      cell_at d k ≡ Some e → c.kind ≡ BuiltIn place → e.kind ≡ BuiltIn place → i ≡ k
  -- a built-in's place is one of the table
  pub of_table : (id : ObjId) (place : ℕ) (c : Cell) → cell_at d id ≡ Some c → c.kind ≡ BuiltIn place →
      intrinsic place ≢ None
  pub constants : All (λ r. HasItsConstant r.kind) d.rules
  pub contained : d.joined ≡ false → Contained d
  pub paired : d.joined ≡ false → Paired d

-- what a part of a row that acts for a home makes of a world
pub record Changed (home : Side) (d d' : Data) : Type 0 where
  pub ready : IsReady d'
  pub found : StaysFound d d'
  pub rules : d'.rules ≡ d.rules
  pub entries : d'.entries ≡ d.entries
  pub kept : d.joined ≡ false → KeptWorld home d d'

-- ---- what a part holds

-- a frame of that home may hold it: its ids are there, it is as it was found, and each reference is one of the home
pub record MayHold (d : Data) (home : Side) (p : Held) : Type 0 where
  pub within : HeldIn d p
  pub sound : IsSound d home p
  pub own : d.joined ≡ false → All (IsOwn d home) (in_held p)

abbrev pub Holds : Data → Side → List Held → Type 0
Holds d home held = AllByRecursion (MayHold d home) held

-- what a move then gives is of the sort that is wanted
abbrev pub Gives : Data → Side → Sort → Move → Type 0
Gives d home wanted (move.Done y) = (given : Sort) × IsOfSort given y × (fits given wanted ≡ true)
Gives d home wanted (move.Wait y t) =
    (waits_for y (task_gives (forms_at d home) t) ≡ true)
    × (fits (frame_sort (forms_at d home) y (task_gives (forms_at d home) t)) wanted ≡ true)
Gives d home wanted (move.Next t) = fits (task_gives (forms_at d home) t) wanted ≡ true
Gives d home wanted (move.Anew t) = fits (task_gives (forms_at d home) t) wanted ≡ true
Gives d home wanted (move.Entered y t) =
    (waits_for y (task_gives (forms_at d home) t) ≡ true)
    × (fits (frame_sort (forms_at d home) y (task_gives (forms_at d home) t)) wanted ≡ true)

-- what starts then is as its task takes it for granted
abbrev pub IsFitMove : Data → Move → Type 0
IsFitMove d (move.Done y) = Unit {0}
IsFitMove d (move.Wait y t) = IsFitFrame d y × IsFitTask d t
IsFitMove d (move.Next t) = IsFitTask d t
IsFitMove d (move.Anew t) = IsFitBegun d t
IsFitMove d (move.Entered y t) = IsFitFrame d y × IsFitBegun d t

-- what a part leaves: it may be held, is fit, and gives what is wanted
pub record Leaves (d : Data) (home : Side) (wanted : Sort) (m : Move) : Type 0 where
  pub holds : Holds d home (move_held m)
  pub fit : IsFitMove d m
  pub gives : Gives d home wanted m

abbrev pub LeavesBy : Data → Side → Sort → Result Move Halt → Type 0
LeavesBy d home wanted (Ok m) = Leaves d home wanted m
LeavesBy d home wanted (Err halt) = Unit {0}

-- What a part of a row keeps that acts for a home, and holds these: the world is ready again, also where it halts, and
-- what it leaves may be held.
pub record KeepsBy (home : Side) (wanted : Sort) (result : Result Move Halt) (d d' : Data) : Type 0 where
  pub changed : Changed home d d'
  pub leaves : LeavesBy d' home wanted result

abbrev pub Keeps : Side → Sort → List Held → Result Move Halt → Data → Data → Type 0
Keeps home wanted held result d d' =
    IsReady d → home.0 < d.sides → Holds d home held → KeepsBy home wanted result d d'

-- ---- machines

-- a machine over a world between the steps
pub record IsReadyMachine (d : Data) (m : Machine) : Type 0 where
  pub world : IsReady d
  pub formed : FormedMachine d m
  pub contained : d.joined ≡ false → MachineContained d m

-- what a step call answers: the world is ready after a halt too, and the machine where the step was made
abbrev pub ReadyAfter : Result (Unit {0}) Halt → Data → Machine → Type 0
ReadyAfter (Ok u) d m = IsReadyMachine d m
ReadyAfter (Err halt) d m = IsReady d

-- ---- what a home may make and write

-- a new object of that home: what it is made of is there, and the home's own
pub record IsMade (d : Data) (home : Side) (k : CellKind) (proto : Value) (label : Option StrId) : Type 0 where
  pub counted : is_counted (kind_stand k) ≡ true
  pub kind_in : KindIn d k
  pub proto_in : ValueIn d proto
  pub label_in : Maybe (TextIn d) label
  pub prototype : IsNullOrObject proto
  pub wholes : All InRange (kind_values k)
  pub kind : HasItsKind d home k
  pub unlabelled : k ≡ Array → label ≡ None
  pub kind_own : d.joined ≡ false → All (IsOwn d home) (in_kind k)
  pub proto_own : d.joined ≡ false → All (IsOwn d home) (in_value proto)

abbrev pub is_built_in : CellKind → Bool
is_built_in (BuiltIn place) = true
is_built_in kind = false

-- a cell that was there, and is no built-in and none of the membrane's, becomes another
pub record IsWritten (d : Data) (home : Side) (id : ObjId) (c e : Cell) : Type 0 where
  pub home_is : d.joined ≡ false → c.home ≡ home
  pub membrane : is_of_membrane c.kind ≡ false
  pub no_built_in : is_built_in c.kind ≡ false
  pub keeps : KeepsCell d (set_cell d id e) c e
  pub cell_in : CellIn d e
  pub formed : FormedCell d e
  pub own : d.joined ≡ false → All (IsOwn d home) (in_cell e)
