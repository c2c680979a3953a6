-- Who acts: the owner of a Proxy once it isn't cut off, and the side that asked where there is no trap.
use Rattle.std.specs.Prelude.{Bool, None, Option, Some, false, if◌then◌else◌, true}
use Rattle.mb_base.specs.declared.value.ObjId.{ObjId}
use Rattle.mb_base.specs.declared.value.Side.{Side}
use Rattle.mb_base.specs.declared.value.Value.{Value}
use Rattle.mb_base.specs.declared.value.Value.TheVariants as v
use Rattle.mb_call.specs.Due.{is_due}
use Rattle.mb_frames.specs.declared.frame.Frame.{Frame}
use Rattle.mb_frames.specs.declared.frame.Frame.TheVariants as x
use Rattle.mb_frames.specs.declared.proxies.ProxyFrame.{ProxyFrame}
use Rattle.mb_frames.specs.declared.proxies.ProxyFrame.TheVariants as p
use Rattle.mb_frames.specs.declared.task.Answer.TheVariants as a
use Rattle.mb_frames.specs.declared.task.Outcome.{Outcome}
use Rattle.mb_frames.specs.declared.task.Outcome.TheVariants as o
use Rattle.mb_frames.specs.declared.task.Task.{Task}
use Rattle.mb_frames.specs.declared.task.Task.TheVariants as t
use Rattle.mb_rules.specs.Seen.{graph_of}
use Rattle.mb_world.specs.Data.{Data, cell_at}
use Rattle.mb_world.specs.Graph.{Graph, Thing}
use Rattle.mb_world.specs.Image.{object_at}
use Rattle.mb_world.specs.View.{is_cut}
use Rattle.mb_world.specs.declared.cell.Cell.{Cell}

-- ---- methods

-- the object is cut off for a side
abbrev pub is_cut_by : Graph → Side → Option Thing → Bool
is_cut_by g viewer None = false
is_cut_by g viewer (Some t) = is_cut g viewer.0 t

abbrev pub is_cut_off : Data → Side → ObjId → Bool
is_cut_off d viewer object = is_cut_by (graph_of d) viewer (object_at d object)

abbrev pub home_or : Side → Option Cell → Side
home_or home None = home
home_or home (Some c) = c.home

abbrev pub performing_side : Data → Side → Side → ObjId → Side
performing_side d home viewer object =
    if is_cut_off d viewer object then home else home_or home (cell_at d object)

abbrev pub task_side : Data → Side → Task → Side
task_side d home (t.Perform method object viewer enters) = performing_side d home viewer object
task_side d home task = home

-- a task with an entry below it begins where it is
abbrev pub begun_side : Bool → Data → Side → Task → Side
begun_side true d home task = home
begun_side false d home task = task_side d home task

-- ---- traps

-- no trap
abbrev pub is_none : Value → Bool
is_none v.Undefined = true
is_none v.Null = true
is_none x = false

-- the side that asked goes on where there is no trap
abbrev pub trap_side : Side → Side → Value → Side
trap_side home asked trap = if is_none trap then asked else home

abbrev pub handed_side : Side → Side → Option Outcome → Side
handed_side home asked (Some (o.Normal (a.Value trap))) = trap_side home asked trap
handed_side home asked given = home

abbrev pub waiting_side : Side → ProxyFrame → Option Outcome → Side
waiting_side home (p.TrapGot side target handler method) given = handed_side home side given
waiting_side home frame given = home

-- the side at whose home the step goes on
abbrev pub acting_side : Data → Side → Frame → Option Outcome → Side
acting_side d home (x.Begin task) given = begun_side (is_due d home task) d home task
acting_side d home (x.Begun task) given = task_side d home task
acting_side d home (x.Anew task) given = task_side d home task
acting_side d home (x.Proxy frame) given = waiting_side home frame given
acting_side d home frame given = home
