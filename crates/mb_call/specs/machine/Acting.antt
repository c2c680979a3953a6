-- Who acts: the owner of a function in its body and where it constructs, and else the side at whose home the task is.
use Rattle.std.specs.Prelude.{Bool, Option, false, true}
use Rattle.mb_base.specs.declared.value.Side.{Side}
use Rattle.mb_call.specs.Due.{is_due}
use Rattle.mb_call.specs.Owners.{owner_of}
use Rattle.mb_frames.specs.declared.frame.Frame.{Frame}
use Rattle.mb_frames.specs.declared.frame.Frame.TheVariants as x
use Rattle.mb_frames.specs.declared.task.Method.{Method}
use Rattle.mb_frames.specs.declared.task.Method.TheVariants as m
use Rattle.mb_frames.specs.declared.task.Task.{Task}
use Rattle.mb_frames.specs.declared.task.Task.TheVariants as t
use Rattle.mb_world.specs.Data.{Data, cell_at}
use Rattle.mb_world.specs.declared.cell.Cell.{Cell}

abbrev pub method_side : Side → Method → Option Cell → Side
method_side home (m.Construct arguments target) c = owner_of home c
method_side home method c = home

abbrev pub task_side : Data → Side → Task → Side
task_side d home (t.Perform method object viewer enters) = method_side home method (cell_at d object)
task_side d home (t.Enter function this arguments) = owner_of home (cell_at d function)
task_side d home task = home

-- a task with an entry below it begins where it is
abbrev pub begun_side : Bool → Data → Side → Task → Side
begun_side true d home task = home
begun_side false d home task = task_side d home task

-- the side at whose home the step goes on
abbrev pub acting_side : Data → Side → Frame → Side
acting_side d home (x.Begin task) = begun_side (is_due d home task) d home task
acting_side d home (x.Begun task) = task_side d home task
acting_side d home (x.Anew task) = task_side d home task
acting_side d home frame = home
