-- What a job begins with.
use Rattle.std.specs.Prelude.{[], length, true, ◌-◌, ◌≡◌}
use Rattle.mb_base.specs.declared.value.NodeId.{NodeId}
use Rattle.mb_base.specs.declared.value.ObjId.{ObjId}
use Rattle.mb_base.specs.declared.value.Side.{Side}
use Rattle.mb_base.specs.declared.value.Value.TheVariants as v
use Rattle.mb_engine.specs.Begun.{global_scope}
use Rattle.mb_frames.specs.Standing.{forms_at}
use Rattle.mb_frames.specs.declared.frame.Frame.{Frame}
use Rattle.mb_frames.specs.declared.frame.Frame.TheVariants as x
use Rattle.mb_frames.specs.declared.task.Context.{Context}
use Rattle.mb_frames.specs.declared.task.Method.TheVariants as m
use Rattle.mb_frames.specs.declared.task.Task.TheVariants as t
use Rattle.mb_world.specs.Data.{Data}
use Rattle.mb_world.specs.declared.scope.Job.{Job}
use Rattle.mb_world.specs.declared.scope.Job.TheVariants as j

-- the whole script
abbrev pub root : Data → Side → NodeId
root d side = record { 0 = length (forms_at d side) - 1 }

abbrev pub in_global_scope : Side → Context
in_global_scope side = record { scope = global_scope side; this = v.Undefined }

abbrev pub script_frame : Data → Side → Frame
script_frame d side = x.Anew (t.Evaluate (root d side) (in_global_scope side))

abbrev pub call_frame : Side → ObjId → Frame
call_frame side object = x.Begin (t.Perform (m.Call v.Undefined []) object side true)

-- the function of a job is an object
abbrev pub Begins : Data → Side → Job → Frame → Type 0
Begins d side j.Script y = y ≡ script_frame d side
Begins d side (j.Call (v.Object object)) y = y ≡ call_frame side object
Begins d side (j.Call x) y = ⊥
