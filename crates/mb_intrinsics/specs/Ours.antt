-- Which frames are those of the basic built-ins: print, later, labelled, String and Symbol.
use Rattle.std.specs.Prelude.{Bool, None, Option, Some, false, true, ◌≡◌}
use Rattle.mb_frames.specs.declared.frame.Frame.{Frame}
use Rattle.mb_frames.specs.declared.frame.Frame.TheVariants as x
use Rattle.mb_frames.specs.declared.task.Task.{Task}
use Rattle.mb_frames.specs.declared.task.Task.TheVariants as t
use Rattle.mb_world.specs.Intrinsics.{Intrinsic, Labelled, Later, Print, String, Symbol, intrinsic}

abbrev pub is_basic : Option Intrinsic → Bool
is_basic (Some Print) = true
is_basic (Some Later) = true
is_basic (Some Labelled) = true
is_basic (Some String) = true
is_basic (Some Symbol) = true
is_basic place = false

abbrev pub IsBasicTask : Task → Type 0
IsBasicTask (t.Run place this arguments target) = is_basic (intrinsic place) ≡ true
IsBasicTask task = ⊥

-- one that is entered; none of them waits
abbrev pub IsBasicFrame : Frame → Type 0
IsBasicFrame (x.Begin task) = IsBasicTask task
IsBasicFrame (x.Anew task) = IsBasicTask task
IsBasicFrame frame = ⊥
