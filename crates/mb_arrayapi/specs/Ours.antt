-- Which frames are those of Array and its members.
use Rattle.std.specs.Prelude.{Bool, Option, Some, false, true, ◌≡◌}
use Rattle.mb_frames.specs.declared.frame.Frame.{Frame}
use Rattle.mb_frames.specs.declared.frame.Frame.TheVariants as x
use Rattle.mb_frames.specs.declared.task.Task.{Task}
use Rattle.mb_frames.specs.declared.task.Task.TheVariants as t
use Rattle.mb_world.specs.Intrinsics.{Array, ArrayIsArray, ArrayPrototype, ArrayPrototypeFilter, ArrayPrototypeForEach}
use Rattle.mb_world.specs.Intrinsics.{ArrayPrototypeIndexOf, ArrayPrototypeJoin, ArrayPrototypeMap, ArrayPrototypePop}
use Rattle.mb_world.specs.Intrinsics.{ArrayPrototypePush, ArrayPrototypeReduce, ArrayPrototypeSlice, Intrinsic}
use Rattle.mb_world.specs.Intrinsics.{intrinsic}

-- Array, Array.isArray, the members of Array.prototype, and that, which nothing calls
abbrev pub is_of_arrays : Option Intrinsic → Bool
is_of_arrays (Some Array) = true
is_of_arrays (Some ArrayPrototype) = true
is_of_arrays (Some ArrayPrototypePush) = true
is_of_arrays (Some ArrayPrototypePop) = true
is_of_arrays (Some ArrayPrototypeMap) = true
is_of_arrays (Some ArrayPrototypeForEach) = true
is_of_arrays (Some ArrayPrototypeFilter) = true
is_of_arrays (Some ArrayPrototypeReduce) = true
is_of_arrays (Some ArrayPrototypeIndexOf) = true
is_of_arrays (Some ArrayPrototypeSlice) = true
is_of_arrays (Some ArrayPrototypeJoin) = true
is_of_arrays (Some ArrayIsArray) = true
is_of_arrays place = false

abbrev pub IsArrayTask : Task → Type 0
IsArrayTask (t.Run place this arguments target) = is_of_arrays (intrinsic place) ≡ true
IsArrayTask task = ⊥

-- one that is entered, or waits
abbrev pub IsArrayFrame : Frame → Type 0
IsArrayFrame (x.Begin task) = IsArrayTask task
IsArrayFrame (x.Anew task) = IsArrayTask task
IsArrayFrame (x.Array frame) = Unit {0}
IsArrayFrame frame = ⊥
