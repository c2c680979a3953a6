-- Which outcomes fit the frames that take them.
use Rattle.std.specs.Prelude.{IsSomeAnd, Option}
use Rattle.mb_call.specs.machine.Resuming.{IsAwaited}
use Rattle.mb_frames.specs.Sorts.{array_waits}
use Rattle.mb_frames.specs.declared.frame.Frame.{Frame}
use Rattle.mb_frames.specs.declared.frame.Frame.TheVariants as x
use Rattle.mb_frames.specs.declared.task.Outcome.{Outcome}

-- a frame that waits has the outcome for which it waits
abbrev pub IsHanded : Frame → Option Outcome → Type 0
IsHanded (x.Array y) outcome = IsSomeAnd outcome (IsAwaited (array_waits y))
IsHanded frame outcome = Unit {0}
