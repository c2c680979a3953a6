-- Which outcomes fit the frames that take them.
use Rattle.std.specs.Prelude.{Bool, IsSomeAnd, Option, false, true, ◌≡◌}
use Rattle.mb_frames.specs.Sorts.{IsOfSort, Sort, call_waits, fits, op_gives}
use Rattle.mb_frames.specs.declared.calls.CallFrame.{CallFrame}
use Rattle.mb_frames.specs.declared.calls.CallFrame.TheVariants as c
use Rattle.mb_frames.specs.declared.frame.Frame.{Frame}
use Rattle.mb_frames.specs.declared.frame.Frame.TheVariants as x
use Rattle.mb_frames.specs.declared.task.Outcome.{Outcome}

-- of a sort that fits the one that is waited for
pub record IsAwaited (wanted : Sort) (outcome : Outcome) : Type 0 where
  pub sort : Sort
  pub is : IsOfSort sort outcome
  pub fit : fits sort wanted ≡ true

-- a frame that waits has the outcome for which it waits
abbrev pub IsHanded : Frame → Option Outcome → Type 0
IsHanded (x.Call y) outcome = IsSomeAnd outcome (IsAwaited (call_waits y))
IsHanded (x.Entry y) outcome = IsSomeAnd outcome (IsAwaited (op_gives y.op))
IsHanded frame outcome = Unit {0}

-- it takes answers alone, and hands on any other outcome
abbrev pub is_answered : CallFrame → Bool
is_answered (c.Statement at node next) = false
is_answered frame = true
