-- Rows of built-ins by their single arguments, and which outcomes fit the frames that take them.
use Rattle.std.specs.Prelude.{IsSomeAnd, Option, [], ◌∷◌, ℕ}
use Rattle.mb_call.specs.machine.Resuming.{IsAwaited}
use Rattle.mb_frames.specs.Sorts.{reflect_waits}
use Rattle.mb_frames.specs.declared.frame.Frame.{Frame}
use Rattle.mb_frames.specs.declared.frame.Frame.TheVariants as x
use Rattle.mb_frames.specs.declared.task.Outcome.{Outcome}
use Rattle.mb_model.specs.BuiltIns.ErrorsAndFunctions.{function_apply}
use Rattle.mb_model.specs.BuiltIns.ReflectMembers.{reflect_apply, reflect_construct}
use Rattle.mb_model.specs.Task.{Answer}
use Rattle.mb_model.specs.Writing.{Does}
use Rattle.mb_world.specs.Value.{Val}

abbrev pub function_apply_row : ℕ → Val → Val → Val → Does Answer
function_apply_row s f this xs = function_apply s f (this ∷ xs ∷ [])

abbrev pub apply_row : ℕ → Val → Val → Val → Does Answer
apply_row s f this xs = reflect_apply s (f ∷ this ∷ xs ∷ [])

abbrev pub construct_row : ℕ → Val → Val → Val → Does Answer
construct_row s f xs target = reflect_construct s (f ∷ xs ∷ target ∷ [])

-- a frame that waits has the outcome for which it waits
abbrev pub IsHanded : Frame → Option Outcome → Type 0
IsHanded (x.Reflect y) outcome = IsSomeAnd outcome (IsAwaited (reflect_waits y))
IsHanded frame outcome = Unit {0}
