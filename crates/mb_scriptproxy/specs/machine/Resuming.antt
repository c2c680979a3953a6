-- Which outcomes fit the frames that take them.
use Rattle.std.specs.Prelude.{Bool, IsSomeAnd, Option, false, true, ◌≡◌}
use Rattle.mb_frames.specs.Sorts.{APrototype, AValue, AnObject, IsOfSort, Sort, fits, proxy_waits}
use Rattle.mb_frames.specs.declared.frame.Frame.{Frame}
use Rattle.mb_frames.specs.declared.frame.Frame.TheVariants as x
use Rattle.mb_frames.specs.declared.task.Outcome.{Outcome}

-- of a sort that fits the one that is waited for
pub record IsAwaited (wanted : Sort) (outcome : Outcome) : Type 0 where
  pub sort : Sort
  pub is : IsOfSort sort outcome
  pub fit : fits sort wanted ≡ true

-- a frame that waits has the outcome for which it waits
abbrev pub IsHanded : Frame → Option Outcome → Type 0
IsHanded (x.Proxy y) outcome = IsSomeAnd outcome (IsAwaited (proxy_waits y))
IsHanded frame outcome = Unit {0}

-- values, objects and prototypes among them
abbrev pub is_valued : Sort → Bool
is_valued AnObject = true
is_valued AValue = true
is_valued APrototype = true
is_valued sort = false
