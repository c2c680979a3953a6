-- What holds of the frame on top of a stack.
use Rattle.std.specs.Prelude.{List, [], ◌∷◌}
use Rattle.mb_frames.specs.declared.machine.Waiting.{Waiting}

abbrev pub IsOnTop : (Waiting → Type 0) → List Waiting → Type 0
IsOnTop P [] = ⊥
IsOnTop P (y ∷ []) = P y
IsOnTop P (y ∷ z ∷ above) = IsOnTop P (z ∷ above)
