-- A stack as a list, the last first, and as the code keeps it.
use Rattle.std.specs.Prelude.{List, [], ◌∷◌, ◌++◌, Option, Some, None}

-- what lies on top
abbrev pub top : {F : Type 0} → List F → Option F
top [] = None
top (f ∷ fs) = Some f

-- what lies below the top
abbrev pub below : {F : Type 0} → List F → List F
below [] = []
below (f ∷ fs) = fs

-- the first one first, as the code has them
abbrev pub laid : {F : Type 0} → List F → List F
laid [] = []
laid (f ∷ fs) = laid fs ++ f ∷ []
