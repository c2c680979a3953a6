use Rattle.std.specs.Prelude.{◌≡◌, true, Some}
use Rattle.mb_desc.specs.Descriptors.{IsOfOneKind}
use Rattle.mb_world.specs.Graph.{Graph, Thing}
use Rattle.mb_world.specs.Objects.{thing_at}
use Rattle.mb_model.specs.Task.{Method, DefineOwnProperty, Task, Walk, Perform}

-- what a task takes for granted; each row sees to it for the tasks that it has done

-- a descriptor has no fields of both kinds (ECMA-262 6.2.6)
abbrev pub FitsMethod : Method → Type 0
FitsMethod (DefineOwnProperty k d) = IsOfOneKind d
FitsMethod _ = Unit {0}

-- the object whose prototype is set is extensible still as the walk goes on (ECMA-262 10.1.2.1, steps 4 and 5)
abbrev pub Fits : Task → Graph → Type 0
Fits (Walk o p x) g = (t : Thing) → thing_at g o ≡ Some t → t.extensible ≡ true
Fits (Perform s m o v enters) g = FitsMethod m
Fits _ g = Unit {0}

-- a method that may make an entry is performed with the acting side's own view; each row sees to that, too
abbrev pub SeesItself : Task → Type 0
SeesItself (Perform s m o v enters) = enters ≡ true → v ≡ s
SeesItself _ = Unit {0}
