-- What `print` has done, argument by argument.
use Rattle.std.specs.Prelude.{Bool, Err, List, None, Ok, Option, Result, Some, [], false, true, ℕ, ◌∷◌}
use Rattle.mb_base.specs.declared.value.Side.{Side}
use Rattle.mb_frames.specs.Passing.{Part, Passes}
use Rattle.mb_frames.specs.declared.machine.Halt.{Halt}
use Rattle.mb_frames.specs.declared.machine.Halt.TheVariants.{NoMemory, Spent as SpentHalt}
use Rattle.mb_model.specs.BuiltIns.Basics.{print_each}
use Rattle.mb_model.specs.Meaning.{finished}
use Rattle.mb_model.specs.Writing.{Row, type_error}
use Rattle.mb_world.specs.Data.{Data}
use Rattle.mb_world.specs.Graph.{Graph}
use Rattle.mb_world.specs.Value.{Val}

-- the rest of `print`: the line so far, whether no argument is in it, and the arguments to come
abbrev pub printing : ℕ → List ℕ → Bool → List Val → Graph → Row
printing s line first vs = print_each s line first vs finished

-- one argument is in the line from now on, or has no text
abbrev pub Adds : Result Bool Halt → Data → Data → ℕ → ℕ → List ℕ → List ℕ → Bool → Val → Type 0
Adds (Ok true) d d' f f' line line' first v =
    (s : ℕ) (vs : List Val) → Passes d d' f f' (printing s line first (v ∷ vs)) (printing s line' false vs)
Adds (Ok false) d d' f f' line line' first v =
    (s : ℕ) (vs : List Val) → Passes d d' f f' (printing s line first (v ∷ vs)) (type_error s finished)
Adds (Err SpentHalt) d d' f f' line line' first v =
    (home : Side) (vs : List Val) → Part home (Err SpentHalt) d d' f f' (printing home.0 line first (v ∷ vs))
Adds (Err NoMemory) d d' f f' line line' first v = Unit {0}

-- all arguments are in the line, or one has no text
abbrev pub Joins : Result (Option (List ℕ)) Halt → Data → Data → ℕ → ℕ → List Val → Type 0
Joins (Ok (Some line)) d d' f f' vs = (s : ℕ) → Passes d d' f f' (printing s [] true vs) (printing s line false [])
Joins (Ok None) d d' f f' vs = (s : ℕ) → Passes d d' f f' (printing s [] true vs) (type_error s finished)
Joins (Err SpentHalt) d d' f f' vs =
    (home : Side) → Part home (Err SpentHalt) d d' f f' (printing home.0 [] true vs)
Joins (Err NoMemory) d d' f f' vs = Unit {0}
