-- What a turn's parts leave.
use Rattle.std.specs.Prelude.{Bool, Err, List, Ok, Option, Result, Some, false, is_some, true, ◌≡◌, ℕ}
use Rattle.mb_engine.specs.Turns.{Left}
use Rattle.mb_frames.specs.Resolved.{outcome_in}
use Rattle.mb_frames.specs.Stepping.{Written}
use Rattle.mb_frames.specs.declared.machine.Halt.{Halt}
use Rattle.mb_frames.specs.declared.machine.Halt.TheVariants.{NoMemory, Spent as SpentHalt}
use Rattle.mb_frames.specs.declared.task.Outcome.{Outcome}
use Rattle.mb_frames.specs.Real.{IsReal}
use Rattle.mb_frames.specs.declared.task.Outcome.TheVariants as o
use Rattle.mb_world.specs.Ids.{ValueIn}
use Rattle.mb_model.specs.Engine.{Gives, Spent}
use Rattle.mb_model.specs.Meaning.{Ends}
use Rattle.mb_world.specs.Data.{Data}
use Rattle.mb_world.specs.Graph.{Graph, Item}
use Rattle.mb_world.specs.Image.{names_of}
use Rattle.mb_world.specs.Value.{Val, to_text}

-- what was thrown is a value of the world, and no shadow
abbrev pub IsRealOutcome : Data → Outcome → Type 0
IsRealOutcome d (o.Throw x) = ValueIn d x × IsReal d x
IsRealOutcome d outcome = Unit {0}

-- how a job ended, where it leaves the world d' and f' units, and the meaning ends so
abbrev pub JobEnds : Result Outcome Halt → Data → ℕ → Written → Written → List Item → Ends → Type 0
JobEnds (Ok outcome) d' f' l l' log e =
    (g : Graph) × (e ≡ Gives (outcome_in (names_of d') outcome) g f') × Left d' l l' log g
JobEnds (Err SpentHalt) d' f' l l' log e = (g : Graph) × (e ≡ Spent g f') × Left d' l l' log g
JobEnds (Err NoMemory) d' f' l l' log e = Unit {0}

-- a primitive that has a text
abbrev pub HasText : Val → Type 0
HasText x = is_some (to_text x) ≡ true

-- a run that went to its end has its outcome, but in a halted world
abbrev pub Finishes : Result (Unit {0}) Halt → Bool → Option Outcome → Result Outcome Halt → Type 0
Finishes (Ok u) false done result = (outcome : Outcome) × (done ≡ Some outcome) × (result ≡ Ok outcome)
Finishes (Ok u) true outcome result = result ≡ Err NoMemory
Finishes (Err halt) halted outcome result = result ≡ Err halt
