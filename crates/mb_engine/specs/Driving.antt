-- What a driver tells of the turns that it made.
use Rattle.std.specs.Prelude.{Bool, List, Option, [], false, if◌then◌else◌, length, option_map, true, ℕ, ◌++◌, ◌∷◌}
use Rattle.mb_base.specs.declared.value.Side.{Side}
use Rattle.mb_engine.specs.declared.drivers.Ran.{Ran}
use Rattle.mb_engine.specs.declared.turns.TurnEnd.{TurnEnd}
use Rattle.mb_engine.specs.declared.turns.TurnEnd.TheVariants.{Ended, Idle, NoMemory, Spent, Uncaught}
use Rattle.mb_world.specs.Data.{Data, objects_of}

-- a turn of that side that left this world and so many units
abbrev pub ran_of : Side → Data → ℕ → Ran
ran_of side d f = record {
  side = side;
  joined = d.joined;
  entries = length d.entries;
  objects = length (objects_of d.cells);
  left = f;
}

-- it took a job, and wasn't halted for want of memory
abbrev pub tells : TurnEnd → Bool
tells Idle = false
tells Ended = true
tells Uncaught = true
tells Spent = true
tells NoMemory = false

-- such a turn stands last in the list
abbrev pub noted : TurnEnd → Ran → List Ran → List Ran
noted end r rs = if tells end then rs ++ r ∷ [] else rs

-- the list after a turn, where one is told
abbrev pub noted_if : TurnEnd → Side → Data → ℕ → Option (List Ran) → Option (List Ran)
noted_if end side d f told = option_map (noted end (ran_of side d f)) told
