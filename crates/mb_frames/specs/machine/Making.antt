-- What becomes of an object that is made in several calls.
use Rattle.std.specs.Prelude.{Err, Ok, Result}
use Rattle.mb_base.specs.declared.value.ObjId.{ObjId}
use Rattle.mb_frames.specs.Going.{WentOn}
use Rattle.mb_frames.specs.declared.machine.Halt.{Halt}
use Rattle.mb_frames.specs.declared.machine.Halt.TheVariants.{NoMemory, Spent as SpentHalt}
use Rattle.mb_model.specs.Writing.{Does}
use Rattle.mb_world.specs.Data.{Data}
use Rattle.mb_world.specs.Image.{names_of, object_in}
use Rattle.mb_world.specs.Value.{Val}

-- the part gave that object
abbrev pub MakesOf : Result (Unit {0}) Halt → Data → Data → ObjId → Does Val → Type 0
MakesOf (Ok u) d d' id p = WentOn Val d d' 0 0 p (object_in (names_of d') id)
MakesOf (Err SpentHalt) d d' id p = ⊥
MakesOf (Err NoMemory) d d' id p = Unit {0}
