-- Parts of rows whose answers are left aside.
use Rattle.std.specs.Prelude.{Err, None, Ok, Result, Some, true}
use Rattle.mb_base.specs.declared.value.Value.{Value}
use Rattle.mb_desc.specs.declared.descriptor.Desc.{Desc}
use Rattle.mb_frames.specs.Going.{WentOn}
use Rattle.mb_frames.specs.declared.machine.Halt.{Halt}
use Rattle.mb_frames.specs.declared.machine.Halt.TheVariants.{NoMemory, Spent as SpentHalt}
use Rattle.mb_model.specs.Task.{Answer}
use Rattle.mb_model.specs.Writing.{Does}
use Rattle.mb_world.specs.Data.{Data}

-- the part was done, whatever it answered
abbrev pub Stores : Result (Unit {0}) Halt → Data → Data → Does Answer → Type 0
Stores (Ok u) d d' p = (a : Answer) × WentOn Answer d d' 0 0 p a
Stores (Err SpentHalt) d d' p = ⊥
Stores (Err NoMemory) d d' p = Unit {0}

-- a property that can be written, listed and changed
abbrev pub opened : Value → Desc Value
opened x = record {
  value = Some x;
  writable = Some true;
  get = None;
  set = None;
  enumerable = Some true;
  configurable = Some true;
}
