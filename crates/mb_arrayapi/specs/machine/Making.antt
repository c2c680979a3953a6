-- Arrays that rows make.
use Rattle.std.specs.Prelude.{Err, List, None, Ok, Result, Some, length, ℕ, ◌≡◌}
use Rattle.mb_base.specs.declared.value.ObjId.{ObjId}
use Rattle.mb_base.specs.declared.value.Value.{Value}
use Rattle.mb_desc.specs.declared.descriptor.Desc.{Desc}
use Rattle.mb_frames.specs.Stepping.{Grew}
use Rattle.mb_frames.specs.declared.machine.Halt.{Halt}
use Rattle.mb_frames.specs.declared.machine.Halt.TheVariants.{NoMemory, Spent as SpentHalt}
use Rattle.mb_model.specs.Operations.Makings.{array_thing}
use Rattle.mb_model.specs.Writing.{with_object}
use Rattle.mb_world.specs.Data.{Data}
use Rattle.mb_world.specs.Graph.{Item}
use Rattle.mb_world.specs.Image.{Image, entries_in, names_of, object_in}
use Rattle.mb_world.specs.Value.{Object, Val}

-- a value alone
abbrev pub value_alone : Value → Desc Value
value_alone x =
    record { value = Some x; writable = None; get = None; set = None; enumerable = None; configurable = None }

-- from the world d an array of that side was made, with that prototype, length and elements, and nothing else
pub record Made (d d' : Data) (s : ℕ) (p : Val) (n : ℕ) (xs : List Val) (array : ObjId) : Type 0 where
  pub grew : Grew d d'
  pub trace : entries_in d' ≡ entries_in d
  pub image : (log : List Item) → Image d' log ≡ with_object (array_thing s p n xs) (Image d log)
  pub number : (log : List Item) → object_in (names_of d') array ≡ Object (length (Image d log).objects)

-- what a function answers that makes one
abbrev pub MakesArray : Result ObjId Halt → Data → Data → ℕ → Val → ℕ → List Val → Type 0
MakesArray (Ok array) d d' s p n xs = Made d d' s p n xs array
MakesArray (Err SpentHalt) d d' s p n xs = ⊥
MakesArray (Err NoMemory) d d' s p n xs = Unit {0}

-- it halts for want of memory alone
abbrev pub HaltsForMemory : Result (Unit {0}) Halt → Type 0
HaltsForMemory (Ok u) = Unit {0}
HaltsForMemory (Err SpentHalt) = ⊥
HaltsForMemory (Err NoMemory) = Unit {0}
