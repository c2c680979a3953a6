-- Arrays that are made before a loop, and of arguments.
use Rattle.std.proofs.Common.{◌≤◌, Err, Ok, Result, [], subst, sym, ℕ}
use Rattle.mb_arrayapi.proofs.ArrayMade.{made-went}
use Rattle.mb_arrayapi.proofs.Needing.{fresh-short}
use Rattle.mb_arrayapi.specs.machine.Making.{MakesArray}
use Rattle.mb_base.specs.declared.value.ObjId.{ObjId}
use Rattle.mb_frames.specs.Going.{Makes, WentOn}
use Rattle.mb_frames.specs.declared.machine.Halt.{Halt}
use Rattle.mb_frames.specs.declared.machine.Halt.TheVariants.{NoMemory, Spent as SpentHalt}
use Rattle.mb_model.specs.BuiltIns.Arrays.{fresh_array}
use Rattle.mb_model.specs.Writing.{Does}
use Rattle.mb_world.specs.Data.{Data}
use Rattle.mb_world.specs.Image.{names_of, object_in}
use Rattle.mb_world.specs.Standard.{array_prototype}
use Rattle.mb_world.specs.Value.{Val}

pub fresh-went : (d d' : Data) (s n : ℕ) (r : Result ObjId Halt) → n ≤ 4294967295
    → MakesArray r d d' s array_prototype n [] → Makes r d d' (fresh_array s n)
fresh-went d d' s n (Ok id) l q =
    subst (λ (p : Does Val). WentOn Val d d' 0 0 p (object_in (names_of d') id)) (sym (fresh-short s n l))
    (made-went d d' s array_prototype n [] id q)
fresh-went d d' s n (Err SpentHalt) l q = q
fresh-went d d' s n (Err NoMemory) l q = tt
