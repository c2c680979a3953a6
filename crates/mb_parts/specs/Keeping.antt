-- What stands in an answer that is an object.
use Rattle.std.specs.Prelude.{◌∷◌, List, []}
use Rattle.mb_base.specs.declared.value.ObjId.{ObjId}
use Rattle.mb_frames.specs.Held.{Held, HeldArray, HeldObject}

abbrev pub object_held : ObjId → List Held
object_held id = HeldObject id ∷ []

abbrev pub array_held : ObjId → List Held
array_held id = HeldArray id ∷ []
