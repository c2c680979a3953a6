-- Proxies that are made.
use Rattle.std.specs.Prelude.{Bool, List, [], false, true, ◌∷◌}
use Rattle.mb_base.specs.declared.value.ObjId.{ObjId}
use Rattle.mb_frames.specs.Held.{Held, HeldObject}
use Rattle.mb_world.specs.Graph.{Array, Kind}

abbrev pub object_held : ObjId → List Held
object_held id = HeldObject id ∷ []

abbrev pub is_array_kind : Kind → Bool
is_array_kind Array = true
is_array_kind kind = false
