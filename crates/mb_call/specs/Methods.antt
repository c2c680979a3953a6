-- What the methods of an object do where the policy leaves them to it.
use Rattle.std.specs.Prelude.{Result, Some, ℕ, ◌≡◌}
use Rattle.mb_base.specs.declared.value.ObjId.{ObjId}
use Rattle.mb_base.specs.declared.value.Side.{Side}
use Rattle.mb_frames.specs.Passing.{Part}
use Rattle.mb_frames.specs.Resolved.{method_in}
use Rattle.mb_frames.specs.declared.frame.Move.{Move}
use Rattle.mb_frames.specs.declared.machine.Halt.{Halt}
use Rattle.mb_frames.specs.declared.task.Method.{Method}
use Rattle.mb_model.specs.Meaning.{finished}
use Rattle.mb_model.specs.Objects.Methods.{change_of, ordinary, ruling}
use Rattle.mb_rules.specs.Seen.{graph_of}
use Rattle.mb_world.specs.Data.{Data}
use Rattle.mb_world.specs.Graph.{Thing}
use Rattle.mb_world.specs.Image.{names_of, object_at, object_in}
use Rattle.mb_world.specs.View.{Free}

-- the method of the object, as a side sees that, where the policy leaves it to the object: it is performed by the side
-- at whose home it is, and goes on at the home of the one that acts
abbrev pub DoesMethod : (home acts viewer : Side) → ObjId → Method → Result Move Halt → Data → Data → ℕ → ℕ → Type 0
DoesMethod home acts viewer object method r d d' f f' = (t : Thing) → object_at d object ≡ Some t →
    Part acts r d d' f f' (ordinary home.0 viewer.0 (object_in (names_of d) object) t (method_in (names_of d) method)
    finished)

-- the policy leaves the method to the object
abbrev pub IsFree : Data → (viewer : Side) → ObjId → Method → Type 0
IsFree d viewer object method = (t : Thing) → object_at d object ≡ Some t →
    ruling (graph_of d) viewer.0 t (change_of (method_in (names_of d) method)) ≡ Free
