-- A visit of the walk of setPrototypeOf.
use Rattle.std.specs.Prelude.{List, Ok, Some, true, ℕ, ◌≡◌}
use Rattle.mb_base.specs.declared.value.ObjId.{ObjId}
use Rattle.mb_base.specs.declared.value.Side.{Side}
use Rattle.mb_base.specs.declared.value.Value.{Value}
use Rattle.mb_frames.specs.Stepping.{Step, Written}
use Rattle.mb_frames.specs.declared.frame.Move.{Move}
use Rattle.mb_model.specs.Meaning.{finished}
use Rattle.mb_model.specs.Objects.Methods.{walk_ends, walk_from}
use Rattle.mb_model.specs.Writing.{Row}
use Rattle.mb_world.specs.Data.{Data}
use Rattle.mb_world.specs.Graph.{Graph, Item, Thing}
use Rattle.mb_world.specs.Image.{Image, Names, Resolve, names_of, object_in}
use Rattle.mb_world.specs.Objects.{thing_at}

-- what follows where the visit of x, which is that thing, is paid
abbrev pub visit_row : Names → ObjId → Value → ObjId → Thing → Graph → Row
visit_row n object given x t g =
    walk_from (object_in n object) (Resolve n given) (object_in n x) t (walk_ends g (object_in n object) t) finished g

abbrev pub Visits : Side → Move → Data → Data → ℕ → ObjId → Value → ObjId → Type 0
Visits home m d d' f object given x = (t : Thing) →
    ((log : List Item) → thing_at (Image d log) (object_in (names_of d) x) ≡ Some t) →
    (l : Written) → Step home true (Ok m) d d' f f l l (visit_row (names_of d) object given x t)
