-- What is known of what stands around nodes.
use Rattle.std.specs.Prelude.{◌≡◌, Bool, true, false, not, ◌&&◌, ◌||◌, List, Some, slice_get}
use Rattle.std.specs.List.{Contains}
use Rattle.mb_base.specs.declared.value.NodeId.{NodeId}
use Rattle.mb_scope.specs.declared.jump.Around.{Around}
use Rattle.mb_scope.specs.declared.jump.Jump.{Jump}
use Rattle.mb_scope.specs.declared.jump.Jump.TheVariants.{FromFunction, FromLoop, Nothing}

abbrev pub outside : Around
outside = record { function = false; repeated = false }

abbrev pub allows_of : Around → Jump → Bool
allows_of a FromFunction = a.function
allows_of a FromLoop = a.repeated
allows_of a Nothing = true

-- around the parts of a node, by whether it is a function and a loop
abbrev pub inside_of : Around → Bool → Bool → Around
inside_of a function loops = record { function = function || a.function; repeated = loops || (not function && a.repeated) }

-- the one or the other
abbrev pub either : Around → Around → Around
either a b = record { function = a.function || b.function; repeated = a.repeated || b.repeated }

-- a stands around these nodes too, and nothing else is new
pub record IsPutAround (old new : List Around) (ids : List NodeId) (a : Around) : Type 0 where
  pub given : (id : NodeId) (before : Around) → Contains ids id → slice_get old id.0 ≡ Some before → slice_get new id.0 ≡ Some (either before a)
  pub kept : (id : NodeId) → ¬ Contains ids id → slice_get new id.0 ≡ slice_get old id.0
