-- Names of scopes as parts of rows read them.
use Rattle.std.specs.Prelude.{List, None, Option, Some, slice_get, ℕ}
use Rattle.mb_base.specs.declared.value.Value.{Value}
use Rattle.mb_world.specs.Graph.{Binding}
use Rattle.mb_world.specs.declared.scope.Bound.{Bound}
use Rattle.mb_world.specs.Value.{Val}

-- the value that is bound, if one is there and was given
abbrev pub bound_to : Option Binding → Option Val
bound_to None = None
bound_to (Some b) = b.value

-- the value that a world's name has
abbrev pub given_to : Option Bound → Option Value
given_to None = None
given_to (Some b) = b.value

-- the unit of a text at an index, if there is one
abbrev pub unit_found : List ℕ → Option ℕ → Option ℕ
unit_found units None = None
unit_found units (Some i) = slice_get units i
