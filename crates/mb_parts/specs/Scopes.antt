-- The names with which a scope begins.
use Rattle.std.specs.Prelude.{Bool, List, None, Option, Some, [], false, is_some}
use Rattle.mb_base.specs.declared.value.NodeId.{NodeId}
use Rattle.mb_tree.specs.Names.{Binds, names_at}
use Rattle.mb_world.specs.Data.{Script}
use Rattle.mb_world.specs.declared.scope.Bound.{Bound}

-- a name that isn't given yet
abbrev pub unbound : Binds → Bound
unbound b = record { name = b.1; value = None; fixed = b.2 }

-- it has its value
abbrev pub is_bound : Option Bound → Bool
is_bound None = false
is_bound (Some b) = is_some b.value

-- what the scope of a node of a script binds
abbrev pub bound_by : Option Script → NodeId → List Binds
bound_by None node = []
bound_by (Some p) node = names_at node p.names
