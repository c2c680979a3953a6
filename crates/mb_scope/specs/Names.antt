-- The names that scopes bind.
use Rattle.std.specs.Prelude.{ℕ, suc, Bool, true, List, [], ◌∷◌, ◌++◌, Option, Some, map}
use Rattle.mb_base.specs.declared.value.NodeId.{NodeId}
use Rattle.mb_base.specs.declared.value.StrId.{StrId}
use Rattle.mb_tree.specs.Roses.{Shape, id_of}
use Rattle.mb_scope.specs.declared.binding.Binding.{Binding}
use Rattle.mb_scope.specs.Kinds.{names_itself}
use Rattle.mb_scope.specs.Bindings.{bindings_of}

-- a function expression's own name, which is fixed (ECMA-262, 15.2.5)
abbrev pub itself : NodeId → Bool → Option StrId → List (NodeId × StrId × Bool)
itself scope true (Some name) = (scope, name, true) ∷ []
itself scope _ _ = []

abbrev pub own_name : NodeId → Shape → List (NodeId × StrId × Bool)
own_name scope node = itself scope (names_itself node.label.kind) node.label.name

abbrev pub entry : NodeId → Binding → NodeId × StrId × Bool
entry scope binding = (scope, binding.name, binding.fixed)

-- the names that a node's scope binds
abbrev pub scope_names : List Shape → NodeId → Shape → List (NodeId × StrId × Bool)
scope_names shapes scope node = own_name scope node ++ map (entry scope) (bindings_of shapes node.children)

-- those of these nodes, the first of which has this place
abbrev pub names_from : List Shape → ℕ → List Shape → List (NodeId × StrId × Bool)
names_from shapes place [] = []
names_from shapes place (node ∷ nodes) = scope_names shapes (id_of place) node ++ names_from shapes (suc place) nodes

-- those of all nodes, in order
abbrev pub names_of : List Shape → List (NodeId × StrId × Bool)
names_of shapes = names_from shapes 0 shapes
