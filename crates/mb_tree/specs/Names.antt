-- The names that the scopes of a script bind.
use Rattle.std.specs.Prelude.{ℕ, Bool, List, nat_eq}
use Rattle.std.specs.List.{filter}
use Rattle.mb_base.specs.declared.value.NodeId.{NodeId}
use Rattle.mb_base.specs.declared.value.StrId.{StrId}

-- a scope node, a name that it binds, and whether the name is fixed
abbrev pub Binds : Type 0
Binds = NodeId × StrId × Bool

-- the place of the node
abbrev pub node_of : Binds → ℕ
node_of b = b.0.0

-- the names that the scope of a node binds
abbrev pub names_at : NodeId → List Binds → List Binds
names_at node names = filter (λ b. nat_eq (node_of b) node.0) names
