-- Trees that wait on a stack to become parts.
use Rattle.std.specs.Prelude.{ℕ, zero, suc, List, [], ◌∷◌, ◌++◌}
use Rattle.mb_base.specs.declared.value.NodeId.{NodeId}
use Rattle.mb_tree.specs.Roses.{Rose, Roses, none, more, Shape, id_of, write, root}

-- what is written once the operands are, the last one first
abbrev pub written : List Shape → List Rose → List Shape
written base [] = base
written base (r ∷ rs) = write (written base rs) r

-- the places of the operands' nodes, the first one first
abbrev pub places : List Shape → List Rose → List NodeId
places base [] = []
places base (r ∷ rs) = places base rs ++ id_of (root (written base rs) r) ∷ []

-- the operands, the last one first, once these follow
abbrev pub pushed : Roses → List Rose → List Rose
pushed none rs = rs
pushed (more part parts) rs = pushed parts (part ∷ rs)

pub data Gathered : Type 0 where
  Short : Gathered
  Got : (parts : Roses) (rest : List Rose) → Gathered

-- the last n operands before these parts, and the operands before them
abbrev pub gather : ℕ → List Rose → Roses → Gathered
gather zero rs parts = Got parts rs
gather (suc n) [] parts = Short
gather (suc n) (r ∷ rs) parts = gather n rs (more r parts)
