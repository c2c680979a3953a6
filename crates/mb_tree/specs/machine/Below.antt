-- What lies below a node.
use Rattle.std.specs.Prelude.{ℕ, ◌<◌, ◌≡◌, max, List, [], ◌∷◌, slice_index, Some, slice_get}
use Rattle.mb_base.specs.declared.value.NodeId.{NodeId}

-- each of these is a place among so many
abbrev pub AreAmong : List NodeId → ℕ → Type 0
AreAmong ids n = (i : ℕ) (id : NodeId) → slice_get ids i ≡ Some id → id.0 < n

-- the greatest of the numbers at these places, 0 where there are none
abbrev pub most_at : List ℕ → List NodeId → ℕ
most_at numbers [] = 0
most_at numbers (id ∷ ids) = max (slice_index numbers id.0) (most_at numbers ids)
