-- The index from a node to the names that its scope binds.
use Rattle.std.specs.Prelude.{◌≡◌, ◌<◌, ℕ, List, length, nat_lt, slice_index, All}
use Rattle.std.specs.List.{count_by}
use Rattle.std.specs.List.Sorted.{IsNonDecreasingBy}
use Rattle.mb_tree.specs.Names.{Binds, node_of}

-- how many names belong to nodes before that place
abbrev pub before : ℕ → List Binds → ℕ
before n names = count_by (λ b. nat_lt (node_of b) n) names

-- the starts of these names
pub record AreStarts (names : List Binds) (starts : List ℕ) : Type 0 where
  pub begin : (n : ℕ) → n < length starts → slice_index starts n ≡ before n names
  pub reach : All (λ b. node_of b < length starts) names

-- the names ascend, and those are their starts
pub record IsIndexed (names : List Binds) (starts : List ℕ) : Type 0 where
  pub ascend : IsNonDecreasingBy node_of names
  pub are : AreStarts names starts
