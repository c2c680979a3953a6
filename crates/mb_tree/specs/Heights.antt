-- How high trees are.
use Rattle.std.specs.Prelude.{ℕ, suc, ◌≡◌, max, List, [], refl}
use Rattle.mb_tree.specs.declared.kind.Kind.TheVariants as k
use Rattle.mb_tree.specs.Roses.{Rose, Roses, node, none, more, bare, Shape, write}

-- the number of nodes on the longest way down from the root
abbrev mutual
  pub height_of : Rose → ℕ
  height_of (node label parts) = suc (most_of parts)

  pub most_of : Roses → ℕ
  most_of none = 0
  most_of (more part parts) = max (height_of part) (most_of parts)

-- no node, or those of one tree
pub data IsWhole : List Shape → Type 0 where
  empty : IsWhole []
  whole : (tree : Rose) {shapes : List Shape} → shapes ≡ write [] tree → IsWhole shapes

-- this, this()
abbrev pub a_call : Rose
a_call =
    let this = node (bare k.This) none in
    node (bare k.Seq) (more this (more (node (bare k.Call) (more this none)) none))

three_high : height_of a_call ≡ 3
three_high = refl
