-- Trees, and how they are laid flat.
use Rattle.std.specs.Prelude.{◌≡◌, ℕ, suc, ℤ, pos, List, [], ◌∷◌, ◌++◌, Some, None, length, map}
use Rattle.mb_base.specs.declared.value.NodeId.{NodeId}
use Rattle.mb_base.specs.declared.value.StrId.{StrId}
use Rattle.mb_tree.specs.declared.kind.Kind.{Kind}
use Rattle.mb_tree.specs.declared.tree.Label.{Label as TheLabel}
use Rattle.mb_tree.specs.declared.tree.Node.{Node}
use Rattle.mb_tree.specs.declared.tree.Tree.{Tree}

-- what a node is without its parts
abbrev pub Label : Type 0
Label = TheLabel

abbrev pub bare : Kind → Label
bare k = record { kind = k; name = None; whole = pos 0 }

abbrev pub named : Kind → StrId → Label
named k n = record { kind = k; name = Some n; whole = pos 0 }

abbrev pub numbered : Kind → ℤ → Label
numbered k n = record { kind = k; name = None; whole = n }

mutual
  -- a node, and the trees of its parts in source order
  pub data Rose : Type 0 where
    node : Label → Roses → Rose

  pub data Roses : Type 0 where
    none : Roses
    more : Rose → Roses → Roses

-- how many trees these are
abbrev pub size : Roses → ℕ
size none = 0
size (more part parts) = suc (size parts)

-- these trees, and then those
abbrev pub join : Roses → Roses → Roses
join none parts = parts
join (more first rest) parts = more first (join rest parts)

-- a node as it lies among others
pub record Shape : Type 0 where
  pub label : Label
  pub children : List NodeId

abbrev pub shape : Label → List NodeId → Shape
shape l c = record { label = l; children = c }

abbrev pub label_of : Node → Label
label_of n = record { kind = n.kind; name = n.name; whole = n.whole }

abbrev pub view : Node → Shape
view n = shape (label_of n) n.children.items

abbrev pub views : List Node → List Shape
views = map view

-- the nodes of a flat tree
abbrev pub shapes : Tree → List Shape
shapes t = views t.nodes.items

abbrev pub id_of : ℕ → NodeId
id_of n = record { 0 = n }

-- what is written once a tree is written behind out: its parts, and then its own node
abbrev mutual
  pub write : List Shape → Rose → List Shape
  write out (node label parts) = write_all out parts ++ shape label (roots out parts) ∷ []

  pub write_all : List Shape → Roses → List Shape
  write_all out none = out
  write_all out (more part parts) = write_all (write out part) parts

  -- the places of the parts' own nodes
  pub roots : List Shape → Roses → List NodeId
  roots out none = []
  roots out (more part parts) = id_of (root out part) ∷ roots (write out part) parts

  -- the place of a tree's own node
  pub root : List Shape → Rose → ℕ
  root out (node label parts) = length (write_all out parts)

-- the old nodes stand first among the new ones, unchanged
pub record Extends (old new : List Shape) : Type 0 where
  pub added : List Shape
  pub is : new ≡ old ++ added
