-- What stands at a node, in the words of the definitions.
use Rattle.std.proofs.Common.{◌≡◌, ℕ, ◌+◌, ◌<◌, ◌≤◌, Bool, List, [], ◌∷◌, length, drop, get_or, Some, sym, ap, ◌∙◌, arith}
use Rattle.std.specs.Prelude.{slice_get, if◌then◌else◌, vec_len}
use Rattle.std.proofs.lemmas.List.{length-map}
use Rattle.mb_base.specs.declared.value.NodeId.{NodeId}
use Rattle.mb_tree.specs.declared.tree.Node.{Node}
use Rattle.mb_tree.specs.declared.tree.Tree.{Tree}
use Rattle.mb_tree.specs.Roses.{view, shapes}
use Rattle.mb_tree.specs.Heights.{IsWhole}
use Rattle.mb_tree.specs.machine.Below.{AreAmong}
use Rattle.mb_tree.proofs.Heights.{view_there, view_next, parts_first}
use Rattle.mb_scope.specs.declared.binding.Declares.{Declares}
use Rattle.mb_scope.specs.Kinds.{is_decl, declares_of}
use Rattle.mb_scope.specs.Bindings.{own, decl_of, decl_binding, bound_as, bound_at, bound_by}

pub long : (tree : Tree) → vec_len tree.nodes ≡ length tree.nodes.items
long tree = omega (arith, tree.nodes.ok.0)

pub shapes_long : (tree : Tree) → length (shapes tree) ≡ vec_len tree.nodes
shapes_long tree = omega (arith, long tree, length-map tree.nodes.items view)

module _ (tree : Tree) (i : ℕ) (n : Node) (within : i < vec_len tree.nodes) (is : n ≡ get_or tree.nodes.items i n) where
  inside : i < length tree.nodes.items
  inside = omega (arith, long tree)

  pub there : slice_get (shapes tree) i ≡ Some (view n)
  there = view_there tree.nodes.items i n inside is

  -- the node's parts are nodes
  pub among_all : IsWhole (shapes tree) → AreAmong n.children.items (vec_len tree.nodes)
  among_all w = λ k id e. let lt : id.0 < i = parts_first w i (view n) there k id e in omega arith

  -- the same where they are read as a slice
  pub among_read : IsWhole (shapes tree) → (ids : List NodeId) → ids ≡ n.children.items → AreAmong ids (vec_len tree.nodes)
  among_read w ids e = λ k id q. among_all w k id (ap (λ (xs : List NodeId). slice_get xs k) (sym e) ∙ q)

module _ (tree : Tree) (id : NodeId) (n : Node) (within : id.0 < vec_len tree.nodes) (is : n ≡ get_or tree.nodes.items id.0 n) where
  pub decl_there : (fixed b : Bool) → b ≡ is_decl n.kind → (if b then own id n.name fixed else []) ≡ decl_binding (shapes tree) fixed id
  decl_there fixed b e = ap (λ x. if x then own id n.name fixed else []) e ∙ sym (ap (decl_of fixed id) (there tree id.0 n within is))

  pub bound_there : (d : Declares) → d ≡ declares_of n.kind → bound_as (shapes tree) id (view n) d ≡ bound_by (shapes tree) id
  bound_there d e = ap (bound_as (shapes tree) id (view n)) e ∙ sym (ap (bound_at (shapes tree) id) (there tree id.0 n within is))

-- a node that a loop has come to
pub record IsItem (tree : Tree) (i : ℕ) (n : Node) : Type 0 where
  pub within : i < vec_len tree.nodes
  pub is : n ≡ get_or tree.nodes.items i n

pub item : (tree : Tree) (items : List Node) (i : ℕ) (n : Node) → items ≡ tree.nodes.items → i < length items → n ≡ get_or items i n → IsItem tree i n
item tree items i n e within is = record {
  within = omega (arith, ap length e, long tree);
  is = is ∙ ap (λ (xs : List Node). get_or xs i n) e;
}

-- the nodes have all been gone over
pub item_end : (tree : Tree) (items : List Node) (i : ℕ) → items ≡ tree.nodes.items → length items ≤ i → length (shapes tree) ≤ i
item_end tree items i e h = omega (arith, ap length e, long tree, shapes_long tree)

module _ (tree : Tree) (i : ℕ) (n : Node) (t : IsItem tree i n) where
  pub item_there : slice_get (shapes tree) i ≡ Some (view n)
  item_there = there tree i n t.within t.is

  pub item_parts : IsWhole (shapes tree) → AreAmong n.children.items (vec_len tree.nodes)
  item_parts = among_all tree i n t.within t.is

  pub item_next : drop i (shapes tree) ≡ view n ∷ drop (i + 1) (shapes tree)
  item_next = view_next tree.nodes.items i n (inside tree i n t.within t.is) t.is
