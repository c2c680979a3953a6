-- Operators whose operand isn't what they want.
use Rattle.std.specs.Prelude.{◌≡◌, IsTrue, List, Option, Some, None, slice_get}
use Rattle.mb_base.specs.declared.value.NodeId.{NodeId}
use Rattle.mb_tree.specs.Roses.{Shape}
use Rattle.mb_scope.specs.declared.target.TargetType.TheVariants.{Simple, Grouped}
use Rattle.mb_scope.specs.declared.target.Use.{Use}
use Rattle.mb_scope.specs.declared.target.Use.TheVariants.{Assigns, Deletes, Plain}
use Rattle.mb_scope.specs.Kinds.{target_type_of, use_of, is_property, group_part, operand_of}

-- the node at a place
pub record IsNode (shapes : List Shape) (id : NodeId) (node : Shape) : Type 0 where
  pub is : slice_get shapes id.0 ≡ Some node

-- a name or a property, perhaps in parentheses (ECMA-262, 8.6.4)
pub data IsTarget (shapes : List Shape) : NodeId → Type 0 where
  simple : {id : NodeId} {node : Shape}
      → IsNode shapes id node
      → target_type_of node.label.kind ≡ Simple
      → IsTarget shapes id
  grouped : {id part : NodeId} {node : Shape}
      → IsNode shapes id node
      → target_type_of node.label.kind ≡ Grouped
      → group_part node.label.kind node.children ≡ Some part
      → IsTarget shapes part
      → IsTarget shapes id

pub record IsProperty (shapes : List Shape) (id : NodeId) : Type 0 where
  pub node : Shape
  pub is : slice_get shapes id.0 ≡ Some node
  pub property : IsTrue (is_property node.label.kind)

-- An operand isn't what its operator wants. Of what isn't a property the standard refuses the deletion of names alone
-- (13.5.1.1), here all of it is refused, and so is a property in parentheses: `delete (a.b)`.
abbrev pub Misses : List Shape → Use → NodeId → Type 0
Misses shapes Assigns operand = ¬ IsTarget shapes operand
Misses shapes Deletes operand = ¬ IsProperty shapes operand
Misses shapes Plain operand = ⊥

abbrev pub MissesAt : List Shape → Use → Option NodeId → Type 0
MissesAt shapes usage None = ⊥
MissesAt shapes usage (Some operand) = Misses shapes usage operand

abbrev pub MissesFirst : List Shape → Shape → Type 0
MissesFirst shapes node = MissesAt shapes (use_of node.label.kind) (operand_of node.label.kind node.children)

-- an operator that assigns to what isn't a target (ECMA-262, 13.4.1, 13.15.1), or deletes what isn't a property
pub record IsBadTarget (shapes : List Shape) (id : NodeId) : Type 0 where
  pub node : Shape
  pub is : slice_get shapes id.0 ≡ Some node
  pub misses : MissesFirst shapes node
