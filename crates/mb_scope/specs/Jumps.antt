-- Statements that leave what isn't around them.
use Rattle.std.specs.Prelude.{◌≡◌, IsTrue, IsFalse, List, Some, slice_get}
use Rattle.std.specs.List.{Contains}
use Rattle.mb_base.specs.declared.value.NodeId.{NodeId}
use Rattle.mb_tree.specs.Roses.{Shape}
use Rattle.mb_scope.specs.declared.jump.Jump.{Jump}
use Rattle.mb_scope.specs.declared.jump.Jump.TheVariants.{FromFunction, FromLoop, Nothing}
use Rattle.mb_scope.specs.Kinds.{is_function, is_loop, jump_of}

-- the first is a part of the second, which is this node
pub record IsPart (shapes : List Shape) (part outer : NodeId) (node : Shape) : Type 0 where
  pub is : slice_get shapes outer.0 ≡ Some node
  pub among : Contains node.children part

-- a function stands around the node
pub data InFunction (shapes : List Shape) : NodeId → Type 0 where
  direct_function : {id outer : NodeId} {node : Shape}
      → IsPart shapes id outer node
      → IsTrue (is_function node.label.kind)
      → InFunction shapes id
  outer_function : {id outer : NodeId} {node : Shape}
      → IsPart shapes id outer node
      → InFunction shapes outer
      → InFunction shapes id

-- a loop stands around the node, and no function between them
pub data InLoop (shapes : List Shape) : NodeId → Type 0 where
  direct_loop : {id outer : NodeId} {node : Shape}
      → IsPart shapes id outer node
      → IsTrue (is_loop node.label.kind)
      → InLoop shapes id
  outer_loop : {id outer : NodeId} {node : Shape}
      → IsPart shapes id outer node
      → IsFalse (is_function node.label.kind)
      → InLoop shapes outer
      → InLoop shapes id

abbrev pub Strays : List Shape → NodeId → Jump → Type 0
Strays shapes id FromFunction = ¬ InFunction shapes id
Strays shapes id FromLoop = ¬ InLoop shapes id
Strays shapes id Nothing = ⊥

-- a `return` outside of functions (ECMA-262, 14.10.1), a `break` or `continue` outside of loops (14.9.1, 14.8.1)
pub record IsStray (shapes : List Shape) (id : NodeId) : Type 0 where
  pub node : Shape
  pub is : slice_get shapes id.0 ≡ Some node
  pub strays : Strays shapes id (jump_of node.label.kind)
