-- What the kinds of nodes are to the static rules.
use Rattle.std.specs.Prelude.{Bool, true, false, List, [], ◌∷◌, Option, Some, None}
use Rattle.mb_base.specs.declared.value.NodeId.{NodeId}
use Rattle.mb_tree.specs.declared.kind.Kind.{Kind}
use Rattle.mb_tree.specs.declared.kind.Kind.TheVariants as k
use Rattle.mb_tree.specs.declared.kind.Sign.TheVariants as s
use Rattle.mb_scope.specs.declared.binding.Declares.{Declares}
use Rattle.mb_scope.specs.declared.binding.Declares.TheVariants.{Itself, Decls, Nothing}
use Rattle.mb_scope.specs.declared.jump.Jump.{Jump}
use Rattle.mb_scope.specs.declared.jump.Jump.TheVariants as j
use Rattle.mb_scope.specs.declared.target.TargetType.{TargetType}
use Rattle.mb_scope.specs.declared.target.TargetType.TheVariants.{Simple, Grouped, Invalid}
use Rattle.mb_scope.specs.declared.target.Use.{Use}
use Rattle.mb_scope.specs.declared.target.Use.TheVariants.{Assigns, Deletes, Plain}

-- names (ECMA-262, 8.2)

-- what a node binds in the scope that it is a part of
abbrev pub declares_of : Kind → Declares
declares_of k.Param = Itself
declares_of (k.FunctionDecl _) = Itself
declares_of k.Let = Decls false
declares_of k.Const = Decls true
declares_of _ = Nothing

abbrev pub is_decl : Kind → Bool
is_decl k.Decl = true
is_decl _ = false

-- the block behind a catch's name (ECMA-262, 14.15)
abbrev pub handler_of : Kind → List NodeId → Option NodeId
handler_of (k.Try true true false) (block ∷ caught ∷ handler ∷ []) = Some handler
handler_of (k.Try true true true) (block ∷ caught ∷ handler ∷ ending ∷ []) = Some handler
handler_of _ _ = None

-- a function expression, whose name is bound within it alone (ECMA-262, 15.2)
abbrev pub names_itself : Kind → Bool
names_itself (k.Function _) = true
names_itself _ = false

-- statements that leave (ECMA-262, 14.8, 14.9, 14.10)

abbrev pub jump_of : Kind → Jump
jump_of k.Return = j.FromFunction
jump_of k.Break = j.FromLoop
jump_of k.Continue = j.FromLoop
jump_of _ = j.Nothing

abbrev pub is_function : Kind → Bool
is_function (k.FunctionDecl _) = true
is_function (k.Arrow _ _) = true
is_function (k.Function _) = true
is_function (k.Method _ _) = true
is_function (k.Getter _) = true
is_function (k.Setter _) = true
is_function _ = false

abbrev pub is_loop : Kind → Bool
is_loop k.While = true
is_loop k.DoWhile = true
is_loop (k.For _ _ _) = true
is_loop _ = false

-- targets (ECMA-262, 8.6.4, 13.4.1, 13.5.1.1, 13.15.1)

abbrev pub target_type_of : Kind → TargetType
target_type_of k.Name = Simple
target_type_of k.Member = Simple
target_type_of k.Index = Simple
target_type_of k.Group = Grouped
target_type_of _ = Invalid

abbrev pub use_of : Kind → Use
use_of k.Assign = Assigns
use_of (k.Compound _) = Assigns
use_of (k.Update _ _) = Assigns
use_of (k.Unary s.Delete) = Deletes
use_of _ = Plain

abbrev pub is_property : Kind → Bool
is_property k.Member = true
is_property k.Index = true
is_property _ = false

-- what stands in parentheses
abbrev pub group_part : Kind → List NodeId → Option NodeId
group_part k.Group (part ∷ []) = Some part
group_part _ _ = None

-- what an operator assigns to, or its one operand
abbrev pub operand_of : Kind → List NodeId → Option NodeId
operand_of k.Assign (target ∷ value ∷ []) = Some target
operand_of (k.Compound sign) (target ∷ value ∷ []) = Some target
operand_of (k.Update plus prefix) (target ∷ []) = Some target
operand_of (k.Unary sign) (operand ∷ []) = Some operand
operand_of _ _ = None
