-- Which names are bound together, and which of them twice.
use Rattle.std.specs.Prelude.{◌≡◌, ℕ, ◌<◌, Bool, false, if◌then◌else◌, List, [], ◌∷◌, ◌++◌, Option, Some, None, slice_get}
use Rattle.std.specs.List.{flat_map}
use Rattle.mb_base.specs.declared.value.NodeId.{NodeId}
use Rattle.mb_base.specs.declared.value.StrId.{StrId}
use Rattle.mb_tree.specs.Roses.{Shape}
use Rattle.mb_scope.specs.declared.binding.Binding.{Binding}
use Rattle.mb_scope.specs.declared.binding.Declares.{Declares}
use Rattle.mb_scope.specs.declared.binding.Declares.TheVariants.{Itself, Decls, Nothing}
use Rattle.mb_scope.specs.Kinds.{declares_of, is_decl, handler_of}

-- the binding of a node that has a name
abbrev pub own : NodeId → Option StrId → Bool → List Binding
own id None fixed = []
own id (Some name) fixed = record { node = id; name = name; fixed = fixed } ∷ []

-- what a node binds if it is a Decl
abbrev pub decl_of : Bool → NodeId → Option Shape → List Binding
decl_of fixed id None = []
decl_of fixed id (Some node) = if is_decl node.label.kind then own id node.label.name fixed else []

abbrev pub decl_binding : List Shape → Bool → NodeId → List Binding
decl_binding shapes fixed id = decl_of fixed id (slice_get shapes id.0)

-- what a node binds in the scope that it is a part of: itself, or its Decls
abbrev pub bound_as : List Shape → NodeId → Shape → Declares → List Binding
bound_as shapes id node Itself = own id node.label.name false
bound_as shapes id node (Decls fixed) = flat_map (decl_binding shapes fixed) node.children
bound_as shapes id node Nothing = []

abbrev pub bound_at : List Shape → NodeId → Option Shape → List Binding
bound_at shapes id None = []
bound_at shapes id (Some node) = bound_as shapes id node (declares_of node.label.kind)

abbrev pub bound_by : List Shape → NodeId → List Binding
bound_by shapes id = bound_at shapes id (slice_get shapes id.0)

-- What a scope with these parts binds (ECMA-262, 8.2.4, 8.2.10; for a function its parameters too). Parts that are no
-- declarations and no parameters bind nothing.
abbrev pub bindings_of : List Shape → List NodeId → List Binding
bindings_of shapes parts = flat_map (bound_by shapes) parts

abbrev pub parts_in : Option Shape → List NodeId
parts_in None = []
parts_in (Some node) = node.children

-- the block behind a catch's name
abbrev pub catch_block : Shape → Option NodeId
catch_block node = handler_of node.label.kind node.children

abbrev pub in_block : List Shape → Option NodeId → List Binding
in_block shapes None = []
in_block shapes (Some block) = bindings_of shapes (parts_in (slice_get shapes block.0))

-- The bindings of which no two may have one name: those of a scope (ECMA-262, 14.2.1, 14.3.1.1, 14.7.4.1, 15.1.1,
-- 15.2.1, 16.1.1), and a catch's name with those of its block (14.15.1). Everywhere a function declaration counts as a
-- `let` does, also at the top of a function or a script, where the standard lets it repeat names.
abbrev pub together : List Shape → Shape → List Binding
together shapes node = bindings_of shapes node.children ++ in_block shapes (catch_block node)

-- the node of a binding that has the name of an earlier one
pub record Repeats (bindings : List Binding) (id : NodeId) : Type 0 where
  pub first : ℕ
  pub second : ℕ
  pub earlier : Binding
  pub later : Binding
  pub in_order : first < second
  pub earlier_is : slice_get bindings first ≡ Some earlier
  pub later_is : slice_get bindings second ≡ Some later
  pub one_name : earlier.name ≡ later.name
  pub of_node : later.node ≡ id

-- the node binds a name a second time
pub record IsTwice (shapes : List Shape) (id : NodeId) : Type 0 where
  pub scope : NodeId
  pub node : Shape
  pub is : slice_get shapes scope.0 ≡ Some node
  pub repeats : Repeats (together shapes node) id
