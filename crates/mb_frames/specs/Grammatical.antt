-- What a step reads of a script: each node has the parts of its kind, at each place a node of the sort that stands
-- there, and the names of a scope are distinct.
use Rattle.std.specs.Prelude.{◌<◌, ◌^◌, ◌≡◌, ◌⊎◌, All, Bool, IsSomeAnd, List, Option, Some, drop, false, is_some, length, nat_eq, slice_get, true}
use Rattle.std.specs.List.{IsDistinct, filter}
use Rattle.mb_base.specs.declared.value.NodeId.{NodeId}
use Rattle.mb_base.specs.declared.value.StrId.{StrId}
use Rattle.mb_frames.specs.Kinds.{Declared, Expression, NodeSort, Parameter, PropertyDefinition, Statement}
use Rattle.mb_tree.specs.Form.{AndForm, ArrayForm, ArrowForm, AssignForm, BinaryForm, BlockForm, BreakForm, CallForm, CompoundForm, Computed, CondForm, ConstForm, ContinueForm, DeclForm, DoWhileForm, EmptyForm, ExprStmtForm, ForForm, Form, FunctionDeclForm, FunctionForm, FunctionParts, GetterForm, GroupForm, IfForm, IndexForm, LetForm, LiteralForm, MemberForm, MethodForm, NameForm, NewForm, NumberForm, ObjectForm, OrForm, ParamForm, PropName, ReturnForm, ScriptForm, SeqForm, SetterForm, TextForm, ThisForm, ThrowForm, TryForm, UnaryForm, UpdateForm, ValueForm, Whole, WhileForm, Written, form_of}
use Rattle.mb_tree.specs.Roses.{Shape}
use Rattle.mb_tree.specs.declared.kind.Kind.{Kind}
use Rattle.mb_tree.specs.declared.kind.Kind.TheVariants as k
use Rattle.mb_tree.specs.declared.kind.Sign.{Sign}
use Rattle.mb_tree.specs.declared.kind.Sign.TheVariants.{In, Instanceof}
use Rattle.mb_world.specs.Data.{Script}
use Rattle.mb_world.specs.Formed.{is_whole}
use Rattle.mb_world.specs.Ids.{Maybe}

-- an operator that asks an object of something (ECMA-262 13.10)
abbrev pub asks_objects : Sign → Bool
asks_objects In = true
asks_objects Instanceof = true
asks_objects sign = false

abbrev pub kind_sort : Kind → NodeSort
kind_sort k.Script = Statement
kind_sort k.Let = Statement
kind_sort k.Const = Statement
kind_sort k.Decl = Declared
kind_sort (k.FunctionDecl params) = Statement
kind_sort k.Block = Statement
kind_sort k.Empty = Statement
kind_sort k.ExprStmt = Statement
kind_sort k.If = Statement
kind_sort k.While = Statement
kind_sort k.DoWhile = Statement
kind_sort (k.For first test last) = Statement
kind_sort k.Return = Statement
kind_sort k.Throw = Statement
kind_sort k.Break = Statement
kind_sort k.Continue = Statement
kind_sort (k.Try caught named ended) = Statement
kind_sort k.Param = Parameter
kind_sort (k.Value key) = PropertyDefinition
kind_sort (k.Method key params) = PropertyDefinition
kind_sort (k.Getter key) = PropertyDefinition
kind_sort (k.Setter key) = PropertyDefinition
kind_sort kind = Expression

-- ---- the parts of a form, where P tells which nodes are of a sort

abbrev pub ArePartsOfFunction : (NodeSort → NodeId → Type 0) → NodeSort → FunctionParts → Type 0
ArePartsOfFunction P body parts = All (P Parameter) parts.params × All (P body) parts.body

abbrev pub IsKey : (NodeSort → NodeId → Type 0) → PropName → Type 0
IsKey P (Written name) = Unit {0}
IsKey P (Whole whole) = Unit {0}
IsKey P (Computed key) = P Expression key

-- a body in braces has statements, and else an arrow has an expression
abbrev pub body_sort : Bool → NodeSort
body_sort true = Statement
body_sort false = Expression

abbrev pub HasItsParts : (NodeSort → NodeId → Type 0) → Form → Type 0
HasItsParts P (ScriptForm statements) = All (P Statement) statements
HasItsParts P (LetForm decls) = All (P Declared) decls
HasItsParts P (ConstForm decls) = All (P Declared) decls
HasItsParts P (DeclForm name value) = Maybe (P Expression) value
HasItsParts P (FunctionDeclForm name parts) = ArePartsOfFunction P Statement parts
HasItsParts P (BlockForm statements) = All (P Statement) statements
HasItsParts P EmptyForm = Unit {0}
HasItsParts P (ExprStmtForm value) = P Expression value
HasItsParts P (IfForm test main other) = P Expression test × P Statement main × Maybe (P Statement) other
HasItsParts P (WhileForm test body) = P Expression test × P Statement body
HasItsParts P (DoWhileForm body test) = P Statement body × P Expression test
HasItsParts P (ForForm first test last body) =
    Maybe (λ id. P Expression id ⊎ P Statement id) first × Maybe (P Expression) test × Maybe (P Expression) last
    × P Statement body
HasItsParts P (ReturnForm value) = Maybe (P Expression) value
HasItsParts P (ThrowForm value) = P Expression value
HasItsParts P BreakForm = Unit {0}
HasItsParts P ContinueForm = Unit {0}
HasItsParts P (TryForm block caught handler ending) =
    P Statement block × Maybe (P Parameter) caught × Maybe (P Statement) handler × Maybe (P Statement) ending
HasItsParts P (ParamForm name) = Unit {0}
HasItsParts P (SeqForm values) = All (P Expression) values
HasItsParts P (AssignForm target value) = P Expression target × P Expression value
HasItsParts P (CompoundForm sign target value) =
    (asks_objects sign ≡ false) × P Expression target × P Expression value
HasItsParts P (ArrowForm parts block) = ArePartsOfFunction P (body_sort block) parts
HasItsParts P (CondForm test main other) = P Expression test × P Expression main × P Expression other
HasItsParts P (OrForm left right) = P Expression left × P Expression right
HasItsParts P (AndForm left right) = P Expression left × P Expression right
HasItsParts P (BinaryForm sign left right) = P Expression left × P Expression right
HasItsParts P (UnaryForm sign operand) = P Expression operand
HasItsParts P (UpdateForm plus prefix target) = P Expression target
HasItsParts P (NewForm callee arguments) = P Expression callee × All (P Expression) arguments
HasItsParts P (MemberForm base name) = P Expression base
HasItsParts P (IndexForm base key) = P Expression base × P Expression key
HasItsParts P (CallForm callee arguments) = P Expression callee × All (P Expression) arguments
HasItsParts P ThisForm = Unit {0}
HasItsParts P (NameForm name) = Unit {0}
HasItsParts P (NumberForm whole) = is_whole whole ≡ true
HasItsParts P (TextForm text) = Unit {0}
HasItsParts P (LiteralForm fixed) = Unit {0}
HasItsParts P (ArrayForm elements) = All (P Expression) elements
HasItsParts P (ObjectForm properties) = All (P PropertyDefinition) properties
HasItsParts P (FunctionForm name parts) = ArePartsOfFunction P Statement parts
HasItsParts P (GroupForm inner) = P Expression inner
HasItsParts P (ValueForm key value) = IsKey P key × P Expression value
HasItsParts P (MethodForm key parts) = IsKey P key × ArePartsOfFunction P Statement parts
HasItsParts P (GetterForm key parts) = IsKey P key × ArePartsOfFunction P Statement parts
HasItsParts P (SetterForm key parts) = IsKey P key × ArePartsOfFunction P Statement parts

-- ---- scripts

-- the node is there, and of that sort
abbrev pub IsOfNodeSort : List Shape → NodeSort → NodeId → Type 0
IsOfNodeSort nodes sort id = IsSomeAnd (slice_get nodes id.0) (λ x. kind_sort x.label.kind ≡ sort)

-- a node has as many parts as its kind has, fewer than 2^32, and each is of the sort of its place
pub record IsGrammatical (nodes : List Shape) (x : Shape) : Type 0 where
  pub form : is_some (form_of x) ≡ true
  pub few : length x.children < 2 ^ 32
  pub parts : (f : Form) → form_of x ≡ Some f → HasItsParts (IsOfNodeSort nodes) f

-- the names that a node's scope binds; a named function expression's own name stands first, in a scope of its own
abbrev pub bound_at : Script → NodeId → List (NodeId × StrId × Bool)
bound_at p n = filter (λ x. nat_eq x.0.0 n.0) p.names

abbrev pub without_own : Option Form → List (NodeId × StrId × Bool) → List (NodeId × StrId × Bool)
without_own (Some (FunctionForm (Some name) parts)) names = drop 1 names
without_own form names = names

pub record IsProgram (p : Script) : Type 0 where
  pub nodes : All (IsGrammatical p.nodes) p.nodes
  pub distinct : (n : NodeId) (x : Shape) → slice_get p.nodes n.0 ≡ Some x →
      IsDistinct (λ a b. nat_eq a.1.0 b.1.0) (without_own (form_of x) (bound_at p n))
