-- A node's parts by name.
use Rattle.std.specs.Prelude.{ℕ, ℤ, nat_le, Bool, true, false, if◌then◌else◌, List, [], ◌∷◌, ◌++◌, length, take, drop, Option, Some, None, is_some, option_to_list}
use Rattle.std.specs.Option.{option_map}
use Rattle.mb_base.specs.declared.value.NodeId.{NodeId}
use Rattle.mb_base.specs.declared.value.StrId.{StrId}
use Rattle.mb_tree.specs.declared.kind.Kind.{Kind}
use Rattle.mb_tree.specs.declared.kind.Kind.TheVariants as k
use Rattle.mb_tree.specs.declared.kind.PropKey.{PropKey}
use Rattle.mb_tree.specs.declared.kind.PropKey.TheVariants as pk
use Rattle.mb_tree.specs.declared.kind.Sign.{Sign}
use Rattle.mb_tree.specs.declared.kind.Fixed.{Fixed}
use Rattle.mb_tree.specs.Roses.{Label, Shape}

-- how a property of an object literal is named (ECMA-262, 13.2.5, PropertyName)
pub data PropName : Type 0 where
  Written : StrId → PropName
  Whole : ℤ → PropName
  Computed : NodeId → PropName

-- a function's parameters, and the statements of its body or the expression that it is (15.2, 15.3)
pub record FunctionParts : Type 0 where
  pub params : List NodeId
  pub body : List NodeId

pub data Form : Type 0 where
  ScriptForm : (statements : List NodeId) → Form
  LetForm : (decls : List NodeId) → Form
  ConstForm : (decls : List NodeId) → Form
  DeclForm : (name : StrId) (value : Option NodeId) → Form
  FunctionDeclForm : (name : StrId) (parts : FunctionParts) → Form
  BlockForm : (statements : List NodeId) → Form
  EmptyForm : Form
  ExprStmtForm : (value : NodeId) → Form
  IfForm : (test main : NodeId) (otherwise : Option NodeId) → Form
  WhileForm : (test body : NodeId) → Form
  DoWhileForm : (body test : NodeId) → Form
  ForForm : (first test last : Option NodeId) (body : NodeId) → Form
  ReturnForm : (value : Option NodeId) → Form
  ThrowForm : (value : NodeId) → Form
  BreakForm : Form
  ContinueForm : Form
  TryForm : (block : NodeId) (caught handler ending : Option NodeId) → Form
  ParamForm : (name : StrId) → Form
  SeqForm : (values : List NodeId) → Form
  AssignForm : (target value : NodeId) → Form
  CompoundForm : (sign : Sign) (target value : NodeId) → Form
  ArrowForm : (parts : FunctionParts) (block : Bool) → Form
  CondForm : (test main otherwise : NodeId) → Form
  OrForm : (left right : NodeId) → Form
  AndForm : (left right : NodeId) → Form
  BinaryForm : (sign : Sign) (left right : NodeId) → Form
  UnaryForm : (sign : Sign) (operand : NodeId) → Form
  UpdateForm : (plus prefix : Bool) (target : NodeId) → Form
  NewForm : (callee : NodeId) (arguments : List NodeId) → Form
  MemberForm : (base : NodeId) (name : StrId) → Form
  IndexForm : (base key : NodeId) → Form
  CallForm : (callee : NodeId) (arguments : List NodeId) → Form
  ThisForm : Form
  NameForm : (name : StrId) → Form
  NumberForm : (whole : ℤ) → Form
  TextForm : (text : StrId) → Form
  LiteralForm : (fixed : Fixed) → Form
  ArrayForm : (elements : List NodeId) → Form
  ObjectForm : (properties : List NodeId) → Form
  FunctionForm : (name : Option StrId) (parts : FunctionParts) → Form
  GroupForm : (inner : NodeId) → Form
  ValueForm : (key : PropName) (value : NodeId) → Form
  MethodForm : (key : PropName) (parts : FunctionParts) → Form
  GetterForm : (key : PropName) (parts : FunctionParts) → Form
  SetterForm : (key : PropName) (parts : FunctionParts) → Form

-- which children are which parts; None where there are too few or too many

-- a form without parts
abbrev pub leaf_of : List NodeId → Form → Option Form
leaf_of [] form = Some form
leaf_of _ form = None

-- the same with a name
abbrev pub named_leaf : (StrId → Form) → Option StrId → List NodeId → Option Form
named_leaf form None parts = None
named_leaf form (Some name) parts = leaf_of parts (form name)

abbrev pub one_of : List NodeId → Option NodeId
one_of (a ∷ []) = Some a
one_of _ = None

abbrev pub two_of : List NodeId → Option (NodeId × NodeId)
two_of (a ∷ b ∷ []) = Some (a, b)
two_of _ = None

-- a part that may be left out
abbrev pub at_most_one_of : List NodeId → Option (Option NodeId)
at_most_one_of [] = Some None
at_most_one_of (a ∷ []) = Some (Some a)
at_most_one_of _ = None

-- the first part and the others
abbrev pub first_and_rest : List NodeId → Option (NodeId × List NodeId)
first_and_rest [] = None
first_and_rest (a ∷ rest) = Some (a, rest)

-- so many parameters and what follows them
abbrev pub function_parts : ℕ → List NodeId → Option FunctionParts
function_parts n parts =
    if nat_le n (length parts) then Some (record { params = take n parts; body = drop n parts }) else None

-- the key of a property, and the parts behind it
abbrev pub key_and_rest : PropKey → Label → List NodeId → Option (PropName × List NodeId)
key_and_rest pk.Named label parts = option_map (λ name. (Written name, parts)) label.name
key_and_rest pk.Whole label parts = Some (Whole label.whole, parts)
key_and_rest pk.Computed label parts = option_map (λ (key, rest). (Computed key, rest)) (first_and_rest parts)

-- forms whose parts are told by more than their number

abbrev pub if_form : List NodeId → Option Form
if_form (test ∷ main ∷ []) = Some (IfForm test main None)
if_form (test ∷ main ∷ otherwise ∷ []) = Some (IfForm test main (Some otherwise))
if_form _ = None

abbrev pub cond_form : List NodeId → Option Form
cond_form (test ∷ main ∷ otherwise ∷ []) = Some (CondForm test main otherwise)
cond_form _ = None

-- by whether the head has its first, second and third part
abbrev pub for_form : Bool → Bool → Bool → List NodeId → Option Form
for_form false false false (body ∷ []) = Some (ForForm None None None body)
for_form true false false (first ∷ body ∷ []) = Some (ForForm (Some first) None None body)
for_form false true false (test ∷ body ∷ []) = Some (ForForm None (Some test) None body)
for_form false false true (last ∷ body ∷ []) = Some (ForForm None None (Some last) body)
for_form true true false (first ∷ test ∷ body ∷ []) = Some (ForForm (Some first) (Some test) None body)
for_form true false true (first ∷ last ∷ body ∷ []) = Some (ForForm (Some first) None (Some last) body)
for_form false true true (test ∷ last ∷ body ∷ []) = Some (ForForm None (Some test) (Some last) body)
for_form true true true (first ∷ test ∷ last ∷ body ∷ []) = Some (ForForm (Some first) (Some test) (Some last) body)
for_form _ _ _ _ = None

-- by whether there is a catch, a name in it, and a finally
abbrev pub try_form : Bool → Bool → Bool → List NodeId → Option Form
try_form true false false (block ∷ handler ∷ []) = Some (TryForm block None (Some handler) None)
try_form true true false (block ∷ caught ∷ handler ∷ []) = Some (TryForm block (Some caught) (Some handler) None)
try_form false false true (block ∷ ending ∷ []) = Some (TryForm block None None (Some ending))
try_form true false true (block ∷ handler ∷ ending ∷ []) = Some (TryForm block None (Some handler) (Some ending))
try_form true true true (block ∷ caught ∷ handler ∷ ending ∷ []) =
    Some (TryForm block (Some caught) (Some handler) (Some ending))
try_form _ _ _ _ = None

abbrev pub decl_form : Option StrId → Option (Option NodeId) → Option Form
decl_form (Some name) (Some value) = Some (DeclForm name value)
decl_form _ _ = None

abbrev pub member_form : Option StrId → Option NodeId → Option Form
member_form (Some name) (Some base) = Some (MemberForm base name)
member_form _ _ = None

abbrev pub function_decl_form : Option StrId → Option FunctionParts → Option Form
function_decl_form (Some name) (Some parts) = Some (FunctionDeclForm name parts)
function_decl_form _ _ = None

abbrev pub value_form : Option (PropName × List NodeId) → Option Form
value_form None = None
value_form (Some (key, rest)) = option_map (ValueForm key) (one_of rest)

abbrev pub method_form : ℕ → (PropName → FunctionParts → Form) → Option (PropName × List NodeId) → Option Form
method_form params form None = None
method_form params form (Some (key, rest)) = option_map (form key) (function_parts params rest)

abbrev pub property_form : Kind → Label → List NodeId → Option Form
property_form (k.Value key) label parts = value_form (key_and_rest key label parts)
property_form (k.Method key params) label parts = method_form params MethodForm (key_and_rest key label parts)
property_form (k.Getter key) label parts = method_form 0 GetterForm (key_and_rest key label parts)
property_form (k.Setter key) label parts = method_form 1 SetterForm (key_and_rest key label parts)
property_form _ label parts = None

abbrev pub operand_form : Kind → Label → List NodeId → Option Form
operand_form k.New label parts = option_map (λ (callee, arguments). NewForm callee arguments) (first_and_rest parts)
operand_form k.Member label parts = member_form label.name (one_of parts)
operand_form k.Index label parts = option_map (λ (base, key). IndexForm base key) (two_of parts)
operand_form k.Call label parts = option_map (λ (callee, arguments). CallForm callee arguments) (first_and_rest parts)
operand_form k.This label parts = leaf_of parts ThisForm
operand_form k.Name label parts = named_leaf NameForm label.name parts
operand_form k.Number label parts = leaf_of parts (NumberForm label.whole)
operand_form k.Text label parts = named_leaf TextForm label.name parts
operand_form (k.Literal fixed) label parts = leaf_of parts (LiteralForm fixed)
operand_form k.ArrayLit label parts = Some (ArrayForm parts)
operand_form k.ObjectLit label parts = Some (ObjectForm parts)
operand_form (k.Function params) label parts = option_map (FunctionForm label.name) (function_parts params parts)
operand_form k.Group label parts = option_map GroupForm (one_of parts)
operand_form kind label parts = property_form kind label parts

abbrev pub expression_form : Kind → Label → List NodeId → Option Form
expression_form k.Seq label parts = Some (SeqForm parts)
expression_form k.Assign label parts = option_map (λ (target, value). AssignForm target value) (two_of parts)
expression_form (k.Compound sign) label parts =
    option_map (λ (target, value). CompoundForm sign target value) (two_of parts)
expression_form (k.Arrow params block) label parts =
    option_map (λ function. ArrowForm function block) (function_parts params parts)
expression_form k.Cond label parts = cond_form parts
expression_form k.Or label parts = option_map (λ (left, right). OrForm left right) (two_of parts)
expression_form k.And label parts = option_map (λ (left, right). AndForm left right) (two_of parts)
expression_form (k.Binary sign) label parts = option_map (λ (left, right). BinaryForm sign left right) (two_of parts)
expression_form (k.Unary sign) label parts = option_map (UnaryForm sign) (one_of parts)
expression_form (k.Update plus prefix) label parts = option_map (UpdateForm plus prefix) (one_of parts)
expression_form kind label parts = operand_form kind label parts

abbrev pub statement_form : Kind → Label → List NodeId → Option Form
statement_form k.Decl label parts = decl_form label.name (at_most_one_of parts)
statement_form (k.FunctionDecl params) label parts = function_decl_form label.name (function_parts params parts)
statement_form k.ExprStmt label parts = option_map ExprStmtForm (one_of parts)
statement_form k.While label parts = option_map (λ (test, body). WhileForm test body) (two_of parts)
statement_form k.DoWhile label parts = option_map (λ (body, test). DoWhileForm body test) (two_of parts)
statement_form k.Return label parts = option_map ReturnForm (at_most_one_of parts)
statement_form k.Throw label parts = option_map ThrowForm (one_of parts)
statement_form k.Param label parts = named_leaf ParamForm label.name parts
statement_form kind label parts = expression_form kind label parts

abbrev pub form_by : Kind → Label → List NodeId → Option Form
form_by k.Script label parts = Some (ScriptForm parts)
form_by k.Let label parts = Some (LetForm parts)
form_by k.Const label parts = Some (ConstForm parts)
form_by k.Block label parts = Some (BlockForm parts)
form_by k.Empty label parts = leaf_of parts EmptyForm
form_by k.Break label parts = leaf_of parts BreakForm
form_by k.Continue label parts = leaf_of parts ContinueForm
form_by k.If label parts = if_form parts
form_by (k.For first test last) label parts = for_form first test last parts
form_by (k.Try caught named ended) label parts = try_form caught named ended parts
form_by kind label parts = statement_form kind label parts

-- a node's parts by name; None where it has another number of children than a node of the grammar, or no name
abbrev pub form_of : Shape → Option Form
form_of node = form_by node.label.kind node.label node.children

-- which kind of node a form is of

abbrev pub key_kind : PropName → PropKey
key_kind (Written name) = pk.Named
key_kind (Whole whole) = pk.Whole
key_kind (Computed key) = pk.Computed

abbrev pub kind_of : Form → Kind
kind_of (ScriptForm statements) = k.Script
kind_of (LetForm decls) = k.Let
kind_of (ConstForm decls) = k.Const
kind_of (DeclForm name value) = k.Decl
kind_of (FunctionDeclForm name parts) = k.FunctionDecl (length parts.params)
kind_of (BlockForm statements) = k.Block
kind_of EmptyForm = k.Empty
kind_of (ExprStmtForm value) = k.ExprStmt
kind_of (IfForm test main otherwise) = k.If
kind_of (WhileForm test body) = k.While
kind_of (DoWhileForm body test) = k.DoWhile
kind_of (ForForm first test last body) = k.For (is_some first) (is_some test) (is_some last)
kind_of (ReturnForm value) = k.Return
kind_of (ThrowForm value) = k.Throw
kind_of BreakForm = k.Break
kind_of ContinueForm = k.Continue
kind_of (TryForm block caught handler ending) = k.Try (is_some handler) (is_some caught) (is_some ending)
kind_of (ParamForm name) = k.Param
kind_of (SeqForm values) = k.Seq
kind_of (AssignForm target value) = k.Assign
kind_of (CompoundForm sign target value) = k.Compound sign
kind_of (ArrowForm parts block) = k.Arrow (length parts.params) block
kind_of (CondForm test main otherwise) = k.Cond
kind_of (OrForm left right) = k.Or
kind_of (AndForm left right) = k.And
kind_of (BinaryForm sign left right) = k.Binary sign
kind_of (UnaryForm sign operand) = k.Unary sign
kind_of (UpdateForm plus prefix target) = k.Update plus prefix
kind_of (NewForm callee arguments) = k.New
kind_of (MemberForm base name) = k.Member
kind_of (IndexForm base key) = k.Index
kind_of (CallForm callee arguments) = k.Call
kind_of ThisForm = k.This
kind_of (NameForm name) = k.Name
kind_of (NumberForm whole) = k.Number
kind_of (TextForm text) = k.Text
kind_of (LiteralForm fixed) = k.Literal fixed
kind_of (ArrayForm elements) = k.ArrayLit
kind_of (ObjectForm properties) = k.ObjectLit
kind_of (FunctionForm name parts) = k.Function (length parts.params)
kind_of (GroupForm inner) = k.Group
kind_of (ValueForm key value) = k.Value (key_kind key)
kind_of (MethodForm key parts) = k.Method (key_kind key) (length parts.params)
kind_of (GetterForm key parts) = k.Getter (key_kind key)
kind_of (SetterForm key parts) = k.Setter (key_kind key)

-- all parts of a form, in source order

abbrev pub key_parts : PropName → List NodeId
key_parts (Computed key) = key ∷ []
key_parts _ = []

abbrev pub parts_of : Form → List NodeId
parts_of (ScriptForm statements) = statements
parts_of (LetForm decls) = decls
parts_of (ConstForm decls) = decls
parts_of (DeclForm name value) = option_to_list value
parts_of (FunctionDeclForm name parts) = parts.params ++ parts.body
parts_of (BlockForm statements) = statements
parts_of EmptyForm = []
parts_of (ExprStmtForm value) = value ∷ []
parts_of (IfForm test main otherwise) = test ∷ main ∷ option_to_list otherwise
parts_of (WhileForm test body) = test ∷ body ∷ []
parts_of (DoWhileForm body test) = body ∷ test ∷ []
parts_of (ForForm first test last body) =
    option_to_list first ++ option_to_list test ++ option_to_list last ++ body ∷ []
parts_of (ReturnForm value) = option_to_list value
parts_of (ThrowForm value) = value ∷ []
parts_of BreakForm = []
parts_of ContinueForm = []
parts_of (TryForm block caught handler ending) =
    block ∷ (option_to_list caught ++ option_to_list handler ++ option_to_list ending)
parts_of (ParamForm name) = []
parts_of (SeqForm values) = values
parts_of (AssignForm target value) = target ∷ value ∷ []
parts_of (CompoundForm sign target value) = target ∷ value ∷ []
parts_of (ArrowForm parts block) = parts.params ++ parts.body
parts_of (CondForm test main otherwise) = test ∷ main ∷ otherwise ∷ []
parts_of (OrForm left right) = left ∷ right ∷ []
parts_of (AndForm left right) = left ∷ right ∷ []
parts_of (BinaryForm sign left right) = left ∷ right ∷ []
parts_of (UnaryForm sign operand) = operand ∷ []
parts_of (UpdateForm plus prefix target) = target ∷ []
parts_of (NewForm callee arguments) = callee ∷ arguments
parts_of (MemberForm base name) = base ∷ []
parts_of (IndexForm base key) = base ∷ key ∷ []
parts_of (CallForm callee arguments) = callee ∷ arguments
parts_of ThisForm = []
parts_of (NameForm name) = []
parts_of (NumberForm whole) = []
parts_of (TextForm text) = []
parts_of (LiteralForm fixed) = []
parts_of (ArrayForm elements) = elements
parts_of (ObjectForm properties) = properties
parts_of (FunctionForm name parts) = parts.params ++ parts.body
parts_of (GroupForm inner) = inner ∷ []
parts_of (ValueForm key value) = key_parts key ++ value ∷ []
parts_of (MethodForm key parts) = key_parts key ++ parts.params ++ parts.body
parts_of (GetterForm key parts) = key_parts key ++ parts.params ++ parts.body
parts_of (SetterForm key parts) = key_parts key ++ parts.params ++ parts.body
