use Rattle.std.specs.Prelude.{ℕ, List, Bool, Option, ℤ}
use Rattle.mb_tree.specs.declared.kind.Sign.{Sign}
use Rattle.mb_world.specs.Value.{Val}

-- the nodes of a script, each by what its row reads

-- the key of a Prop node: written, or the node of a computed one (ECMA-262 13.2.5 PropertyName)
pub data PropName : Type 0 where
  Written : List ℕ → PropName
  Computed : ℕ → PropName

-- the names of the parameters, and the statements of a function's body (ECMA-262 15.2)
pub record FunctionParts : Type 0 where
  pub params : List (List ℕ)
  pub body : List ℕ

-- a node of a script, by what its row reads: texts are code units, parts are places in the list of forms
pub data Form : Type 0 where
  ScriptForm : List ℕ → Form
  LetForm : List ℕ → Form
  ConstForm : List ℕ → Form
  DeclForm : (name : List ℕ) → (value : Option ℕ) → Form
  FunctionDeclForm : (name : List ℕ) → FunctionParts → Form
  BlockForm : List ℕ → Form
  EmptyForm : Form
  ExprStmtForm : ℕ → Form
  IfForm : (test main : ℕ) → (other : Option ℕ) → Form
  WhileForm : (test body : ℕ) → Form
  DoWhileForm : (body test : ℕ) → Form
  ForForm : (first test last : Option ℕ) → (body : ℕ) → Form
  ReturnForm : Option ℕ → Form
  ThrowForm : ℕ → Form
  BreakForm : Form
  ContinueForm : Form
  TryForm : (block : ℕ) → (caught : Option (List ℕ)) → (handler ending : Option ℕ) → Form
  ParamForm : List ℕ → Form
  ThisForm : Form
  NameForm : List ℕ → Form
  NumberForm : ℤ → Form
  TextForm : List ℕ → Form
  LiteralForm : Val → Form
  ArrayForm : List ℕ → Form
  ObjectForm : List ℕ → Form
  ValueForm : PropName → (value : ℕ) → Form
  MethodForm : PropName → FunctionParts → Form
  GetterForm : PropName → FunctionParts → Form
  SetterForm : PropName → FunctionParts → Form
  FunctionForm : (name : Option (List ℕ)) → FunctionParts → Form
  ArrowForm : FunctionParts → (block : Bool) → Form
  GroupForm : ℕ → Form
  MemberForm : (base : ℕ) → (name : List ℕ) → Form
  IndexForm : (base key : ℕ) → Form
  AssignForm : (target value : ℕ) → Form
  CompoundForm : Sign → (target value : ℕ) → Form
  UpdateForm : (plus prefix : Bool) → (target : ℕ) → Form
  CallForm : (callee : ℕ) → (arguments : List ℕ) → Form
  NewForm : (callee : ℕ) → (arguments : List ℕ) → Form
  CondForm : (test main other : ℕ) → Form
  OrForm : (left right : ℕ) → Form
  AndForm : (left right : ℕ) → Form
  SeqForm : List ℕ → Form
  UnaryForm : Sign → ℕ → Form
  BinaryForm : Sign → (left right : ℕ) → Form
