use Rattle.std.specs.Prelude.{ℕ, ◌+◌, List, [], ◌∷◌, take, drop, get_or, slice_get, Bool, true, false, Option, Some, None, unwrap_or, ℤ}
use Rattle.mb_tree.specs.declared.kind.Kind.{Kind}
use Rattle.mb_tree.specs.declared.kind.Kind.TheVariants.{Script, Let, Const, Decl, FunctionDecl, Block, Empty, ExprStmt, If, While, DoWhile, For, Return, Throw, Break, Continue, Try, Param, Seq, Assign, Compound, Arrow, Cond, Or, And, Binary, Unary, Update, New, Call, Member, Index, This, Name, Number, Text as TextKind, Literal, ArrayLit, ObjectLit, Function, Group, Value as ValueKind, Method, Getter, Setter}
use Rattle.mb_tree.specs.declared.kind.PropKey.{PropKey}
use Rattle.mb_tree.specs.declared.kind.PropKey.TheVariants.{Named as NamedKey, Whole as WholeKey, Computed as ComputedKey}
use Rattle.mb_tree.specs.declared.kind.Fixed.{Fixed}
use Rattle.mb_tree.specs.declared.kind.Fixed.TheVariants.{True, False, Null as NullFixed, Undefined as UndefinedFixed}
use Rattle.mb_world.specs.Value.{Val, Undefined, Null, Truth, whole_text}
use Rattle.mb_world.specs.Form.{Form, PropName, Written, Computed, FunctionParts, ScriptForm, LetForm, ConstForm, DeclForm, FunctionDeclForm, BlockForm, EmptyForm, ExprStmtForm, IfForm, WhileForm, DoWhileForm, ForForm, ReturnForm, ThrowForm, BreakForm, ContinueForm, TryForm, ParamForm, ThisForm, NameForm, NumberForm, TextForm, LiteralForm, ArrayForm, ObjectForm, ValueForm, MethodForm, GetterForm, SetterForm, FunctionForm, ArrowForm, GroupForm, MemberForm, IndexForm, AssignForm, CompoundForm, UpdateForm, CallForm, NewForm, CondForm, OrForm, AndForm, SeqForm, UnaryForm, BinaryForm}

-- the form of a node of the tree

-- a node of the tree, its name as code units and its children as places
pub record TreeNode : Type 0 where
  pub kind : Kind
  pub name : Option (List ℕ)
  pub whole : ℤ
  pub children : List ℕ

-- in a tree of the grammar each child that is asked is there, and so is each name
abbrev pub child : ℕ → TreeNode → ℕ
child i n = get_or n.children i 0

abbrev pub name_in : TreeNode → List ℕ
name_in n = unwrap_or n.name []

abbrev pub name_at : Option TreeNode → List ℕ
name_at None = []
name_at (Some n) = name_in n

abbrev pub names_at : List TreeNode → List ℕ → List (List ℕ)
names_at ns [] = []
names_at ns (i ∷ is) = name_at (slice_get ns i) ∷ names_at ns is

-- a function's parts, whose parameters stand first among these children
abbrev pub parts : List TreeNode → ℕ → List ℕ → FunctionParts
parts ns params cs = record { params = names_at ns (take params cs); body = drop params cs }

-- the part that is there, if it is, after so many others
abbrev pub part_if : Bool → ℕ → TreeNode → Option ℕ
part_if true i n = slice_get n.children i
part_if false i n = None

abbrev pub one_if : Bool → ℕ
one_if true = 1
one_if false = 0

abbrev pub literal : Fixed → Val
literal True = Truth true
literal False = Truth false
literal NullFixed = Null
literal UndefinedFixed = Undefined

abbrev pub prop_name : PropKey → TreeNode → PropName
prop_name NamedKey n = Written (name_in n)
prop_name WholeKey n = Written (whole_text n.whole)
prop_name ComputedKey n = Computed (child 0 n)

-- the children after the expression of a computed key
abbrev pub after_key : PropKey → TreeNode → List ℕ
after_key NamedKey n = n.children
after_key WholeKey n = n.children
after_key ComputedKey n = drop 1 n.children

abbrev pub caught_name : List TreeNode → Bool → TreeNode → Option (List ℕ)
caught_name ns true n = Some (name_at (slice_get ns (child 1 n)))
caught_name ns false n = None

abbrev pub form_by : List TreeNode → TreeNode → Kind → Form
form_by ns n Script = ScriptForm n.children
form_by ns n Let = LetForm n.children
form_by ns n Const = ConstForm n.children
form_by ns n Decl = DeclForm (name_in n) (slice_get n.children 0)
form_by ns n (FunctionDecl params) = FunctionDeclForm (name_in n) (parts ns params n.children)
form_by ns n Block = BlockForm n.children
form_by ns n Empty = EmptyForm
form_by ns n ExprStmt = ExprStmtForm (child 0 n)
form_by ns n If = IfForm (child 0 n) (child 1 n) (slice_get n.children 2)
form_by ns n While = WhileForm (child 0 n) (child 1 n)
form_by ns n DoWhile = DoWhileForm (child 0 n) (child 1 n)
form_by ns n (For first test last) = ForForm (part_if first 0 n) (part_if test (one_if first) n)
    (part_if last (one_if first + one_if test) n) (child (one_if first + one_if test + one_if last) n)
form_by ns n Return = ReturnForm (slice_get n.children 0)
form_by ns n Throw = ThrowForm (child 0 n)
form_by ns n Break = BreakForm
form_by ns n Continue = ContinueForm
form_by ns n (Try caught named ended) = TryForm (child 0 n) (caught_name ns named n)
    (part_if caught (1 + one_if named) n) (part_if ended (1 + one_if named + one_if caught) n)
form_by ns n Param = ParamForm (name_in n)
form_by ns n Seq = SeqForm n.children
form_by ns n Assign = AssignForm (child 0 n) (child 1 n)
form_by ns n (Compound sign) = CompoundForm sign (child 0 n) (child 1 n)
form_by ns n (Arrow params block) = ArrowForm (parts ns params n.children) block
form_by ns n Cond = CondForm (child 0 n) (child 1 n) (child 2 n)
form_by ns n Or = OrForm (child 0 n) (child 1 n)
form_by ns n And = AndForm (child 0 n) (child 1 n)
form_by ns n (Binary sign) = BinaryForm sign (child 0 n) (child 1 n)
form_by ns n (Unary sign) = UnaryForm sign (child 0 n)
form_by ns n (Update plus prefix) = UpdateForm plus prefix (child 0 n)
form_by ns n New = NewForm (child 0 n) (drop 1 n.children)
form_by ns n Call = CallForm (child 0 n) (drop 1 n.children)
form_by ns n Member = MemberForm (child 0 n) (name_in n)
form_by ns n Index = IndexForm (child 0 n) (child 1 n)
form_by ns n This = ThisForm
form_by ns n Name = NameForm (name_in n)
form_by ns n Number = NumberForm n.whole
form_by ns n TextKind = TextForm (name_in n)
form_by ns n (Literal v) = LiteralForm (literal v)
form_by ns n ArrayLit = ArrayForm n.children
form_by ns n ObjectLit = ObjectForm n.children
form_by ns n (Function params) = FunctionForm n.name (parts ns params n.children)
form_by ns n Group = GroupForm (child 0 n)
form_by ns n (ValueKind k) = ValueForm (prop_name k n) (get_or (after_key k n) 0 0)
form_by ns n (Method k params) = MethodForm (prop_name k n) (parts ns params (after_key k n))
form_by ns n (Getter k) = GetterForm (prop_name k n) (parts ns 0 (after_key k n))
form_by ns n (Setter k) = SetterForm (prop_name k n) (parts ns 1 (after_key k n))

-- what a node's row reads
abbrev pub form_of : List TreeNode → TreeNode → Form
form_of ns n = form_by ns n n.kind
