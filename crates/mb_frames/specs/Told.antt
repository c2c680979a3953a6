-- The nodes of a side's script as the meaning reads them, and what is known of them.
use Rattle.std.specs.Prelude.{All, IsSomeAnd, List, None, Option, Some, [], is_some, map, option_map, option_to_list, slice_get, true, ℕ, ◌≡◌}
use Rattle.mb_base.specs.declared.value.NodeId.{NodeId}
use Rattle.mb_base.specs.declared.value.Side.{Side}
use Rattle.mb_text.specs.Texts.{text_at}
use Rattle.mb_tree.specs.Form as t
use Rattle.mb_tree.specs.Roses.{Shape}
use Rattle.mb_world.specs.Data.{Data, Script, program_of}
use Rattle.mb_world.specs.Form.{ArrayForm, ArrowForm, AndForm, AssignForm, BinaryForm, BlockForm, BreakForm, CallForm, CompoundForm, Computed, CondForm, ConstForm, ContinueForm, DeclForm, DoWhileForm, EmptyForm, ExprStmtForm, ForForm, Form, FunctionDeclForm, FunctionForm, FunctionParts, GetterForm, GroupForm, IfForm, IndexForm, LetForm, LiteralForm, MemberForm, MethodForm, NameForm, NewForm, NumberForm, ObjectForm, OrForm, ParamForm, PropName, ReturnForm, ScriptForm, SeqForm, SetterForm, TextForm, ThisForm, ThrowForm, TryForm, UnaryForm, UpdateForm, ValueForm, WhileForm, Written, BreakForm}
use Rattle.mb_world.specs.FormOf.{TreeNode, literal, name_at, names_at}
use Rattle.mb_world.specs.Ids.{Maybe, TextIn}
use Rattle.mb_world.specs.Image.{nodes_in}
use Rattle.mb_world.specs.Value.{whole_text}
use Rattle.mb_frames.specs.Kinds.{Declared, Expression, NodeSort, PropertyDefinition, Statement, form_sort}
use Rattle.mb_frames.specs.Standing.{forms_at}

abbrev pub numbers_of : List NodeId → List ℕ
numbers_of ids = map (λ id. id.0) ids

abbrev pub number_if : Option NodeId → Option ℕ
number_if id = option_map (λ n. n.0) id

abbrev pub key_told : List (List ℕ) → t.PropName → PropName
key_told texts (t.Written name) = Written (text_at texts name)
key_told texts (t.Whole whole) = Written (whole_text whole)
key_told texts (t.Computed key) = Computed key.0

abbrev pub parts_told : List TreeNode → t.FunctionParts → FunctionParts
parts_told ns parts = record { params = names_at ns (numbers_of parts.params); body = numbers_of parts.body }

-- a form of the tree, whose Params are read among these nodes
abbrev pub told : List (List ℕ) → List TreeNode → t.Form → Form
told texts ns (t.ScriptForm statements) = ScriptForm (numbers_of statements)
told texts ns (t.LetForm decls) = LetForm (numbers_of decls)
told texts ns (t.ConstForm decls) = ConstForm (numbers_of decls)
told texts ns (t.DeclForm name value) = DeclForm (text_at texts name) (number_if value)
told texts ns (t.FunctionDeclForm name parts) = FunctionDeclForm (text_at texts name) (parts_told ns parts)
told texts ns (t.BlockForm statements) = BlockForm (numbers_of statements)
told texts ns t.EmptyForm = EmptyForm
told texts ns (t.ExprStmtForm value) = ExprStmtForm value.0
told texts ns (t.IfForm test main otherwise) = IfForm test.0 main.0 (number_if otherwise)
told texts ns (t.WhileForm test body) = WhileForm test.0 body.0
told texts ns (t.DoWhileForm body test) = DoWhileForm body.0 test.0
told texts ns (t.ForForm first test last body) = ForForm (number_if first) (number_if test) (number_if last) body.0
told texts ns (t.ReturnForm value) = ReturnForm (number_if value)
told texts ns (t.ThrowForm value) = ThrowForm value.0
told texts ns t.BreakForm = BreakForm
told texts ns t.ContinueForm = ContinueForm
told texts ns (t.TryForm block caught handler ending) =
    TryForm block.0 (option_map (λ c. name_at (slice_get ns c.0)) caught) (number_if handler) (number_if ending)
told texts ns (t.ParamForm name) = ParamForm (text_at texts name)
told texts ns (t.SeqForm values) = SeqForm (numbers_of values)
told texts ns (t.AssignForm target value) = AssignForm target.0 value.0
told texts ns (t.CompoundForm sign target value) = CompoundForm sign target.0 value.0
told texts ns (t.ArrowForm parts block) = ArrowForm (parts_told ns parts) block
told texts ns (t.CondForm test main otherwise) = CondForm test.0 main.0 otherwise.0
told texts ns (t.OrForm left right) = OrForm left.0 right.0
told texts ns (t.AndForm left right) = AndForm left.0 right.0
told texts ns (t.BinaryForm sign left right) = BinaryForm sign left.0 right.0
told texts ns (t.UnaryForm sign operand) = UnaryForm sign operand.0
told texts ns (t.UpdateForm plus prefix target) = UpdateForm plus prefix target.0
told texts ns (t.NewForm callee arguments) = NewForm callee.0 (numbers_of arguments)
told texts ns (t.MemberForm base name) = MemberForm base.0 (text_at texts name)
told texts ns (t.IndexForm base key) = IndexForm base.0 key.0
told texts ns (t.CallForm callee arguments) = CallForm callee.0 (numbers_of arguments)
told texts ns t.ThisForm = ThisForm
told texts ns (t.NameForm name) = NameForm (text_at texts name)
told texts ns (t.NumberForm whole) = NumberForm whole
told texts ns (t.TextForm text) = TextForm (text_at texts text)
told texts ns (t.LiteralForm fixed) = LiteralForm (literal fixed)
told texts ns (t.ArrayForm elements) = ArrayForm (numbers_of elements)
told texts ns (t.ObjectForm properties) = ObjectForm (numbers_of properties)
told texts ns (t.FunctionForm name parts) = FunctionForm (option_map (text_at texts) name) (parts_told ns parts)
told texts ns (t.GroupForm inner) = GroupForm inner.0
told texts ns (t.ValueForm key value) = ValueForm (key_told texts key) value.0
told texts ns (t.MethodForm key parts) = MethodForm (key_told texts key) (parts_told ns parts)
told texts ns (t.GetterForm key parts) = GetterForm (key_told texts key) (parts_told ns parts)
told texts ns (t.SetterForm key parts) = SetterForm (key_told texts key) (parts_told ns parts)

abbrev pub shapes_of : Option Script → List Shape
shapes_of None = []
shapes_of (Some p) = p.nodes

-- a form of a side's script
abbrev pub told_at : Data → Side → t.Form → Form
told_at d home form = told d.texts (nodes_in d.texts (shapes_of (program_of d home))) form

-- ---- what is known of the nodes of a side's script

-- the node is there, and of that sort
abbrev pub IsNodeOf : Data → Side → NodeSort → NodeId → Type 0
IsNodeOf d home sort id = IsSomeAnd (slice_get (forms_at d home) id.0) (λ f. form_sort f ≡ sort)

-- of what sort the parts are that a row goes through
abbrev pub sort_of_parts : Option Form → NodeSort
sort_of_parts (Some (ScriptForm ns)) = Statement
sort_of_parts (Some (BlockForm ns)) = Statement
sort_of_parts (Some (LetForm ns)) = Declared
sort_of_parts (Some (ConstForm ns)) = Declared
sort_of_parts (Some (ObjectForm ns)) = PropertyDefinition
sort_of_parts form = Expression

-- the Params of a node
abbrev pub params_of : t.Form → List NodeId
params_of (t.TryForm block caught handler ending) = option_to_list caught
params_of (t.FunctionDeclForm name parts) = parts.params
params_of (t.FunctionForm name parts) = parts.params
params_of (t.ArrowForm parts block) = parts.params
params_of (t.MethodForm key parts) = parts.params
params_of (t.GetterForm key parts) = parts.params
params_of (t.SetterForm key parts) = parts.params
params_of form = []

abbrev pub IsNamed : Option Shape → Type 0
IsNamed None = ⊥
IsNamed (Some x) = is_some x.label.name ≡ true

-- these nodes of a side's script have names
abbrev pub HasNames : Data → Side → List NodeId → Type 0
HasNames d home ids = All (λ id. IsNamed (slice_get (shapes_of (program_of d home)) id.0)) ids

-- the texts of a form are texts of the world
abbrev pub NameIn : Data → t.PropName → Type 0
NameIn d (t.Written name) = TextIn d name
NameIn d name = Unit {0}

abbrev pub FormIn : Data → t.Form → Type 0
FormIn d (t.DeclForm name value) = TextIn d name
FormIn d (t.FunctionDeclForm name parts) = TextIn d name
FormIn d (t.ParamForm name) = TextIn d name
FormIn d (t.MemberForm base name) = TextIn d name
FormIn d (t.NameForm name) = TextIn d name
FormIn d (t.TextForm text) = TextIn d text
FormIn d (t.FunctionForm name parts) = Maybe (TextIn d) name
FormIn d (t.ValueForm key value) = NameIn d key
FormIn d (t.MethodForm key parts) = NameIn d key
FormIn d (t.GetterForm key parts) = NameIn d key
FormIn d (t.SetterForm key parts) = NameIn d key
FormIn d form = Unit {0}
