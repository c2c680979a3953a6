-- The forms that the code gives out, without the places of their lists in memory.
use Rattle.mb_tree.specs.declared.form.PropName.{PropName as GivenName}
use Rattle.mb_tree.specs.declared.form.PropName.TheVariants as p
use Rattle.mb_tree.specs.declared.form.FunctionParts.{FunctionParts as GivenParts}
use Rattle.mb_tree.specs.declared.form.Form.{Form as Given}
use Rattle.mb_tree.specs.declared.form.Form.TheVariants as f
use Rattle.mb_tree.specs.Form.{PropName, Written, Whole, Computed, FunctionParts, Form, ScriptForm, LetForm, ConstForm, DeclForm, FunctionDeclForm, BlockForm, EmptyForm, ExprStmtForm, IfForm, WhileForm, DoWhileForm, ForForm, ReturnForm, ThrowForm, BreakForm, ContinueForm, TryForm, ParamForm, SeqForm, AssignForm, CompoundForm, ArrowForm, CondForm, OrForm, AndForm, BinaryForm, UnaryForm, UpdateForm, NewForm, MemberForm, IndexForm, CallForm, ThisForm, NameForm, NumberForm, TextForm, LiteralForm, ArrayForm, ObjectForm, FunctionForm, GroupForm, ValueForm, MethodForm, GetterForm, SetterForm}

abbrev pub seen_name : GivenName → PropName
seen_name (p.Written name) = Written name
seen_name (p.Whole whole) = Whole whole
seen_name (p.Computed key) = Computed key

abbrev pub seen_parts : GivenParts → FunctionParts
seen_parts parts = record { params = parts.params.now; body = parts.body.now }

abbrev pub seen : Given → Form
seen (f.Script statements) = ScriptForm statements.now
seen (f.Let decls) = LetForm decls.now
seen (f.Const decls) = ConstForm decls.now
seen (f.Decl name value) = DeclForm name value
seen (f.FunctionDecl name parts) = FunctionDeclForm name (seen_parts parts)
seen (f.Block statements) = BlockForm statements.now
seen f.Empty = EmptyForm
seen (f.ExprStmt value) = ExprStmtForm value
seen (f.If test main otherwise) = IfForm test main otherwise
seen (f.While test body) = WhileForm test body
seen (f.DoWhile body test) = DoWhileForm body test
seen (f.For first test last body) = ForForm first test last body
seen (f.Return value) = ReturnForm value
seen (f.Throw value) = ThrowForm value
seen f.Break = BreakForm
seen f.Continue = ContinueForm
seen (f.Try block caught handler ending) = TryForm block caught handler ending
seen (f.Param name) = ParamForm name
seen (f.Seq values) = SeqForm values.now
seen (f.Assign target value) = AssignForm target value
seen (f.Compound sign target value) = CompoundForm sign target value
seen (f.Arrow parts block) = ArrowForm (seen_parts parts) block
seen (f.Cond test main otherwise) = CondForm test main otherwise
seen (f.Or left right) = OrForm left right
seen (f.And left right) = AndForm left right
seen (f.Binary sign left right) = BinaryForm sign left right
seen (f.Unary sign operand) = UnaryForm sign operand
seen (f.Update plus prefix target) = UpdateForm plus prefix target
seen (f.New callee arguments) = NewForm callee arguments.now
seen (f.Member base name) = MemberForm base name
seen (f.Index base key) = IndexForm base key
seen (f.Call callee arguments) = CallForm callee arguments.now
seen f.This = ThisForm
seen (f.Name name) = NameForm name
seen (f.Number whole) = NumberForm whole
seen (f.Text text) = TextForm text
seen (f.Literal fixed) = LiteralForm fixed
seen (f.ArrayLit elements) = ArrayForm elements.now
seen (f.ObjectLit properties) = ObjectForm properties.now
seen (f.Function name parts) = FunctionForm name (seen_parts parts)
seen (f.Group inner) = GroupForm inner
seen (f.Value key value) = ValueForm (seen_name key) value
seen (f.Method key parts) = MethodForm (seen_name key) (seen_parts parts)
seen (f.Getter key parts) = GetterForm (seen_name key) (seen_parts parts)
seen (f.Setter key parts) = SetterForm (seen_name key) (seen_parts parts)
