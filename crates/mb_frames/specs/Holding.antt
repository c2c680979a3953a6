-- What stands in tasks, in outcomes and in frames, piece by piece, in the order of their parts.
use Rattle.std.specs.List.{AllByRecursion}
use Rattle.std.specs.Prelude.{◌++◌, List, None, Option, Some, [], ◌∷◌}
use Rattle.mb_frames.specs.Held.{AreIn, Held, HeldArray, HeldBegan, HeldCallable, HeldCollection, HeldConstructor, HeldDesc, HeldEntered, HeldFields, HeldFull, HeldFunction, HeldKey, HeldKeyIf, HeldKeys, HeldNode, HeldNodeIf, HeldObject, HeldPlace, HeldPlain, HeldPrototype, HeldReal, HeldScope, HeldSide, HeldSign, HeldText, HeldTextIf, HeldValue, HeldValues, HeldVisited}
use Rattle.mb_frames.specs.Kinds.{is_array_form, is_call_form, is_declaring_form, is_do_form, is_evaluated, is_expression, is_for_form, is_function_form, is_list_form, is_new_form, is_object_form, is_prop_form, is_seq_form, is_try_form, is_while_form}
use Rattle.mb_frames.specs.Standing.{Across, Here, Passage}
use Rattle.mb_world.specs.Data.{Data}
use Rattle.mb_base.specs.declared.value.ObjId.{ObjId}
use Rattle.mb_base.specs.declared.value.Value.{Value}
use Rattle.mb_base.specs.declared.value.Value.TheVariants as v
use Rattle.mb_frames.specs.declared.task.Method.{Method}
use Rattle.mb_frames.specs.declared.task.Method.TheVariants as method
use Rattle.mb_frames.specs.declared.task.Request.{Request}
use Rattle.mb_frames.specs.declared.task.Request.TheVariants as q
use Rattle.mb_frames.specs.declared.task.Task.{Task}
use Rattle.mb_frames.specs.declared.task.Task.TheVariants as task
use Rattle.mb_frames.specs.declared.task.Answer.{Answer}
use Rattle.mb_frames.specs.declared.task.Answer.TheVariants as a
use Rattle.mb_frames.specs.declared.task.Outcome.{Outcome}
use Rattle.mb_frames.specs.declared.task.Outcome.TheVariants as o
use Rattle.mb_frames.specs.declared.expressions.Reference.{Reference}
use Rattle.mb_frames.specs.declared.expressions.Reference.TheVariants as reference
use Rattle.mb_frames.specs.declared.expressions.After.{After}
use Rattle.mb_frames.specs.declared.expressions.After.TheVariants as after
use Rattle.mb_frames.specs.declared.expressions.ExprFrame.{ExprFrame}
use Rattle.mb_frames.specs.declared.expressions.ExprFrame.TheVariants as e
use Rattle.mb_frames.specs.declared.statements.StmtFrame.{StmtFrame}
use Rattle.mb_frames.specs.declared.statements.StmtFrame.TheVariants as t
use Rattle.mb_frames.specs.declared.calls.AfterList.{AfterList}
use Rattle.mb_frames.specs.declared.calls.AfterList.TheVariants as list
use Rattle.mb_frames.specs.declared.calls.AfterDesc.{AfterDesc}
use Rattle.mb_frames.specs.declared.calls.AfterDesc.TheVariants as desc
use Rattle.mb_frames.specs.declared.calls.CallFrame.{CallFrame}
use Rattle.mb_frames.specs.declared.calls.CallFrame.TheVariants as c
use Rattle.mb_frames.specs.declared.reflecting.ReflectFrame.{ReflectFrame}
use Rattle.mb_frames.specs.declared.reflecting.ReflectFrame.TheVariants as r
use Rattle.mb_frames.specs.declared.arrays.Member.{Member}
use Rattle.mb_frames.specs.declared.arrays.Member.TheVariants as member
use Rattle.mb_frames.specs.declared.arrays.Callback.{Callback}
use Rattle.mb_frames.specs.declared.arrays.Callback.TheVariants as callback
use Rattle.mb_frames.specs.declared.arrays.Turn.{Turn}
use Rattle.mb_frames.specs.declared.arrays.Turn.TheVariants as turn
use Rattle.mb_frames.specs.declared.arrays.ArrayFrame.{ArrayFrame}
use Rattle.mb_frames.specs.declared.arrays.ArrayFrame.TheVariants as y
use Rattle.mb_frames.specs.declared.proxies.ProxyFrame.{ProxyFrame}
use Rattle.mb_frames.specs.declared.proxies.ProxyFrame.TheVariants as p
use Rattle.mb_frames.specs.declared.collections.Visiting.{Visiting}
use Rattle.mb_frames.specs.declared.collections.CollectFrame.{CollectFrame}
use Rattle.mb_frames.specs.declared.collections.CollectFrame.TheVariants as l
use Rattle.mb_frames.specs.declared.crossing.MembraneFrame.{MembraneFrame}
use Rattle.mb_frames.specs.declared.crossing.MembraneFrame.TheVariants as m
use Rattle.mb_frames.specs.declared.frame.Given.{Given}
use Rattle.mb_frames.specs.declared.frame.Given.TheVariants as given
use Rattle.mb_frames.specs.declared.frame.Entering.{Entering}
use Rattle.mb_frames.specs.declared.frame.Frame.{Frame}
use Rattle.mb_frames.specs.declared.frame.Frame.TheVariants as x
use Rattle.mb_frames.specs.declared.frame.Move.{Move}
use Rattle.mb_frames.specs.declared.frame.Move.TheVariants as move
use Rattle.mb_frames.specs.declared.machine.Waiting.{Waiting}
use Rattle.mb_frames.specs.declared.machine.Machine.{Machine}

-- ---- what stands in the parts of frames

abbrev pub value_if : Option Value → List Held
value_if None = []
value_if (Some x) = HeldValue x ∷ []

-- of a method of that object; only a constructor constructs
abbrev pub method_held : ObjId → Method → List Held
method_held object method.GetPrototypeOf = []
method_held object (method.SetPrototypeOf given) = HeldPrototype given ∷ []
method_held object method.IsExtensible = []
method_held object method.PreventExtensions = []
method_held object (method.GetOwnProperty key) = HeldKey key ∷ []
method_held object (method.DefineOwnProperty key given) = HeldKey key ∷ HeldDesc given ∷ []
method_held object (method.HasProperty key) = HeldKey key ∷ []
method_held object (method.Get key receiver) = HeldKey key ∷ HeldValue receiver ∷ []
method_held object (method.Set key value receiver) = HeldKey key ∷ HeldValue value ∷ HeldValue receiver ∷ []
method_held object (method.Delete key) = HeldKey key ∷ []
method_held object method.OwnPropertyKeys = []
method_held object (method.Call this arguments) = HeldValue this ∷ HeldValues arguments ∷ []
method_held object (method.Construct arguments target) =
    HeldValues arguments ∷ HeldConstructor target ∷ HeldConstructor (v.Object object) ∷ []

abbrev pub request_held : Request → List Held
request_held (q.GetAt key) = HeldValue key ∷ []
request_held (q.SetAt key value) = HeldValue key ∷ HeldValue value ∷ []
request_held (q.Add key) = HeldValue key ∷ []
request_held (q.Has key) = HeldValue key ∷ []
request_held (q.DeleteAt key) = HeldValue key ∷ []
request_held q.Clear = []
request_held q.Size = []
request_held (q.Slot place) = []

abbrev pub task_held : Task → List Held
task_held (task.Evaluate node at) = HeldScope at.scope ∷ HeldValue at.this ∷ HeldNode is_evaluated node.0 ∷ []
task_held (task.Loop node at) = HeldScope at.scope ∷ HeldValue at.this ∷ HeldNode is_for_form node.0 ∷ []
task_held (task.Chain object prototype) = HeldObject object ∷ HeldObject prototype ∷ []
task_held (task.Walk object given next) = HeldObject object ∷ HeldPrototype given ∷ HeldVisited next ∷ []
task_held (task.Perform method object viewer enters) = HeldObject object ∷ method_held object method
task_held (task.Enter function this arguments) =
    HeldCallable (v.Object function) ∷ HeldValue this ∷ HeldValues arguments ∷ HeldFunction function ∷ []
task_held (task.Run place this arguments target) =
    HeldPlace place ∷ HeldValue this ∷ HeldValues arguments ∷ HeldValue target ∷ []
task_held (task.Access place collection request) =
    HeldPlace place ∷ HeldCollection collection ∷ request_held request
task_held (task.Visit place collection function this position) =
    HeldPlace place ∷ HeldCollection collection ∷ HeldCallable function ∷ HeldValue this ∷ []

abbrev pub answer_held : Answer → List Held
answer_held a.Nothing = []
answer_held (a.Value x) = HeldValue x ∷ []
answer_held (a.Flag b) = []
answer_held (a.Prop p) = HeldReal p ∷ []
answer_held (a.Given x) = HeldDesc x ∷ []
answer_held (a.Keys ks) = HeldKeys ks ∷ []
answer_held (a.Values vs) = HeldValues vs ∷ []
answer_held (a.Place base key) = HeldValue base ∷ HeldKey key ∷ []
answer_held (a.Pair key value) = HeldValue key ∷ HeldValue value ∷ []
answer_held a.Empty = []

abbrev pub outcome_held : Outcome → List Held
outcome_held (o.Normal x) = answer_held x
outcome_held (o.Throw x) = HeldValue x ∷ []
outcome_held (o.Return x) = HeldValue x ∷ []
outcome_held o.Break = []
outcome_held o.Continue = []

abbrev pub done_held : Option Outcome → List Held
done_held None = []
done_held (Some x) = outcome_held x

abbrev pub reference_held : Reference → List Held
reference_held (reference.Name name) = HeldText name ∷ []
reference_held (reference.Place base key) = HeldValue base ∷ HeldKey key ∷ []

abbrev pub after_held : After → List Held
after_held after.Get = []
after_held (after.Assign value) = HeldNode is_expression value.0 ∷ []
after_held (after.Compound sign value) = HeldNode is_expression value.0 ∷ HeldSign sign ∷ []
after_held (after.Update plus prefix) = []
after_held (after.Call node) = HeldNode is_call_form node.0 ∷ []
after_held after.Delete = []

abbrev pub list_held : AfterList → List Held
list_held (list.Apply function this) = HeldCallable function ∷ HeldValue this ∷ []
list_held (list.Construct function target) = HeldConstructor (v.Object function) ∷ HeldConstructor target ∷ []
list_held (list.Keys target) = HeldObject target ∷ []

abbrev pub desc_held : AfterDesc → List Held
desc_held (desc.ObjectDefine object key) = HeldObject object ∷ HeldKey key ∷ []
desc_held (desc.ReflectDefine object key) = HeldObject object ∷ HeldKey key ∷ []
desc_held (desc.Own target key) = HeldObject target ∷ HeldKey key ∷ []

abbrev pub member_held : Member → List Held
member_held (member.Push arguments) = HeldValues arguments ∷ []
member_held member.Pop = []
member_held (member.ForEach function this) = HeldValue function ∷ HeldValue this ∷ []
member_held (member.Map function this) = HeldValue function ∷ HeldValue this ∷ []
member_held (member.Filter function this) = HeldValue function ∷ HeldValue this ∷ []
member_held (member.Reduce function first) = HeldValue function ∷ value_if first
member_held (member.IndexOf value from) = HeldValue value ∷ HeldValue from ∷ []
member_held (member.Slice from to) = HeldValue from ∷ HeldValue to ∷ []
member_held (member.Join separator) = HeldValue separator ∷ []

abbrev pub callback_held : Callback → List Held
callback_held (callback.ForEach function this) = HeldCallable function ∷ HeldValue this ∷ []
callback_held (callback.Map function this array) = HeldCallable function ∷ HeldValue this ∷ HeldArray array ∷ []
callback_held (callback.Filter function this array count) =
    HeldCallable function ∷ HeldValue this ∷ HeldArray array ∷ []
callback_held (callback.Reduce function so_far) = HeldCallable function ∷ value_if so_far

abbrev pub turn_held : Turn → List Held
turn_held (turn.Call callback) = callback_held callback
turn_held (turn.IndexOf value) = HeldValue value ∷ []
turn_held (turn.Slice array from) = HeldArray array ∷ []

abbrev pub visiting_held : Visiting → List Held
visiting_held at =
    HeldPlace at.place ∷ HeldCollection at.collection ∷ HeldCallable at.function ∷ HeldValue at.this ∷ []

-- ---- what stands in frames

abbrev pub expr_held : ExprFrame → List Held
expr_held (e.Element at node array place) =
    HeldScope at.scope ∷ HeldValue at.this ∷ HeldNode is_array_form node.0 ∷ HeldArray array ∷ []
expr_held (e.PropKey at node object property place) =
    HeldScope at.scope ∷ HeldValue at.this ∷ HeldNode is_object_form node.0 ∷ HeldPlain object ∷
    HeldNode is_prop_form property.0 ∷ []
expr_held (e.PropValue at node object place key) =
    HeldScope at.scope ∷ HeldValue at.this ∷ HeldNode is_object_form node.0 ∷ HeldPlain object ∷ HeldKey key ∷ []
expr_held (e.MemberBase at name after) = HeldScope at.scope ∷ HeldValue at.this ∷ HeldText name ∷ after_held after
expr_held (e.IndexBase at key after) =
    HeldScope at.scope ∷ HeldValue at.this ∷ HeldNode is_expression key.0 ∷ after_held after
expr_held (e.IndexKey at base after) = HeldScope at.scope ∷ HeldValue at.this ∷ HeldValue base ∷ after_held after
expr_held e.Got = []
expr_held (e.AssignValue at to) = HeldScope at.scope ∷ HeldValue at.this ∷ reference_held to
expr_held (e.CompoundOld at sign value to) =
    HeldScope at.scope ∷ HeldValue at.this ∷ HeldNode is_expression value.0 ∷ HeldSign sign ∷ reference_held to
expr_held (e.CompoundValue at sign old to) =
    HeldScope at.scope ∷ HeldValue at.this ∷ HeldValue old ∷ HeldSign sign ∷ reference_held to
expr_held (e.UpdateOld at plus prefix to) = HeldScope at.scope ∷ HeldValue at.this ∷ reference_held to
expr_held (e.Put gives) = HeldValue gives ∷ []
expr_held (e.Callee at node this) =
    HeldScope at.scope ∷ HeldValue at.this ∷ HeldNode is_call_form node.0 ∷ HeldValue this ∷ []
expr_held (e.Argument at node callee this done) =
    HeldScope at.scope ∷ HeldValue at.this ∷ HeldNode is_call_form node.0 ∷ HeldValue callee ∷ HeldValue this ∷
    HeldValues done ∷ []
expr_held (e.Constructor at node) = HeldScope at.scope ∷ HeldValue at.this ∷ HeldNode is_new_form node.0 ∷ []
expr_held (e.NewArgument at node callee done) =
    HeldScope at.scope ∷ HeldValue at.this ∷ HeldNode is_new_form node.0 ∷ HeldValue callee ∷ HeldValues done ∷ []
expr_held (e.Or at right) = HeldScope at.scope ∷ HeldValue at.this ∷ HeldNode is_expression right.0 ∷ []
expr_held (e.And at right) = HeldScope at.scope ∷ HeldValue at.this ∷ HeldNode is_expression right.0 ∷ []
expr_held (e.Cond at main other) =
    HeldScope at.scope ∷ HeldValue at.this ∷ HeldNode is_expression main.0 ∷ HeldNode is_expression other.0 ∷ []
expr_held (e.Seq at node next) = HeldScope at.scope ∷ HeldValue at.this ∷ HeldNode is_seq_form node.0 ∷ []
expr_held e.Not = []
expr_held e.Negate = []
expr_held e.Typeof = []
expr_held e.Deleted = []
expr_held (e.Left at sign right) = HeldScope at.scope ∷ HeldValue at.this ∷ HeldNode is_expression right.0 ∷ []
expr_held (e.Right sign left) = HeldValue left ∷ []
expr_held e.Has = []
expr_held (e.InstancePrototype object) = HeldObject object ∷ []
expr_held (e.Chain prototype) = HeldObject prototype ∷ []

abbrev pub stmt_held : StmtFrame → List Held
stmt_held (t.Each at node next) = HeldScope at.scope ∷ HeldValue at.this ∷ HeldNode is_list_form node.0 ∷ []
stmt_held (t.Declared at node name next) =
    HeldScope at.scope ∷ HeldValue at.this ∷ HeldNode is_declaring_form node.0 ∷ HeldText name ∷ []
stmt_held t.Expression = []
stmt_held (t.If at main other) =
    HeldScope at.scope ∷ HeldValue at.this ∷ HeldNode is_evaluated main.0 ∷ HeldNodeIf other ∷ []
stmt_held (t.WhileTest at node body) =
    HeldScope at.scope ∷ HeldValue at.this ∷ HeldNode is_while_form node.0 ∷ HeldNode is_evaluated body.0 ∷ []
stmt_held (t.WhileBody at node) = HeldScope at.scope ∷ HeldValue at.this ∷ HeldNode is_while_form node.0 ∷ []
stmt_held (t.DoBody at node test) =
    HeldScope at.scope ∷ HeldValue at.this ∷ HeldNode is_do_form node.0 ∷ HeldNode is_expression test.0 ∷ []
stmt_held (t.DoTest at node) = HeldScope at.scope ∷ HeldValue at.this ∷ HeldNode is_do_form node.0 ∷ []
stmt_held (t.ForFirst at node) = HeldScope at.scope ∷ HeldValue at.this ∷ HeldNode is_for_form node.0 ∷ []
stmt_held (t.ForTest at node) = HeldScope at.scope ∷ HeldValue at.this ∷ HeldNode is_for_form node.0 ∷ []
stmt_held (t.ForBody at node) = HeldScope at.scope ∷ HeldValue at.this ∷ HeldNode is_for_form node.0 ∷ []
stmt_held (t.ForLast at node) = HeldScope at.scope ∷ HeldValue at.this ∷ HeldNode is_for_form node.0 ∷ []
stmt_held t.Return = []
stmt_held t.Throw = []
stmt_held (t.Try at node) = HeldScope at.scope ∷ HeldValue at.this ∷ HeldNode is_try_form node.0 ∷ []
stmt_held (t.Handler at ending) = HeldScope at.scope ∷ HeldValue at.this ∷ HeldNodeIf ending ∷ []
stmt_held (t.Ending outcome) = outcome_held outcome

abbrev pub call_held : CallFrame → List Held
call_held c.SetterCalled = []
call_held (c.ReceiverRead key value receiver) = HeldKey key ∷ HeldValue value ∷ HeldObject receiver ∷ []
call_held (c.ConstructPrototype function label arguments) =
    HeldConstructor (v.Object function) ∷ HeldTextIf label ∷ HeldValues arguments ∷ HeldFunction function ∷ []
call_held (c.ConstructBody made) = HeldObject made ∷ []
call_held (c.Statement at node next) = HeldScope at.scope ∷ HeldValue at.this ∷ HeldNode is_function_form node.0 ∷ []
call_held c.ArrowValue = []
call_held (c.ListLength list after) = HeldObject list ∷ list_held after
call_held (c.ListElement list left done after) = HeldObject list ∷ HeldValues done ∷ list_held after
call_held (c.FieldThere object field desc after) = HeldObject object ∷ HeldFields desc ∷ desc_held after
call_held (c.FieldGot object field desc after) = HeldObject object ∷ HeldFields desc ∷ desc_held after

abbrev pub reflect_held : ReflectFrame → List Held
reflect_held r.ObjectPrototype = []
reflect_held (r.ErrorPrototype kind message) = HeldValue message ∷ []
reflect_held (r.KeysListed object) = HeldObject object ∷ []
reflect_held (r.KeyRead object key keys next found) =
    HeldObject object ∷ HeldKey key ∷ HeldKeys keys ∷ HeldValues found ∷ []
reflect_held r.SymbolsListed = []
reflect_held (r.Closed object frozen) = HeldObject object ∷ []
reflect_held (r.SettledKeys object frozen) = HeldObject object ∷ []
reflect_held (r.FreezeRead object key keys next) = HeldObject object ∷ HeldKey key ∷ HeldKeys keys ∷ []
reflect_held (r.Settled object frozen keys next) = HeldObject object ∷ HeldKeys keys ∷ []
reflect_held (r.FrozenExtensible object) = HeldObject object ∷ []
reflect_held (r.FrozenKeys object) = HeldObject object ∷ []
reflect_held (r.FrozenRead object keys next) = HeldObject object ∷ HeldKeys keys ∷ []
reflect_held (r.GivenBack object) = HeldObject object ∷ []
reflect_held r.Described = []
reflect_held r.HasOwn = []
reflect_held r.Truth = []
reflect_held r.OwnKeys = []

abbrev pub array_held : ArrayFrame → List Held
array_held (y.Prototype arguments) = HeldValues arguments ∷ []
array_held (y.Length object member) = HeldObject object ∷ member_held member
array_held (y.There object place left turn) = HeldObject object ∷ turn_held turn
array_held (y.Got object place left turn) = HeldObject object ∷ turn_held turn
array_held (y.Called object place left element callback) =
    HeldObject object ∷ HeldValue element ∷ callback_held callback
array_held (y.PushSet object place arguments next) = HeldObject object ∷ HeldValues arguments ∷ []
array_held (y.PushLength length) = []
array_held (y.PopGot object place) = HeldObject object ∷ []
array_held (y.PopDeleted object place value) = HeldObject object ∷ HeldValue value ∷ []
array_held (y.PopLength value) = HeldValue value ∷ []
array_held (y.JoinGot object place left separator so_far) = HeldObject object ∷ []

abbrev pub proxy_held : ProxyFrame → List Held
proxy_held (p.TrapGot side target handler method) =
    HeldSide side ∷ HeldObject target ∷ HeldObject handler ∷ method_held target method
proxy_held (p.Said target method) = HeldObject target ∷ method_held target method
proxy_held (p.PrototypeExtensible target said) = HeldObject target ∷ HeldPrototype said ∷ []
proxy_held (p.PrototypeRead said) = HeldPrototype said ∷ []
proxy_held (p.SetPrototypeExtensible target given) = HeldObject target ∷ HeldPrototype given ∷ []
proxy_held (p.SetPrototypeRead given) = HeldPrototype given ∷ []
proxy_held (p.ExtensibleRead said) = []
proxy_held p.PreventRead = []
proxy_held (p.AbsentRead target absent) = HeldObject target ∷ []
proxy_held (p.AbsentExtensible real absent) = HeldFull real ∷ []
proxy_held (p.OwnRead target said) = HeldObject target ∷ HeldFull said ∷ []
proxy_held (p.OwnExtensible said real) = HeldFull said ∷ HeldReal real ∷ []
proxy_held (p.DefineRead target given) = HeldObject target ∷ HeldDesc given ∷ []
proxy_held (p.DefineExtensible given real) = HeldDesc given ∷ HeldReal real ∷ []
proxy_held (p.GetRead said) = HeldValue said ∷ []
proxy_held (p.SetRead given) = HeldValue given ∷ []
proxy_held (p.KeysExtensible target said) = HeldObject target ∷ HeldKeys said ∷ []
proxy_held (p.KeysListed target said extensible) = HeldObject target ∷ HeldKeys said ∷ []
proxy_held (p.KeyRead target said extensible key keys next fixed loose) =
    HeldObject target ∷ HeldKeys said ∷ HeldKey key ∷ HeldKeys keys ∷ HeldKeys fixed ∷ HeldKeys loose ∷ []

abbrev pub collect_held : CollectFrame → List Held
collect_held l.Truth = []
collect_held (l.Chained collection) = HeldCollection collection ∷ []
collect_held (l.SlotRead at) = visiting_held at
collect_held (l.Called at) = visiting_held at
collect_held (l.Prototype coll arguments) = HeldValues arguments ∷ []

abbrev pub membrane_held : MembraneFrame → List Held
membrane_held m.Crossing = []
membrane_held (m.TrapGot owner target handler method) =
    HeldObject target ∷ HeldObject handler ∷ method_held target method

abbrev pub given_held : Given → List Held
given_held given.Nothing = []
given_held (given.Value y) = HeldValue y ∷ []
given_held (given.Desc y) = HeldDesc y ∷ []
given_held (given.Pair key value) = HeldValue key ∷ HeldValue value ∷ []

abbrev pub entering_held : Entering → List Held
entering_held y =
    HeldBegan y.began ∷ HeldEntered y.object ∷ HeldObject y.object ∷ HeldKeyIf y.key ∷ given_held y.given

abbrev pub frame_held : Frame → List Held
frame_held (x.Begin y) = task_held y
frame_held (x.Begun y) = task_held y
frame_held (x.Anew y) = task_held y
frame_held (x.Expr y) = expr_held y
frame_held (x.Stmt y) = stmt_held y
frame_held (x.Call y) = call_held y
frame_held (x.Reflect y) = reflect_held y
frame_held (x.Array y) = array_held y
frame_held (x.Proxy y) = proxy_held y
frame_held (x.Collect y) = collect_held y
frame_held (x.Membrane y) = membrane_held y
frame_held (x.Entry y) = entering_held y

abbrev pub FrameIn : Data → Frame → Type 0
FrameIn d y = AreIn d (frame_held y)

-- ---- what stands in moves

abbrev pub move_held : Move → List Held
move_held (move.Done y) = outcome_held y
move_held (move.Wait y t) = frame_held y ++ task_held t
move_held (move.Next t) = task_held t
move_held (move.Anew t) = task_held t
move_held (move.Entered y t) = frame_held y ++ task_held t

abbrev pub passage_held : Passage → List Held
passage_held (Here home m) = move_held m
passage_held (Across y home m) = frame_held y.frame ++ move_held m

-- ---- what stands in machines

-- each id of a stack is one of the world
abbrev pub StackIn : Data → List Waiting → Type 0
StackIn d stack = AllByRecursion (λ y. FrameIn d y.frame) stack

pub record MachineIn (d : Data) (m : Machine) : Type 0 where
  pub frames : StackIn d m.stack.items
  pub done : AreIn d (done_held m.done)
