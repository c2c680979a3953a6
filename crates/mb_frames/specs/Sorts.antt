-- Sorts of outcomes: for which a frame waits, and of which it is what a task or a frame gives.
use Rattle.std.specs.Prelude.{Bool, List, Option, Some, [], false, length, slice_get, true, ◌∷◌, ◌≡◌}
use Rattle.mb_base.specs.declared.value.Side.{Side}
use Rattle.mb_world.specs.Form.{BlockForm, BreakForm, ConstForm, ContinueForm, DeclForm, DoWhileForm, EmptyForm, ExprStmtForm, ForForm, Form, FunctionDeclForm, IfForm, LetForm, ReturnForm, ScriptForm, ThrowForm, TryForm, WhileForm}
use Rattle.mb_world.specs.Formed.{IsNullOrObject}
use Rattle.mb_world.specs.Intrinsics.{Intrinsic, MapPrototypeClear, MapPrototypeForEach, MapPrototypeGet, MapPrototypeSize, SetPrototypeClear, SetPrototypeForEach, SetPrototypeSize, WeakMapPrototypeGet, intrinsic}
use Rattle.mb_world.specs.Objects.{intrinsic_is}
use Rattle.mb_world.specs.Standard.{constructs}
use Rattle.mb_base.specs.declared.value.Value.{Value}
use Rattle.mb_base.specs.declared.value.Value.TheVariants as v
use Rattle.mb_frames.specs.declared.task.Method.{Method}
use Rattle.mb_frames.specs.declared.task.Method.TheVariants as method
use Rattle.mb_frames.specs.declared.task.Request.{Request}
use Rattle.mb_frames.specs.declared.task.Request.TheVariants as q
use Rattle.mb_frames.specs.declared.task.Task.{Task}
use Rattle.mb_frames.specs.declared.task.Task.TheVariants as task
use Rattle.mb_frames.specs.declared.task.Answer.{Answer}
use Rattle.mb_frames.specs.declared.task.Answer.TheVariants as a
use Rattle.mb_frames.specs.declared.task.Outcome.{Outcome}
use Rattle.mb_frames.specs.declared.task.Outcome.TheVariants as o
use Rattle.mb_frames.specs.declared.expressions.ExprFrame.{ExprFrame}
use Rattle.mb_frames.specs.declared.expressions.ExprFrame.TheVariants as e
use Rattle.mb_frames.specs.declared.statements.StmtFrame.{StmtFrame}
use Rattle.mb_frames.specs.declared.statements.StmtFrame.TheVariants as t
use Rattle.mb_frames.specs.declared.calls.AfterList.{AfterList}
use Rattle.mb_frames.specs.declared.calls.AfterList.TheVariants as list
use Rattle.mb_frames.specs.declared.calls.AfterDesc.{AfterDesc}
use Rattle.mb_frames.specs.declared.calls.AfterDesc.TheVariants as desc
use Rattle.mb_frames.specs.declared.calls.CallFrame.{CallFrame}
use Rattle.mb_frames.specs.declared.calls.CallFrame.TheVariants as c
use Rattle.mb_frames.specs.declared.reflecting.ReflectFrame.{ReflectFrame}
use Rattle.mb_frames.specs.declared.reflecting.ReflectFrame.TheVariants as r
use Rattle.mb_frames.specs.declared.arrays.ArrayFrame.{ArrayFrame}
use Rattle.mb_frames.specs.declared.arrays.ArrayFrame.TheVariants as y
use Rattle.mb_frames.specs.declared.proxies.ProxyFrame.{ProxyFrame}
use Rattle.mb_frames.specs.declared.proxies.ProxyFrame.TheVariants as p
use Rattle.mb_frames.specs.declared.collections.CollectFrame.{CollectFrame}
use Rattle.mb_frames.specs.declared.collections.CollectFrame.TheVariants as l
use Rattle.mb_frames.specs.declared.crossing.MembraneFrame.TheVariants as m
use Rattle.mb_frames.specs.declared.frame.Frame.{Frame}
use Rattle.mb_frames.specs.declared.frame.Frame.TheVariants as x
use Rattle.mb_frames.specs.declared.proxies.Absent.{Absent}
use Rattle.mb_frames.specs.declared.proxies.Absent.TheVariants as absent
use Rattle.mb_world.specs.declared.entry.Op.{Op}
use Rattle.mb_world.specs.declared.entry.Op.TheVariants as op
use Rattle.mb_frames.specs.declared.machine.Waiting.{Waiting}

-- Each sort takes a throw too. Of values an object is one, and so is a prototype, which is null or an object; a
-- completion is any outcome of a statement, and an expression's is one.
pub data Sort : Type 0 where
  AnObject : Sort
  APrototype : Sort
  AValue : Sort
  AFlag : Sort
  AProperty : Sort
  SomeKeys : Sort
  ASlot : Sort
  ACompletion : Sort

abbrev pub IsObject : Value → Type 0
IsObject (v.Object id) = Unit {0}
IsObject y = ⊥

abbrev pub IsAnswer : Sort → Answer → Type 0
IsAnswer AnObject (a.Value y) = IsObject y
IsAnswer APrototype (a.Value y) = IsNullOrObject y
IsAnswer AValue (a.Value y) = Unit {0}
IsAnswer AFlag (a.Flag b) = Unit {0}
IsAnswer AProperty (a.Prop full) = Unit {0}
IsAnswer SomeKeys (a.Keys keys) = Unit {0}
IsAnswer ASlot a.Nothing = Unit {0}
IsAnswer ASlot a.Empty = Unit {0}
IsAnswer ASlot (a.Pair key value) = Unit {0}
IsAnswer ACompletion answer = Unit {0}
IsAnswer sort answer = ⊥

abbrev pub IsOfSort : Sort → Outcome → Type 0
IsOfSort sort (o.Normal y) = IsAnswer sort y
IsOfSort sort (o.Throw y) = Unit {0}
IsOfSort ACompletion (o.Return y) = Unit {0}
IsOfSort ACompletion o.Break = Unit {0}
IsOfSort ACompletion o.Continue = Unit {0}
IsOfSort sort outcome = ⊥

-- what is of the first sort is of the second too
abbrev pub fits : (given wanted : Sort) → Bool
fits AnObject AnObject = true
fits AnObject APrototype = true
fits AnObject AValue = true
fits APrototype APrototype = true
fits APrototype AValue = true
fits AValue AValue = true
fits AFlag AFlag = true
fits AProperty AProperty = true
fits SomeKeys SomeKeys = true
fits ASlot ASlot = true
fits given ACompletion = true
fits given wanted = false

-- ---- what a frame waits for, where it doesn't take whatever comes

abbrev pub expr_waits : ExprFrame → Sort
expr_waits (e.Put gives) = AFlag
expr_waits e.Deleted = AFlag
expr_waits e.Has = AFlag
expr_waits (e.Chain prototype) = APrototype
expr_waits frame = AValue

abbrev pub stmt_waits : StmtFrame → Sort
stmt_waits (t.Declared at node name next) = AValue
stmt_waits t.Expression = AValue
stmt_waits (t.If at main other) = AValue
stmt_waits (t.WhileTest at node body) = AValue
stmt_waits (t.DoTest at node) = AValue
stmt_waits (t.ForTest at node) = AValue
stmt_waits (t.ForLast at node) = AValue
stmt_waits t.Return = AValue
stmt_waits t.Throw = AValue
stmt_waits frame = ACompletion

abbrev pub call_waits : CallFrame → Sort
call_waits (c.ReceiverRead key value receiver) = AProperty
call_waits (c.Statement at node next) = ACompletion
call_waits (c.FieldThere object field desc after) = AFlag
call_waits frame = AValue

abbrev pub reflect_waits : ReflectFrame → Sort
reflect_waits (r.KeysListed object) = SomeKeys
reflect_waits (r.KeyRead object key keys next found) = AProperty
reflect_waits r.SymbolsListed = SomeKeys
reflect_waits (r.Closed object frozen) = AFlag
reflect_waits (r.SettledKeys object frozen) = SomeKeys
reflect_waits (r.FreezeRead object key keys next) = AProperty
reflect_waits (r.Settled object frozen keys next) = AFlag
reflect_waits (r.FrozenExtensible object) = AFlag
reflect_waits (r.FrozenKeys object) = SomeKeys
reflect_waits (r.FrozenRead object keys next) = AProperty
reflect_waits (r.GivenBack object) = AFlag
reflect_waits r.Described = AProperty
reflect_waits r.HasOwn = AProperty
reflect_waits r.Truth = AFlag
reflect_waits r.OwnKeys = SomeKeys
reflect_waits frame = AValue

abbrev pub array_waits : ArrayFrame → Sort
array_waits (y.There object place left turn) = AFlag
array_waits (y.PushSet object place arguments next) = AFlag
array_waits (y.PushLength length) = AFlag
array_waits (y.PopDeleted object place value) = AFlag
array_waits (y.PopLength value) = AFlag
array_waits frame = AValue

abbrev pub proxy_waits : ProxyFrame → Sort
proxy_waits (p.PrototypeExtensible target said) = AFlag
proxy_waits (p.PrototypeRead said) = APrototype
proxy_waits (p.SetPrototypeExtensible target given) = AFlag
proxy_waits (p.SetPrototypeRead given) = APrototype
proxy_waits (p.ExtensibleRead said) = AFlag
proxy_waits p.PreventRead = AFlag
proxy_waits (p.AbsentRead target absent) = AProperty
proxy_waits (p.AbsentExtensible real absent) = AFlag
proxy_waits (p.OwnRead target said) = AProperty
proxy_waits (p.OwnExtensible said real) = AFlag
proxy_waits (p.DefineRead target given) = AProperty
proxy_waits (p.DefineExtensible given real) = AFlag
proxy_waits (p.GetRead said) = AProperty
proxy_waits (p.SetRead given) = AProperty
proxy_waits (p.KeysExtensible target said) = AFlag
proxy_waits (p.KeysListed target said extensible) = SomeKeys
proxy_waits (p.KeyRead target said extensible key keys next fixed loose) = AProperty
proxy_waits frame = AValue

abbrev pub collect_waits : CollectFrame → Sort
collect_waits l.Truth = AFlag
collect_waits (l.Chained collection) = AFlag
collect_waits (l.SlotRead at) = ASlot
collect_waits frame = AValue

-- ---- what tasks give

abbrev pub method_gives : Method → Sort
method_gives method.GetPrototypeOf = APrototype
method_gives (method.SetPrototypeOf given) = AFlag
method_gives method.IsExtensible = AFlag
method_gives method.PreventExtensions = AFlag
method_gives (method.GetOwnProperty key) = AProperty
method_gives (method.DefineOwnProperty key given) = AFlag
method_gives (method.HasProperty key) = AFlag
method_gives (method.Get key receiver) = AValue
method_gives (method.Set key value receiver) = AFlag
method_gives (method.Delete key) = AFlag
method_gives method.OwnPropertyKeys = SomeKeys
method_gives (method.Call this arguments) = AValue
method_gives (method.Construct arguments target) = AnObject

abbrev pub request_gives : Request → Sort
request_gives (q.GetAt key) = AValue
request_gives (q.SetAt key value) = AFlag
request_gives (q.Add key) = AFlag
request_gives (q.Has key) = AFlag
request_gives (q.DeleteAt key) = AFlag
request_gives q.Clear = AValue
request_gives q.Size = AValue
request_gives (q.Slot place) = ASlot

-- a statement's node ends in any way, an expression's gives a value
abbrev pub form_gives : Option Form → Sort
form_gives (Some (ScriptForm ns)) = ACompletion
form_gives (Some (LetForm ns)) = ACompletion
form_gives (Some (ConstForm ns)) = ACompletion
form_gives (Some (DeclForm name value)) = ACompletion
form_gives (Some (FunctionDeclForm name parts)) = ACompletion
form_gives (Some (BlockForm ns)) = ACompletion
form_gives (Some EmptyForm) = ACompletion
form_gives (Some (ExprStmtForm e)) = ACompletion
form_gives (Some (IfForm test main other)) = ACompletion
form_gives (Some (WhileForm test body)) = ACompletion
form_gives (Some (DoWhileForm body test)) = ACompletion
form_gives (Some (ForForm first test last body)) = ACompletion
form_gives (Some (ReturnForm e)) = ACompletion
form_gives (Some (ThrowForm e)) = ACompletion
form_gives (Some BreakForm) = ACompletion
form_gives (Some ContinueForm) = ACompletion
form_gives (Some (TryForm block caught handler ending)) = ACompletion
form_gives form = AValue

-- a built-in that constructs gives an object, where there is a new target (ECMA-262 10.3.2)
abbrev pub run_gives : Value → Bool → Sort
run_gives v.Undefined constructor = AValue
run_gives target true = AnObject
run_gives target false = AValue

-- fs are the nodes of the script at the task's home
abbrev pub task_gives : List Form → Task → Sort
task_gives fs (task.Evaluate node at) = form_gives (slice_get fs node.0)
task_gives fs (task.Loop node at) = ACompletion
task_gives fs (task.Chain object prototype) = AValue
task_gives fs (task.Walk object given next) = AFlag
task_gives fs (task.Perform method object viewer enters) = method_gives method
task_gives fs (task.Enter function this arguments) = AValue
task_gives fs (task.Run place this arguments target) = run_gives target (intrinsic_is constructs (intrinsic place))
task_gives fs (task.Access place collection request) = request_gives request
task_gives fs (task.Visit place collection function this position) = AValue

-- ---- what frames give

abbrev pub list_gives : AfterList → Sort
list_gives (list.Keys target) = SomeKeys
list_gives after = AValue

abbrev pub desc_gives : AfterDesc → Sort
desc_gives (desc.Own target key) = AProperty
desc_gives after = AValue

abbrev pub absent_gives : Absent → Sort
absent_gives absent.Own = AProperty
absent_gives which = AFlag

abbrev pub call_gives : CallFrame → Sort
call_gives c.SetterCalled = AFlag
call_gives (c.ReceiverRead key value receiver) = AFlag
call_gives (c.ConstructPrototype function label arguments) = AnObject
call_gives (c.ConstructBody made) = AnObject
call_gives (c.ListLength list after) = list_gives after
call_gives (c.ListElement list left done after) = list_gives after
call_gives (c.FieldThere object field desc after) = desc_gives after
call_gives (c.FieldGot object field desc after) = desc_gives after
call_gives frame = AValue

-- those that wait for a new target's prototype construct
abbrev pub reflect_gives : ReflectFrame → Sort
reflect_gives r.ObjectPrototype = AnObject
reflect_gives (r.ErrorPrototype kind message) = AnObject
reflect_gives frame = AValue

abbrev pub array_gives : ArrayFrame → Sort
array_gives (y.Prototype arguments) = AnObject
array_gives frame = AValue

abbrev pub collect_gives : CollectFrame → Sort
collect_gives (l.Prototype coll arguments) = AnObject
collect_gives frame = AValue

abbrev pub proxy_gives : ProxyFrame → Sort
proxy_gives (p.TrapGot side target handler method) = method_gives method
proxy_gives (p.Said target method) = method_gives method
proxy_gives (p.PrototypeExtensible target said) = APrototype
proxy_gives (p.PrototypeRead said) = APrototype
proxy_gives (p.SetPrototypeExtensible target given) = AFlag
proxy_gives (p.SetPrototypeRead given) = AFlag
proxy_gives (p.ExtensibleRead said) = AFlag
proxy_gives p.PreventRead = AFlag
proxy_gives (p.AbsentRead target absent) = absent_gives absent
proxy_gives (p.AbsentExtensible real absent) = absent_gives absent
proxy_gives (p.OwnRead target said) = AProperty
proxy_gives (p.OwnExtensible said real) = AProperty
proxy_gives (p.DefineRead target given) = AFlag
proxy_gives (p.DefineExtensible given real) = AFlag
proxy_gives (p.SetRead given) = AFlag
proxy_gives (p.KeysExtensible target said) = SomeKeys
proxy_gives (p.KeysListed target said extensible) = SomeKeys
proxy_gives (p.KeyRead target said extensible key keys next fixed loose) = SomeKeys
proxy_gives frame = AValue

-- the sort of an access by the built-in at a place
abbrev pub access_gives : Option Intrinsic → Sort
access_gives (Some MapPrototypeGet) = AValue
access_gives (Some MapPrototypeClear) = AValue
access_gives (Some MapPrototypeForEach) = ASlot
access_gives (Some MapPrototypeSize) = AValue
access_gives (Some SetPrototypeClear) = AValue
access_gives (Some SetPrototypeForEach) = ASlot
access_gives (Some SetPrototypeSize) = AValue
access_gives (Some WeakMapPrototypeGet) = AValue
access_gives place = AFlag

abbrev pub op_gives : Op → Sort
op_gives op.GetPrototypeOf = APrototype
op_gives op.SetPrototypeOf = AFlag
op_gives op.IsExtensible = AFlag
op_gives op.PreventExtensions = AFlag
op_gives op.GetOwnPropertyDescriptor = AProperty
op_gives op.DefineProperty = AFlag
op_gives op.Has = AFlag
op_gives op.Get = AValue
op_gives op.Set = AFlag
op_gives op.DeleteProperty = AFlag
op_gives op.OwnKeys = SomeKeys
op_gives op.Apply = AValue
op_gives op.Construct = AnObject
op_gives (op.Collect place) = access_gives (intrinsic place)

-- the sort of what a frame gives, where what is above it gives that sort: one that crosses hands it on
abbrev pub frame_sort : List Form → Frame → Sort → Sort
frame_sort fs (x.Begin y) sort = task_gives fs y
frame_sort fs (x.Begun y) sort = task_gives fs y
frame_sort fs (x.Anew y) sort = task_gives fs y
frame_sort fs (x.Expr y) sort = AValue
frame_sort fs (x.Stmt y) sort = ACompletion
frame_sort fs (x.Call y) sort = call_gives y
frame_sort fs (x.Reflect y) sort = reflect_gives y
frame_sort fs (x.Array y) sort = array_gives y
frame_sort fs (x.Proxy y) sort = proxy_gives y
frame_sort fs (x.Collect y) sort = collect_gives y
frame_sort fs (x.Membrane m.Crossing) sort = sort
frame_sort fs (x.Membrane (m.TrapGot owner target handler method)) sort = method_gives method
frame_sort fs (x.Entry y) sort = op_gives y.op

-- the frame waits for outcomes of that sort
abbrev pub waits_for : Frame → Sort → Bool
waits_for (x.Begin y) sort = true
waits_for (x.Begun y) sort = true
waits_for (x.Anew y) sort = true
waits_for (x.Expr y) sort = fits sort (expr_waits y)
waits_for (x.Stmt y) sort = fits sort (stmt_waits y)
waits_for (x.Call y) sort = fits sort (call_waits y)
waits_for (x.Reflect y) sort = fits sort (reflect_waits y)
waits_for (x.Array y) sort = fits sort (array_waits y)
waits_for (x.Proxy y) sort = fits sort (proxy_waits y)
waits_for (x.Collect y) sort = fits sort (collect_waits y)
waits_for (x.Membrane m.Crossing) sort = true
waits_for (x.Membrane (m.TrapGot owner target handler method)) sort = fits sort AValue
waits_for (x.Entry y) sort = fits sort (op_gives y.op)

-- ---- stacks

-- the sort of what a stack gives, where the outcome on top is of that sort
abbrev pub stack_sort : (Side → List Form) → List Waiting → Sort → Sort
stack_sort forms [] sort = sort
stack_sort forms (y ∷ above) sort = frame_sort (forms y.home) y.frame (stack_sort forms above sort)

-- each frame waits for what the one above it gives
abbrev pub AreLinked : (Side → List Form) → List Waiting → Sort → Type 0
AreLinked forms [] sort = Unit {0}
AreLinked forms (y ∷ above) sort =
    (waits_for y.frame (stack_sort forms above sort) ≡ true) × AreLinked forms above sort
