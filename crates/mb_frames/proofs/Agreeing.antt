-- Frames stand for the same by two lists of names that agree on what stands in them.
use Rattle.std.proofs.Common.{List, None, Option, Some, ap, option_map, refl, ℕ, ◌≡◌}
use Rattle.std.specs.Prelude.{All}
use Rattle.mb_base.specs.declared.value.Key.{Key}
use Rattle.mb_base.specs.declared.value.ObjId.{ObjId}
use Rattle.mb_base.specs.declared.value.StrId.{StrId}
use Rattle.mb_desc.specs.declared.descriptor.Desc.{Desc}
use Rattle.mb_desc.specs.declared.descriptor.Full.{Full}
use Rattle.mb_frames.specs.Held.{AreIn, DescIn}
use Rattle.mb_frames.specs.Holding.{answer_held, array_held, call_held, callback_held, collect_held, desc_held, done_held, entering_held, expr_held, given_held, list_held, member_held, membrane_held, method_held, outcome_held, proxy_held, reference_held, reflect_held, request_held, stmt_held, task_held, turn_held, value_if}
use Rattle.mb_frames.specs.Resolved.{answer_in, done_in, given_in, keys_of, label_in, method_in, outcome_in, real_in, reference_in, request_in, task_in, values_in}
use Rattle.mb_frames.specs.Rest.Arraying.{array_rest, call_found, callback_called, member_from, turn_found}
use Rattle.mb_frames.specs.Rest.Calls.{after_desc, after_list, call_rest}
use Rattle.mb_frames.specs.Rest.Collecting.{collect_rest}
use Rattle.mb_frames.specs.Rest.Crossings.{membrane_rest}
use Rattle.mb_frames.specs.Rest.Expressions.{expr_rest}
use Rattle.mb_frames.specs.Rest.Proxying.{proxy_rest}
use Rattle.mb_frames.specs.Rest.Reflecting.{reflect_rest}
use Rattle.mb_frames.specs.Rest.Statements.{stmt_rest}
use Rattle.mb_frames.specs.Standing.{entry_by}
use Rattle.mb_world.proofs.Images.{key-grows, map-same, option-same, value-grows}
use Rattle.mb_world.specs.Data.{Data}
use Rattle.mb_world.specs.Form.{Form}
use Rattle.mb_world.specs.Grows.{Grows}
use Rattle.mb_world.specs.Ids.{FullIn, KeyIn, Maybe, ObjIn, TextIn, ValueIn}
use Rattle.mb_world.specs.Image.{Names, Resolve, desc_in, full_in, key_in, names_of, object_in, text_in}
use Rattle.mb_world.specs.Value.{Val}
use Rattle.mb_base.specs.declared.value.Value.{Value}
use Rattle.mb_frames.specs.declared.task.Method.{Method}
use Rattle.mb_frames.specs.declared.task.Method.TheVariants as method
use Rattle.mb_frames.specs.declared.task.Request.{Request}
use Rattle.mb_frames.specs.declared.task.Request.TheVariants as q
use Rattle.mb_frames.specs.declared.task.Task.{Task}
use Rattle.mb_frames.specs.declared.task.Task.TheVariants as task
use Rattle.mb_frames.specs.declared.task.Answer.{Answer}
use Rattle.mb_frames.specs.declared.task.Answer.TheVariants as a
use Rattle.mb_frames.specs.declared.task.Outcome.{Outcome}
use Rattle.mb_frames.specs.declared.task.Outcome.TheVariants as o
use Rattle.mb_frames.specs.declared.expressions.Reference.{Reference}
use Rattle.mb_frames.specs.declared.expressions.Reference.TheVariants as reference
use Rattle.mb_frames.specs.declared.expressions.ExprFrame.{ExprFrame}
use Rattle.mb_frames.specs.declared.expressions.ExprFrame.TheVariants as e
use Rattle.mb_frames.specs.declared.statements.StmtFrame.{StmtFrame}
use Rattle.mb_frames.specs.declared.statements.StmtFrame.TheVariants as t
use Rattle.mb_frames.specs.declared.calls.AfterList.{AfterList}
use Rattle.mb_frames.specs.declared.calls.AfterList.TheVariants as list
use Rattle.mb_frames.specs.declared.calls.AfterDesc.{AfterDesc}
use Rattle.mb_frames.specs.declared.calls.AfterDesc.TheVariants as desc
use Rattle.mb_frames.specs.declared.calls.CallFrame.{CallFrame}
use Rattle.mb_frames.specs.declared.calls.CallFrame.TheVariants as c
use Rattle.mb_frames.specs.declared.reflecting.ReflectFrame.{ReflectFrame}
use Rattle.mb_frames.specs.declared.reflecting.ReflectFrame.TheVariants as r
use Rattle.mb_frames.specs.declared.arrays.Member.{Member}
use Rattle.mb_frames.specs.declared.arrays.Member.TheVariants as member
use Rattle.mb_frames.specs.declared.arrays.Callback.{Callback}
use Rattle.mb_frames.specs.declared.arrays.Callback.TheVariants as callback
use Rattle.mb_frames.specs.declared.arrays.Turn.{Turn}
use Rattle.mb_frames.specs.declared.arrays.Turn.TheVariants as turn
use Rattle.mb_frames.specs.declared.arrays.ArrayFrame.{ArrayFrame}
use Rattle.mb_frames.specs.declared.arrays.ArrayFrame.TheVariants as y
use Rattle.mb_frames.specs.declared.proxies.ProxyFrame.{ProxyFrame}
use Rattle.mb_frames.specs.declared.proxies.ProxyFrame.TheVariants as p
use Rattle.mb_frames.specs.declared.collections.CollectFrame.{CollectFrame}
use Rattle.mb_frames.specs.declared.collections.CollectFrame.TheVariants as l
use Rattle.mb_frames.specs.declared.crossing.MembraneFrame.{MembraneFrame}
use Rattle.mb_frames.specs.declared.crossing.MembraneFrame.TheVariants as m
use Rattle.mb_frames.specs.declared.frame.Given.{Given}
use Rattle.mb_frames.specs.declared.frame.Given.TheVariants as given
use Rattle.mb_frames.specs.declared.frame.Entering.{Entering}
use Rattle.mb_world.specs.Graph as graph
use Rattle.mb_model.specs.Task as model
use Rattle.mb_model.specs.Writing as model_writing
use Rattle.mb_desc.specs.declared.descriptor.Full.TheVariants.{Datum, Accessor}
use Rattle.mb_model.specs.Nodes.References as model_reference

-- the ids of a world stand for the same by both
pub record Agrees (d : Data) (n n' : Names) : Type 0 where
  pub value : (x : Value) → ValueIn d x → Resolve n' x ≡ Resolve n x
  pub object : (id : ObjId) → ObjIn d id → object_in n' id ≡ object_in n id
  pub key : (k : Key) → KeyIn d k → key_in n' k ≡ key_in n k
  pub text : (t : StrId) → TextIn d t → text_in n' t ≡ text_in n t

pub grown-agree : (d d' : Data) → Grows d d' → Agrees d (names_of d) (names_of d')
grown-agree d d' g = record {
  value = value-grows d d' g;
  object = g.same_object;
  key = key-grows d d' g;
  text = g.same_text;
}

module _ (d : Data) (n n' : Names) (g : Agrees d n n') where
  pub values-agree : (vs : List Value) → All (ValueIn d) vs → values_in n' vs ≡ values_in n vs
  values-agree vs h = map-same (Resolve n') (Resolve n) (ValueIn d) g.value vs h

  pub keys-agree : (ks : List Key) → All (KeyIn d) ks → keys_of n' ks ≡ keys_of n ks
  keys-agree ks h = map-same (key_in n') (key_in n) (KeyIn d) g.key ks h

  pub label-agrees : (t : Option StrId) → Maybe (TextIn d) t → label_in n' t ≡ label_in n t
  label-agrees t h = option-same (text_in n') (text_in n) (TextIn d) g.text t h

  pub desc-agrees : (x : Desc Value) → DescIn d x → desc_in (Resolve n') x ≡ desc_in (Resolve n) x
  desc-agrees x h = rw (
    option-same (Resolve n') (Resolve n) (ValueIn d) g.value x.value h.value_in,
    option-same (Resolve n') (Resolve n) (ValueIn d) g.value x.get h.get_in,
    option-same (Resolve n') (Resolve n) (ValueIn d) g.value x.set h.set_in,
  ) refl

  pub full-agrees : (f : Full Value) → FullIn d f → full_in n' f ≡ full_in n f
  full-agrees (Datum x w e c) h = rw (g.value x h) refl
  full-agrees (Accessor x y e c) h = rw (g.value x h.0, g.value y h.1) refl

  pub real-agrees : (f : Option (Full Value)) → Maybe (FullIn d) f → real_in n' f ≡ real_in n f
  real-agrees f h = option-same (full_in n') (full_in n) (FullIn d) full-agrees f h

  pub method-agrees : (id : ObjId) (y : Method) → AreIn d (method_held id y) → method_in n' y ≡ method_in n y
  method-agrees id method.GetPrototypeOf h = refl
  method-agrees id (method.SetPrototypeOf given) h = rw (g.value given h.0) refl
  method-agrees id method.IsExtensible h = refl
  method-agrees id method.PreventExtensions h = refl
  method-agrees id (method.GetOwnProperty k) h = rw (g.key k h.0) refl
  method-agrees id (method.DefineOwnProperty k x) h = rw (g.key k h.0, desc-agrees x h.1.0) refl
  method-agrees id (method.HasProperty k) h = rw (g.key k h.0) refl
  method-agrees id (method.Get k r) h = rw (g.key k h.0, g.value r h.1.0) refl
  method-agrees id (method.Set k x r) h = rw (g.key k h.0, g.value x h.1.0, g.value r h.1.1.0) refl
  method-agrees id (method.Delete k) h = rw (g.key k h.0) refl
  method-agrees id method.OwnPropertyKeys h = refl
  method-agrees id (method.Call this vs) h = rw (g.value this h.0, values-agree vs h.1.0) refl
  method-agrees id (method.Construct vs target) h = rw (values-agree vs h.0, g.value target h.1.0) refl

  pub request-agrees : (y : Request) → AreIn d (request_held y) → request_in n' y ≡ request_in n y
  request-agrees (q.GetAt k) h = ap model.GetAt (g.value k h.0)
  request-agrees (q.SetAt k v) h = rw (g.value k h.0, g.value v h.1.0) refl
  request-agrees (q.Add k) h = ap model.Add (g.value k h.0)
  request-agrees (q.Has k) h = ap model.Has (g.value k h.0)
  request-agrees (q.DeleteAt k) h = ap model.DeleteAt (g.value k h.0)
  request-agrees q.Clear h = refl
  request-agrees q.Size h = refl
  request-agrees (q.Slot place) h = refl

  pub task-agrees : (s : ℕ) (y : Task) → AreIn d (task_held y) → task_in n' s y ≡ task_in n s y
  task-agrees s (task.Evaluate node at) h = rw (g.value at.this h.1.0) refl
  task-agrees s (task.Loop node at) h = rw (g.value at.this h.1.0) refl
  task-agrees s (task.Chain object prototype) h = rw (g.object object h.0, g.object prototype h.1.0) refl
  task-agrees s (task.Walk object given next) h =
      rw (g.object object h.0, g.value given h.1.0, g.value next h.1.1.0) refl
  task-agrees s (task.Perform method object viewer enters) h =
      rw (g.object object h.0, method-agrees object method h.1) refl
  task-agrees s (task.Enter function this arguments) h =
      rw (g.object function h.0, g.value this h.1.0, values-agree arguments h.1.1.0) refl
  task-agrees s (task.Run place this arguments target) h =
      rw (g.value this h.1.0, values-agree arguments h.1.1.0, g.value target h.1.1.1.0) refl
  task-agrees s (task.Access place collection request) h =
      rw (g.object collection h.1.0, request-agrees request h.1.1) refl
  task-agrees s (task.Visit place collection function this position) h =
      rw (g.object collection h.1.0, g.value function h.1.1.0, g.value this h.1.1.1.0) refl

  pub answer-agrees : (y : Answer) → AreIn d (answer_held y) → answer_in n' y ≡ answer_in n y
  answer-agrees a.Nothing h = refl
  answer-agrees (a.Value x) h = rw (g.value x h.0) refl
  answer-agrees (a.Flag b) h = refl
  answer-agrees (a.Prop p) h = rw (real-agrees p h.0) refl
  answer-agrees (a.Given x) h = rw (desc-agrees x h.0) refl
  answer-agrees (a.Keys ks) h = rw (keys-agree ks h.0) refl
  answer-agrees (a.Values vs) h = rw (values-agree vs h.0) refl
  answer-agrees (a.Place base k) h = rw (g.value base h.0, g.key k h.1.0) refl
  answer-agrees (a.Pair k v) h = rw (g.value k h.0, g.value v h.1.0) refl
  answer-agrees a.Empty h = refl

  pub outcome-agrees : (y : Outcome) → AreIn d (outcome_held y) → outcome_in n' y ≡ outcome_in n y
  outcome-agrees (o.Normal y) h = ap model.Normal (answer-agrees y h)
  outcome-agrees (o.Throw y) h = ap model.Throw (g.value y h.0)
  outcome-agrees (o.Return y) h = ap model.Return (g.value y h.0)
  outcome-agrees o.Break h = refl
  outcome-agrees o.Continue h = refl

  pub done-agrees : (y : Option Outcome) → AreIn d (done_held y) → done_in n' y ≡ done_in n y
  done-agrees None h = refl
  done-agrees (Some y) h = outcome-agrees y h

  pub reference-agrees : (y : Reference) → AreIn d (reference_held y) → reference_in n' y ≡ reference_in n y
  reference-agrees (reference.Name name) h = ap model_reference.ToName (g.text name h.0)
  reference-agrees (reference.Place base k) h = rw (g.value base h.0, g.key k h.1.0) refl

  list-by : (s : ℕ) (y : AfterList) → AreIn d (list_held y) → (vs : List Val)
      → after_list n' s y vs ≡ after_list n s y vs
  list-by s (list.Apply function this) h vs = rw (g.value function h.0, g.value this h.1.0) refl
  list-by s (list.Construct function target) h vs = rw (g.object function h.0, g.value target h.1.0) refl
  list-by s (list.Keys target) h vs = rw (g.object target h.0) refl

  list-agrees : (s : ℕ) (y : AfterList) → AreIn d (list_held y) → after_list n' s y ≡ after_list n s y
  list-agrees s y h = λ i vs. list-by s y h vs i

  after_desc-by : (s : ℕ) (y : AfterDesc) → AreIn d (desc_held y) → (x : Desc Val)
      → after_desc n' s y x ≡ after_desc n s y x
  after_desc-by s (desc.ObjectDefine object key) h x = rw (g.object object h.0, g.key key h.1.0) refl
  after_desc-by s (desc.ReflectDefine object key) h x = rw (g.object object h.0, g.key key h.1.0) refl
  after_desc-by s (desc.Own target key) h x = rw (g.object target h.0, g.key key h.1.0) refl

  after_desc-agrees : (s : ℕ) (y : AfterDesc) → AreIn d (desc_held y) → after_desc n' s y ≡ after_desc n s y
  after_desc-agrees s y h = λ i x. after_desc-by s y h x i

  value_if-agrees : (y : Option Value) → AreIn d (value_if y) → option_map (Resolve n') y ≡ option_map (Resolve n) y
  value_if-agrees None h = refl
  value_if-agrees (Some x) h = ap Some (g.value x h.0)

  member-by : (s : ℕ) (object : Val) (y : Member) → AreIn d (member_held y) → (m : ℕ)
      → member_from n' s object y m ≡ member_from n s object y m
  member-by s object (member.Push arguments) h m = rw (values-agree arguments h.0) refl
  member-by s object member.Pop h m = refl
  member-by s object (member.ForEach f this) h m = rw (g.value f h.0, g.value this h.1.0) refl
  member-by s object (member.Map f this) h m = rw (g.value f h.0, g.value this h.1.0) refl
  member-by s object (member.Filter f this) h m = rw (g.value f h.0, g.value this h.1.0) refl
  member-by s object (member.Reduce f first) h m = rw (g.value f h.0, value_if-agrees first h.1) refl
  member-by s object (member.IndexOf x from) h m = rw (g.value x h.0, g.value from h.1.0) refl
  member-by s object (member.Slice from to) h m = rw (g.value from h.0, g.value to h.1.0) refl
  member-by s object (member.Join separator) h m = rw (g.value separator h.0) refl

  member-agrees : (s : ℕ) (object : Val) (y : Member) → AreIn d (member_held y)
      → member_from n' s object y ≡ member_from n s object y
  member-agrees s object y h = λ i m. member-by s object y h m i

  call_found-agrees : (s : ℕ) (object : Val) (y : Callback) → AreIn d (callback_held y) → (k m : ℕ) (v : Option Val)
      → call_found n' s object y k m v ≡ call_found n s object y k m v
  call_found-agrees s object (callback.ForEach f this) h k m v = rw (g.value f h.0, g.value this h.1.0) refl
  call_found-agrees s object (callback.Map f this array) h k m v =
      rw (g.value f h.0, g.value this h.1.0, g.object array h.1.1.0) refl
  call_found-agrees s object (callback.Filter f this array count) h k m v =
      rw (g.value f h.0, g.value this h.1.0, g.object array h.1.1.0) refl
  call_found-agrees s object (callback.Reduce f so_far) h k m v = rw (g.value f h.0, value_if-agrees so_far h.1) refl

  called-agrees : (s : ℕ) (object x : Val) (k m : ℕ) (v : Val) (y : Callback) → AreIn d (callback_held y)
      → callback_called n' s object x k m v y ≡ callback_called n s object x k m v y
  called-agrees s object x k m v (callback.ForEach f this) h = rw (g.value f h.0, g.value this h.1.0) refl
  called-agrees s object x k m v (callback.Map f this array) h =
      rw (g.value f h.0, g.value this h.1.0, g.object array h.1.1.0) refl
  called-agrees s object x k m v (callback.Filter f this array count) h =
      rw (g.value f h.0, g.value this h.1.0, g.object array h.1.1.0) refl
  called-agrees s object x k m v (callback.Reduce f so_far) h = rw (g.value f h.0) refl

  turn-agrees : (s : ℕ) (object : Val) (y : Turn) → AreIn d (turn_held y) → (k m : ℕ) (v : Option Val)
      → turn_found n' s object y k m v ≡ turn_found n s object y k m v
  turn-agrees s object (turn.Call y) h k m v = call_found-agrees s object y h k m v
  turn-agrees s object (turn.IndexOf x) h k m v = rw (g.value x h.0) refl
  turn-agrees s object (turn.Slice array from) h k m v = rw (g.object array h.0) refl

  turn-same : (s : ℕ) (object : Val) (y : Turn) → AreIn d (turn_held y) → (k m : ℕ)
      → turn_found n' s object y k m ≡ turn_found n s object y k m
  turn-same s object y h k m = λ i v. turn-agrees s object y h k m v i

  given-agrees : (y : Given) → AreIn d (given_held y) → given_in n' y ≡ given_in n y
  given-agrees given.Nothing h = refl
  given-agrees (given.Value y) h = ap graph.SaidValue (g.value y h.0)
  given-agrees (given.Desc y) h = ap graph.SaidProperty (desc-agrees y h.0)
  given-agrees (given.Pair k v) h = rw (g.value k h.0, g.value v h.1.0) refl

  key_if-agrees : (k : Option Key) → Maybe (KeyIn d) k → option_map (key_in n') k ≡ option_map (key_in n) k
  key_if-agrees k h = option-same (key_in n') (key_in n) (KeyIn d) g.key k h

  pub entry-agrees : (s : ℕ) (y : Entering) → AreIn d (entering_held y) → (w : model.Outcome)
      → entry_by n' s y w ≡ entry_by n s y w
  entry-agrees s y h w = rw (g.object y.object h.1.1.0, key_if-agrees y.key h.1.1.1.0, given-agrees y.given h.1.1.1.1) refl

  pub expr-agrees : (s : ℕ) (fs : List Form) (y : ExprFrame) → AreIn d (expr_held y) → (w : model.Answer)
      → expr_rest n' fs s y w ≡ expr_rest n fs s y w
  expr-agrees s fs (e.Element at node array place) h w = rw (g.value at.this h.1.0, g.object array h.1.1.1.0) refl
  expr-agrees s fs (e.PropKey at node object property place) h w = rw (g.value at.this h.1.0, g.object object h.1.1.1.0) refl
  expr-agrees s fs (e.PropValue at node object place key) h w = rw (g.value at.this h.1.0, g.object object h.1.1.1.0, g.key key h.1.1.1.1.0) refl
  expr-agrees s fs (e.MemberBase at name after) h w = rw (g.value at.this h.1.0, g.text name h.1.1.0) refl
  expr-agrees s fs (e.IndexBase at key after) h w = rw (g.value at.this h.1.0) refl
  expr-agrees s fs (e.IndexKey at base after) h w = rw (g.value at.this h.1.0, g.value base h.1.1.0) refl
  expr-agrees s fs e.Got h w = refl
  expr-agrees s fs (e.AssignValue at to) h w = rw (g.value at.this h.1.0, reference-agrees to h.1.1) refl
  expr-agrees s fs (e.CompoundOld at sign value to) h w = rw (g.value at.this h.1.0, reference-agrees to h.1.1.1.1) refl
  expr-agrees s fs (e.CompoundValue at sign old to) h w = rw (g.value at.this h.1.0, g.value old h.1.1.0, reference-agrees to h.1.1.1.1) refl
  expr-agrees s fs (e.UpdateOld at plus prefix to) h w = rw (g.value at.this h.1.0, reference-agrees to h.1.1) refl
  expr-agrees s fs (e.Put gives) h w = rw (g.value gives h.0) refl
  expr-agrees s fs (e.Callee at node this) h w = rw (g.value at.this h.1.0, g.value this h.1.1.1.0) refl
  expr-agrees s fs (e.Argument at node callee this done) h w = rw (g.value at.this h.1.0, g.value callee h.1.1.1.0, g.value this h.1.1.1.1.0, values-agree done h.1.1.1.1.1.0) refl
  expr-agrees s fs (e.Constructor at node) h w = rw (g.value at.this h.1.0) refl
  expr-agrees s fs (e.NewArgument at node callee done) h w = rw (g.value at.this h.1.0, g.value callee h.1.1.1.0, values-agree done h.1.1.1.1.0) refl
  expr-agrees s fs (e.Or at right) h w = rw (g.value at.this h.1.0) refl
  expr-agrees s fs (e.And at right) h w = rw (g.value at.this h.1.0) refl
  expr-agrees s fs (e.Cond at main other) h w = rw (g.value at.this h.1.0) refl
  expr-agrees s fs (e.Seq at node next) h w = rw (g.value at.this h.1.0) refl
  expr-agrees s fs e.Not h w = refl
  expr-agrees s fs e.Negate h w = refl
  expr-agrees s fs e.Typeof h w = refl
  expr-agrees s fs e.Deleted h w = refl
  expr-agrees s fs (e.Left at sign right) h w = rw (g.value at.this h.1.0) refl
  expr-agrees s fs (e.Right sign left) h w = rw (g.value left h.0) refl
  expr-agrees s fs e.Has h w = refl
  expr-agrees s fs (e.InstancePrototype object) h w = rw (g.object object h.0) refl
  expr-agrees s fs (e.Chain prototype) h w = rw (g.object prototype h.0) refl

  pub stmt-agrees : (s : ℕ) (fs : List Form) (y : StmtFrame) → AreIn d (stmt_held y) → (w : model.Outcome)
      → stmt_rest n' fs s y w ≡ stmt_rest n fs s y w
  stmt-agrees s fs (t.Each at node next) h w = rw (g.value at.this h.1.0) refl
  stmt-agrees s fs (t.Declared at node name next) h w = rw (g.value at.this h.1.0, g.text name h.1.1.1.0) refl
  stmt-agrees s fs t.Expression h w = refl
  stmt-agrees s fs (t.If at main other) h w = rw (g.value at.this h.1.0) refl
  stmt-agrees s fs (t.WhileTest at node body) h w = rw (g.value at.this h.1.0) refl
  stmt-agrees s fs (t.WhileBody at node) h w = rw (g.value at.this h.1.0) refl
  stmt-agrees s fs (t.DoBody at node test) h w = rw (g.value at.this h.1.0) refl
  stmt-agrees s fs (t.DoTest at node) h w = rw (g.value at.this h.1.0) refl
  stmt-agrees s fs (t.ForFirst at node) h w = rw (g.value at.this h.1.0) refl
  stmt-agrees s fs (t.ForTest at node) h w = rw (g.value at.this h.1.0) refl
  stmt-agrees s fs (t.ForBody at node) h w = rw (g.value at.this h.1.0) refl
  stmt-agrees s fs (t.ForLast at node) h w = rw (g.value at.this h.1.0) refl
  stmt-agrees s fs t.Return h w = refl
  stmt-agrees s fs t.Throw h w = refl
  stmt-agrees s fs (t.Try at node) h w = rw (g.value at.this h.1.0) refl
  stmt-agrees s fs (t.Handler at ending) h w = rw (g.value at.this h.1.0) refl
  stmt-agrees s fs (t.Ending outcome) h w = rw (outcome-agrees outcome h) refl

  pub call-agrees : (s : ℕ) (fs : List Form) (y : CallFrame) → AreIn d (call_held y) → (w : model.Outcome)
      → call_rest n' fs s y w ≡ call_rest n fs s y w
  call-agrees s fs c.SetterCalled h w = refl
  call-agrees s fs (c.ReceiverRead key value receiver) h w = rw (g.key key h.0, g.value value h.1.0, g.object receiver h.1.1.0) refl
  call-agrees s fs (c.ConstructPrototype function label arguments) h w = rw (g.object function h.0, label-agrees label h.1.0, values-agree arguments h.1.1.0) refl
  call-agrees s fs (c.ConstructBody made) h w = rw (g.object made h.0) refl
  call-agrees s fs (c.Statement at node next) h w = rw (g.value at.this h.1.0) refl
  call-agrees s fs c.ArrowValue h w = refl
  call-agrees s fs (c.ListLength list after) h w = rw (g.object list h.0, list-agrees s after h.1) refl
  call-agrees s fs (c.ListElement list left done after) h w = rw (g.object list h.0, values-agree done h.1.0, list-agrees s after h.1.1) refl
  call-agrees s fs (c.FieldThere object field desc after) h w = rw (g.object object h.0, desc-agrees desc h.1.0, after_desc-agrees s after h.1.1) refl
  call-agrees s fs (c.FieldGot object field desc after) h w = rw (g.object object h.0, desc-agrees desc h.1.0, after_desc-agrees s after h.1.1) refl

  pub reflect-agrees : (s : ℕ) (y : ReflectFrame) → AreIn d (reflect_held y) → (w : model.Answer)
      → reflect_rest n' s y w ≡ reflect_rest n s y w
  reflect-agrees s r.ObjectPrototype h w = refl
  reflect-agrees s (r.ErrorPrototype kind message) h w = rw (g.value message h.0) refl
  reflect-agrees s (r.KeysListed object) h w = rw (g.object object h.0) refl
  reflect-agrees s (r.KeyRead object key keys next found) h w = rw (g.object object h.0, g.key key h.1.0, keys-agree keys h.1.1.0, values-agree found h.1.1.1.0) refl
  reflect-agrees s r.SymbolsListed h w = refl
  reflect-agrees s (r.Closed object frozen) h w = rw (g.object object h.0) refl
  reflect-agrees s (r.SettledKeys object frozen) h w = rw (g.object object h.0) refl
  reflect-agrees s (r.FreezeRead object key keys next) h w = rw (g.object object h.0, g.key key h.1.0, keys-agree keys h.1.1.0) refl
  reflect-agrees s (r.Settled object frozen keys next) h w = rw (g.object object h.0, keys-agree keys h.1.0) refl
  reflect-agrees s (r.FrozenExtensible object) h w = rw (g.object object h.0) refl
  reflect-agrees s (r.FrozenKeys object) h w = rw (g.object object h.0) refl
  reflect-agrees s (r.FrozenRead object keys next) h w = rw (g.object object h.0, keys-agree keys h.1.0) refl
  reflect-agrees s (r.GivenBack object) h w = rw (g.object object h.0) refl
  reflect-agrees s r.Described h w = refl
  reflect-agrees s r.HasOwn h w = refl
  reflect-agrees s r.Truth h w = refl
  reflect-agrees s r.OwnKeys h w = refl

  pub array-agrees : (s : ℕ) (y : ArrayFrame) → AreIn d (array_held y) → (w : model.Answer)
      → array_rest n' s y w ≡ array_rest n s y w
  array-agrees s (y.Prototype arguments) h w = rw (values-agree arguments h.0) refl
  array-agrees s (y.Length object member) h w = rw (g.object object h.0, member-agrees s (object_in n object) member h.1) refl
  array-agrees s (y.There object place left turn) h w = rw (g.object object h.0, turn-same s (object_in n object) turn h.1 place left) refl
  array-agrees s (y.Got object place left turn) h w = rw (g.object object h.0) (turn-agrees s (object_in n object) turn h.1 place left (Some (model_writing.value_in w)))
  array-agrees s (y.Called object place left element callback) h w = rw (g.object object h.0, g.value element h.1.0) (called-agrees s (object_in n object) (Resolve n element) place left (model_writing.value_in w) callback h.1.1)
  array-agrees s (y.PushSet object place arguments next) h w = rw (g.object object h.0, values-agree arguments h.1.0) refl
  array-agrees s (y.PushLength length) h w = refl
  array-agrees s (y.PopGot object place) h w = rw (g.object object h.0) refl
  array-agrees s (y.PopDeleted object place value) h w = rw (g.object object h.0, g.value value h.1.0) refl
  array-agrees s (y.PopLength value) h w = rw (g.value value h.0) refl
  array-agrees s (y.JoinGot object place left separator so_far) h w = rw (g.object object h.0) refl

  pub proxy-agrees : (s : ℕ) (y : ProxyFrame) → AreIn d (proxy_held y) → (w : model.Answer)
      → proxy_rest n' s y w ≡ proxy_rest n s y w
  proxy-agrees s (p.TrapGot side target handler method) h w = rw (g.object target h.1.0, g.object handler h.1.1.0, method-agrees target method h.1.1.1) refl
  proxy-agrees s (p.Said target method) h w = rw (g.object target h.0, method-agrees target method h.1) refl
  proxy-agrees s (p.PrototypeExtensible target said) h w = rw (g.object target h.0, g.value said h.1.0) refl
  proxy-agrees s (p.PrototypeRead said) h w = rw (g.value said h.0) refl
  proxy-agrees s (p.SetPrototypeExtensible target given) h w = rw (g.object target h.0, g.value given h.1.0) refl
  proxy-agrees s (p.SetPrototypeRead given) h w = rw (g.value given h.0) refl
  proxy-agrees s (p.ExtensibleRead said) h w = refl
  proxy-agrees s p.PreventRead h w = refl
  proxy-agrees s (p.AbsentRead target absent) h w = rw (g.object target h.0) refl
  proxy-agrees s (p.AbsentExtensible real absent) h w = rw (full-agrees real h.0) refl
  proxy-agrees s (p.OwnRead target said) h w = rw (g.object target h.0, full-agrees said h.1.0) refl
  proxy-agrees s (p.OwnExtensible said real) h w = rw (full-agrees said h.0, real-agrees real h.1.0) refl
  proxy-agrees s (p.DefineRead target given) h w = rw (g.object target h.0, desc-agrees given h.1.0) refl
  proxy-agrees s (p.DefineExtensible given real) h w = rw (desc-agrees given h.0, real-agrees real h.1.0) refl
  proxy-agrees s (p.GetRead said) h w = rw (g.value said h.0) refl
  proxy-agrees s (p.SetRead given) h w = rw (g.value given h.0) refl
  proxy-agrees s (p.KeysExtensible target said) h w = rw (g.object target h.0, keys-agree said h.1.0) refl
  proxy-agrees s (p.KeysListed target said extensible) h w = rw (g.object target h.0, keys-agree said h.1.0) refl
  proxy-agrees s (p.KeyRead target said extensible key keys next fixed loose) h w = rw (g.object target h.0, keys-agree said h.1.0, g.key key h.1.1.0, keys-agree keys h.1.1.1.0, keys-agree fixed h.1.1.1.1.0, keys-agree loose h.1.1.1.1.1.0) refl

  pub collect-agrees : (s : ℕ) (y : CollectFrame) → AreIn d (collect_held y) → (w : model.Answer)
      → collect_rest n' s y w ≡ collect_rest n s y w
  collect-agrees s l.Truth h w = refl
  collect-agrees s (l.Chained collection) h w = rw (g.object collection h.0) refl
  collect-agrees s (l.SlotRead at) h w = rw (g.object at.collection h.1.0, g.value at.function h.1.1.0, g.value at.this h.1.1.1.0) refl
  collect-agrees s (l.Called at) h w = rw (g.object at.collection h.1.0, g.value at.function h.1.1.0, g.value at.this h.1.1.1.0) refl
  collect-agrees s (l.Prototype coll arguments) h w = rw (values-agree arguments h.0) refl

  pub membrane-agrees : (s : ℕ) (y : MembraneFrame) → AreIn d (membrane_held y) → (w : model.Outcome)
      → membrane_rest n' s y w ≡ membrane_rest n s y w
  membrane-agrees s m.Crossing h w = refl
  membrane-agrees s (m.TrapGot owner target handler method) h w = rw (g.object target h.0, g.object handler h.1.0, method-agrees target method h.1.1) refl
