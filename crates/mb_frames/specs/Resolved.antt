-- What tasks, outcomes and references stand for in the graph, where a side acts.
use Rattle.mb_world.specs.Image.{object_in}
use Rattle.std.specs.Prelude.{List, None, Option, Some, map, option_map, ℕ}
use Rattle.mb_model.specs.Nodes.Evaluation.{Context}
use Rattle.mb_model.specs.Nodes.References.{Reference, ToName, ToPlace}
use Rattle.mb_model.specs.Task.{Access, Add, Answer, Break, Call, Chain, Clear, Construct, Continue, DefineOwnProperty, Delete, DeleteAt, Empty, Enter, Evaluate, Flag, Get, GetAt, GetOwnProperty, GetPrototypeOf, Given, Has, HasProperty, IsExtensible, Keys, Loop, Method, Normal, Nothing, Outcome, OwnPropertyKeys, Pair, Perform, Place, PreventExtensions, Prop, Request, Return, Run, Set, SetAt, SetPrototypeOf, Size, Slot, Task, Throw, Values, Visit, Walk}
use Rattle.mb_world.specs.Image.{Names, Resolve, desc_in, full_in, key_in, text_in}
use Rattle.mb_world.specs.Key.{PropertyKey}
use Rattle.mb_world.specs.Value.{Val}
use Rattle.mb_base.specs.declared.value.Value.{Value}
use Rattle.mb_base.specs.declared.value.Key.{Key}
use Rattle.mb_base.specs.declared.value.StrId.{StrId}
use Rattle.mb_base.specs.declared.value.NodeId.{NodeId}
use Rattle.mb_desc.specs.declared.descriptor.Full.{Full}
use Rattle.mb_frames.specs.declared.task.Context.{Context as FrameContext}
use Rattle.mb_frames.specs.declared.task.Method.{Method as FrameMethod}
use Rattle.mb_frames.specs.declared.task.Method.TheVariants as m
use Rattle.mb_frames.specs.declared.task.Request.{Request as FrameRequest}
use Rattle.mb_frames.specs.declared.task.Request.TheVariants as q
use Rattle.mb_frames.specs.declared.task.Task.{Task as FrameTask}
use Rattle.mb_frames.specs.declared.task.Task.TheVariants as t
use Rattle.mb_frames.specs.declared.task.Answer.{Answer as FrameAnswer}
use Rattle.mb_frames.specs.declared.task.Answer.TheVariants as a
use Rattle.mb_frames.specs.declared.task.Outcome.{Outcome as FrameOutcome}
use Rattle.mb_frames.specs.declared.task.Outcome.TheVariants as o
use Rattle.mb_frames.specs.declared.expressions.Reference.{Reference as FrameReference}
use Rattle.mb_frames.specs.declared.expressions.Reference.TheVariants as r
use Rattle.mb_frames.specs.declared.frame.Given.{Given as FrameGiven}
use Rattle.mb_frames.specs.declared.frame.Given.TheVariants as given
use Rattle.mb_world.specs.Graph.{Said, SaidNothing, SaidValue, SaidProperty, SaidPair}
use Rattle.mb_model.specs.Task.{Value as ValueAnswer}

abbrev pub values_in : Names → List Value → List Val
values_in n vs = map (Resolve n) vs

abbrev pub keys_of : Names → List Key → List PropertyKey
keys_of n ks = map (key_in n) ks

abbrev pub real_in : Names → Option (Full Value) → Option (Full Val)
real_in n p = option_map (full_in n) p

abbrev pub label_in : Names → Option StrId → Option (List ℕ)
label_in n t = option_map (text_in n) t

abbrev pub node_in : Option NodeId → Option ℕ
node_in n = option_map (λ id. id.0) n

abbrev pub context_in : Names → ℕ → FrameContext → Context
context_in n s c = record { side = s; scope = c.scope.0; this = Resolve n c.this }

abbrev pub method_in : Names → FrameMethod → Method
method_in n m.GetPrototypeOf = GetPrototypeOf
method_in n (m.SetPrototypeOf p) = SetPrototypeOf (Resolve n p)
method_in n m.IsExtensible = IsExtensible
method_in n m.PreventExtensions = PreventExtensions
method_in n (m.GetOwnProperty k) = GetOwnProperty (key_in n k)
method_in n (m.DefineOwnProperty k x) = DefineOwnProperty (key_in n k) (desc_in (Resolve n) x)
method_in n (m.HasProperty k) = HasProperty (key_in n k)
method_in n (m.Get k r) = Get (key_in n k) (Resolve n r)
method_in n (m.Set k x r) = Set (key_in n k) (Resolve n x) (Resolve n r)
method_in n (m.Delete k) = Delete (key_in n k)
method_in n m.OwnPropertyKeys = OwnPropertyKeys
method_in n (m.Call this vs) = Call (Resolve n this) (values_in n vs)
method_in n (m.Construct vs target) = Construct (values_in n vs) (Resolve n target)

abbrev pub request_in : Names → FrameRequest → Request
request_in n (q.GetAt k) = GetAt (Resolve n k)
request_in n (q.SetAt k v) = SetAt (Resolve n k) (Resolve n v)
request_in n (q.Add k) = Add (Resolve n k)
request_in n (q.Has k) = Has (Resolve n k)
request_in n (q.DeleteAt k) = DeleteAt (Resolve n k)
request_in n q.Clear = Clear
request_in n q.Size = Size
request_in n (q.Slot place) = Slot place

abbrev pub task_in : Names → ℕ → FrameTask → Task
task_in n s (t.Evaluate node at) = Evaluate s node.0 at.scope.0 (Resolve n at.this)
task_in n s (t.Loop node at) = Loop s node.0 at.scope.0 (Resolve n at.this)
task_in n s (t.Chain object prototype) = Chain s (object_in n object) (object_in n prototype)
task_in n s (t.Walk object given next) = Walk (object_in n object) (Resolve n given) (Resolve n next)
task_in n s (t.Perform method object viewer enters) =
    Perform s (method_in n method) (object_in n object) viewer.0 enters
task_in n s (t.Enter function this vs) = Enter (object_in n function) (Resolve n this) (values_in n vs)
task_in n s (t.Run place this vs target) = Run s place (Resolve n this) (values_in n vs) (Resolve n target)
task_in n s (t.Access place collection request) = Access s place (object_in n collection) (request_in n request)
task_in n s (t.Visit place collection function this position) =
    Visit s place (object_in n collection) (Resolve n function) (Resolve n this) position

abbrev pub answer_in : Names → FrameAnswer → Answer
answer_in n a.Nothing = Nothing
answer_in n (a.Value x) = ValueAnswer (Resolve n x)
answer_in n (a.Flag b) = Flag b
answer_in n (a.Prop p) = Prop (real_in n p)
answer_in n (a.Given x) = Given (desc_in (Resolve n) x)
answer_in n (a.Keys ks) = Keys (keys_of n ks)
answer_in n (a.Values vs) = Values (values_in n vs)
answer_in n (a.Place base k) = Place (Resolve n base) (key_in n k)
answer_in n (a.Pair k v) = Pair (Resolve n k) (Resolve n v)
answer_in n a.Empty = Empty

abbrev pub outcome_in : Names → FrameOutcome → Outcome
outcome_in n (o.Normal x) = Normal (answer_in n x)
outcome_in n (o.Throw x) = Throw (Resolve n x)
outcome_in n (o.Return x) = Return (Resolve n x)
outcome_in n o.Break = Break
outcome_in n o.Continue = Continue

-- the outcome that is there; where none is, a dummy stands for it, which a task that begins leaves aside
abbrev pub done_in : Names → Option FrameOutcome → Outcome
done_in n None = Normal Nothing
done_in n (Some x) = outcome_in n x

abbrev pub reference_in : Names → FrameReference → Reference
reference_in n (r.Name x) = ToName (text_in n x)
reference_in n (r.Place base k) = ToPlace (Resolve n base) (key_in n k)

-- what an entry says was given
abbrev pub given_in : Names → FrameGiven → Said
given_in n given.Nothing = SaidNothing
given_in n (given.Value x) = SaidValue (Resolve n x)
given_in n (given.Desc x) = SaidProperty (desc_in (Resolve n) x)
given_in n (given.Pair k v) = SaidPair (Resolve n k) (Resolve n v)
