-- What a ready machine with a statement on top holds, and what its step leaves.
use Rattle.std.proofs.Common.{◌++◌, ◌<◌, ◌≡◌, ◌∷◌, List, None, Ok, Option, Some, [], refl, slice_get, subst, sym, true, true≢false, ℕ}
use Rattle.mb_base.specs.declared.value.Side.{Side}
use Rattle.mb_frames.proofs.Parts.{all-both}
use Rattle.mb_frames.proofs.Steadying.{done-holds, machine-ready, step-keeps, top-holds}
use Rattle.mb_frames.specs.Holding.{done_held, frame_held, task_held}
use Rattle.mb_frames.specs.Kinds.{is_evaluated}
use Rattle.mb_frames.specs.Ready.{Holds, IsReady, IsReadyMachine, KeepsBy, Leaves, MayHold}
use Rattle.mb_frames.specs.Sorts.{ACompletion, Sort, form_gives, frame_sort, task_gives}
use Rattle.mb_frames.specs.Standing.{Here, forms_at}
use Rattle.mb_frames.specs.Stepping.{MayCross, Stepped, Written}
use Rattle.mb_frames.specs.Wholeness.{StepsKept, sort_by}
use Rattle.mb_frames.specs.declared.frame.Frame.{Frame}
use Rattle.mb_frames.specs.declared.frame.Frame.TheVariants as x
use Rattle.mb_frames.specs.declared.frame.Move.{Move}
use Rattle.mb_frames.specs.declared.machine.Machine.{Machine}
use Rattle.mb_frames.specs.declared.machine.Waiting.{Waiting}
use Rattle.mb_frames.specs.declared.task.Outcome.{Outcome}
use Rattle.mb_frames.specs.declared.task.Task.{Task}
use Rattle.mb_frames.specs.declared.task.Task.TheVariants as task
use Rattle.mb_world.specs.Data.{Data}
use Rattle.mb_world.specs.Form.{BlockForm, BreakForm, ConstForm, ContinueForm, DeclForm, DoWhileForm, EmptyForm, ExprStmtForm, ForForm, Form, FunctionDeclForm, IfForm, LetForm, ParamForm, ReturnForm, ScriptForm, ThrowForm, TryForm, WhileForm}
use Rattle.mb_world.specs.Intrinsics.{FunctionPrototype, ObjectPrototype, place_of}
use Rattle.mb_eval_stmt.specs.Ours.{IsStatementFrame, IsStatementTask, is_statement}
use Rattle.mb_frames.specs.Making.{HasPrototypes}

-- ---- frames of statements

-- none of them crosses
pub no-crossing : (d : Data) (home : Side) (y : Frame) → IsStatementFrame d home y → MayCross y → ⊥
no-crossing d home (x.Begin t) h k = k
no-crossing d home (x.Begun t) h k = k
no-crossing d home (x.Anew t) h k = k
no-crossing d home (x.Expr y) h k = k
no-crossing d home (x.Stmt y) h k = k
no-crossing d home (x.Call y) h k = k
no-crossing d home (x.Reflect y) h k = k
no-crossing d home (x.Array y) h k = k
no-crossing d home (x.Proxy y) h k = k
no-crossing d home (x.Collect y) h k = k
no-crossing d home (x.Membrane y) h k = h
no-crossing d home (x.Entry y) h k = k

form-completes : (f : Option Form) → is_statement f ≡ true → is_evaluated f ≡ true → form_gives f ≡ ACompletion
form-completes None h k = absurd (true≢false (sym h))
form-completes (Some (ScriptForm ns)) h k = refl
form-completes (Some (LetForm ns)) h k = refl
form-completes (Some (ConstForm ns)) h k = refl
form-completes (Some (DeclForm n e)) h k = refl
form-completes (Some (FunctionDeclForm n p)) h k = refl
form-completes (Some (BlockForm ns)) h k = refl
form-completes (Some EmptyForm) h k = refl
form-completes (Some (ExprStmtForm e)) h k = refl
form-completes (Some (IfForm t m e)) h k = refl
form-completes (Some (WhileForm t b)) h k = refl
form-completes (Some (DoWhileForm b t)) h k = refl
form-completes (Some (ForForm f t l b)) h k = refl
form-completes (Some (ReturnForm e)) h k = refl
form-completes (Some (ThrowForm e)) h k = refl
form-completes (Some BreakForm) h k = refl
form-completes (Some ContinueForm) h k = refl
form-completes (Some (TryForm b c m e)) h k = refl
form-completes (Some (ParamForm n)) h k = absurd (true≢false (sym k))
form-completes (Some _) h k = absurd (true≢false (sym h))

task-completes : (d : Data) (home : Side) (t : Task) → IsStatementTask d home t → Holds d home (task_held t)
    → task_gives (forms_at d home) t ≡ ACompletion
task-completes d home (task.Evaluate node at) s h =
    form-completes (slice_get (forms_at d home) node.0) s h.1.1.0.sound
task-completes d home (task.Loop node at) s h = refl
task-completes d home (task.Chain a b) s h = absurd s
task-completes d home (task.Walk a b c) s h = absurd s
task-completes d home (task.Perform a b c e) s h = absurd s
task-completes d home (task.Enter a b c) s h = absurd s
task-completes d home (task.Run a b c e) s h = absurd s
task-completes d home (task.Access a b c) s h = absurd s
task-completes d home (task.Visit a b c e f) s h = absurd s

-- each gives a completion
frame-completes : (d : Data) (home : Side) (y : Frame) (s : Sort) → IsStatementFrame d home y
    → Holds d home (frame_held y) → frame_sort (forms_at d home) y s ≡ ACompletion
frame-completes d home (x.Begin t) s h k = task-completes d home t h k
frame-completes d home (x.Begun t) s h k = absurd h
frame-completes d home (x.Anew t) s h k = task-completes d home t h k
frame-completes d home (x.Expr y) s h k = absurd h
frame-completes d home (x.Stmt y) s h k = refl
frame-completes d home (x.Call y) s h k = absurd h
frame-completes d home (x.Reflect y) s h k = absurd h
frame-completes d home (x.Array y) s h k = absurd h
frame-completes d home (x.Proxy y) s h k = absurd h
frame-completes d home (x.Collect y) s h k = absurd h
frame-completes d home (x.Membrane y) s h k = absurd h
frame-completes d home (x.Entry y) s h k = absurd h

-- ---- what a side of a ready world has

pub has-prototypes : (d : Data) (side : Side) → IsReady d → side.0 < d.sides → HasPrototypes d side
has-prototypes d side r i = record {
  function = rw (r.formed.built_ins side (place_of FunctionPrototype) i (λ e. cc)).found refl;
  object = rw (r.formed.built_ins side (place_of ObjectPrototype) i (λ e. cc)).found refl;
}

-- ---- the frame on top, and what it takes

module _ (d : Data) (m : Machine) (below : List Waiting) (top : Waiting) (done : Option Outcome)
    (h : IsReadyMachine d m) (was : m.stack.items ≡ below ++ (top ∷ [])) (ended : done ≡ m.done)
    (ours : IsStatementFrame d top.home top.frame) where
  pub taken : Holds d top.home (frame_held top.frame ++ done_held done)
  taken = all-both (MayHold d top.home) (frame_held top.frame) (done_held done) (top-holds d m below top h was)
      (rw ended (done-holds d m below top h was (no-crossing d top.home top.frame ours)))

  pub completes-sort : (s : Sort) → sort_by d top s ≡ ACompletion
  completes-sort s = frame-completes d top.home top.frame s ours (top-holds d m below top h was)

-- ---- a step

module _ (m m' : Machine) (d d' : Data) (f f' : ℕ) (l l' : Written) (q : Stepped m m' d d' f f' l l')
    (h : IsReadyMachine d m) (y : Move) (p : q.passage ≡ Here q.top.home y)
    (ours : IsStatementFrame d q.top.home q.top.frame) (k : KeepsBy q.top.home ACompletion (Ok y) d d') where
  wanted : Leaves d' q.top.home (sort_by d q.top h.formed.sort) y
  wanted = subst (λ (s : Sort). Leaves d' q.top.home s y)
      (sym (completes-sort d m q.below q.top m.done h q.was refl ours h.formed.sort)) k.leaves

  pub step-ready : IsReadyMachine d' m'
  step-ready = machine-ready m m' d d' f f' l l' q h y p k.changed wanted

  pub step-kept : StepsKept (Ok tt) m m' d d'
  step-kept = step-keeps m m' d d' f f' l l' q h y p k.changed wanted
