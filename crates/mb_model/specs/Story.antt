use Rattle.std.specs.Prelude.{ℕ, zero, suc, ◌+◌, ◌-◌, ◌*◌, ◌%◌, List, [], ◌∷◌, ◌++◌, length, map, Bool, true, false, ◌&&◌, ◌||◌, Option, Some, None, slice_get, slice_set, codes}
use Rattle.mb_world.specs.declared.cell.ErrorKind.{ErrorKind}
use Rattle.mb_world.specs.declared.cell.ErrorKind.TheVariants.{Error, TypeError, RangeError, ReferenceError}
use Rattle.mb_model.specs.Engine.{Gives, Spent}
use Rattle.mb_world.specs.Value.{Val, Undefined, Symbol, Object, to_text}
use Rattle.mb_model.specs.Task.{Call, Evaluate, Perform, Normal, Throw, Return, Break, Continue}
use Rattle.mb_world.specs.Graph.{Kind, Plain, Fault, Thing, Binding, Scope, Job, Script, Call as CallJob, Program, Rule, Uncaught, Graph}
use Rattle.mb_world.specs.Standard.{object_prototype, global_names}
use Rattle.mb_world.specs.Objects.{thing_at, new_thing}
use Rattle.mb_world.specs.Symbols.{symbol_text}
use Rattle.mb_model.specs.Nodes.Scopes.{scope, binding}
use Rattle.mb_model.specs.Trace.Entries.{entries}
use Rattle.mb_model.specs.Meaning.{row, Ends, Means}
use Rattle.mb_model.specs.Engine as engine

-- a whole run: the first graph, turns, and the schedule

-- ---- the graph before the first turn

-- `desk`, the object with the number 0, which the first side owns
abbrev pub desk : Thing
desk = new_thing 0 (Some (codes "desk")) Plain object_prototype

abbrev pub global_bindings : List Binding
global_bindings =
    map (λ p. binding p.0 (Some p.1) true) (global_names ++ ((codes "desk", Object 0) ∷ []))

abbrev pub global_scopes : ℕ → List Program → List Scope
global_scopes s [] = []
global_scopes s (p ∷ ps) = scope s None global_bindings ∷ global_scopes (s + 1) ps

-- a side's script is its first job; the scope of the built-in names has the side's number
abbrev pub first_graph : List Program → List Rule → Graph
first_graph ps rules = record {
  objects = desk ∷ [];
  symbols = [];
  scopes = global_scopes 0 ps;
  queues = map (λ p. Script ∷ []) ps;
  programs = ps;
  rules = rules;
  revoked = false;
  log = [];
}

-- ---- one turn (ECMA-262 9.5)

abbrev pub kind_name : ErrorKind → List ℕ
kind_name Error = codes "Error"
kind_name TypeError = codes "TypeError"
kind_name RangeError = codes "RangeError"
kind_name ReferenceError = codes "ReferenceError"

abbrev pub kind_text : Kind → List ℕ
kind_text (Fault k) = kind_name k
kind_text _ = codes "object"

abbrev pub thing_text : Option Thing → List ℕ
thing_text None = []
thing_text (Some t) = kind_text t.kind

abbrev pub thrown_by : Option (List ℕ) → Option Thing → List ℕ
thrown_by (Some t) o = codes "value " ++ t
thrown_by None o = thing_text o

-- what the line of an uncaught throw says: an error's kind, `object`, or a primitive's text, a symbol's too
abbrev pub thrown_text : Graph → Val → List ℕ
thrown_text g (Symbol n) = codes "value " ++ symbol_text g n
thrown_text g v = thrown_by (to_text v) (thing_at g v)

-- how a turn ended: no job was there, or one ended, threw, or couldn't be paid
pub data TurnEnd : Type 0 where
  Idle : TurnEnd
  Ended : Graph → ℕ → TurnEnd
  Threw : Graph → ℕ → TurnEnd
  Unpaid : Graph → ℕ → TurnEnd

abbrev pub last_form : Option Program → ℕ
last_form None = 0
last_form (Some p) = length p.forms - 1

-- a script's node costs nothing, so its row begins paid
abbrev pub job_ends : ℕ → Job → Graph → ℕ → Ends
job_ends s Script g f = engine.given row (Evaluate s (last_form (slice_get g.programs s)) s Undefined) g f
job_ends s (CallJob v) g f = Means (Perform s (Call Undefined []) v s true) g f

abbrev pub with_uncaught : ℕ → Val → Graph → Graph
with_uncaught s v g = record g { log = g.log ++ (Uncaught s (thrown_text g v) ∷ []) }

-- an uncaught throw adds its line and ends its turn alone
abbrev pub turn_ended : ℕ → Ends → TurnEnd
turn_ended s (Gives (Normal a) g f) = Ended g f
turn_ended s (Gives (Throw v) g f) = Threw (with_uncaught s v g) f
turn_ended s (Gives (Return v) g f) = Ended g f
turn_ended s (Gives Break g f) = Ended g f
turn_ended s (Gives Continue g f) = Ended g f
turn_ended s (Spent g f) = Unpaid g f

abbrev pub take_turn : Graph → ℕ → ℕ → Option (List Job) → TurnEnd
take_turn g s f None = Idle
take_turn g s f (Some []) = Idle
take_turn g s f (Some (j ∷ js)) = turn_ended s (job_ends s j (record g { queues = slice_set g.queues s js }) f)

-- the first job of a side's queue
abbrev pub TurnOf : Graph → ℕ → ℕ → TurnEnd
TurnOf g s f = take_turn g s f (slice_get g.queues s)

-- ---- the story

pub data Ending : Type 0 where
  Done : Ending
  WithThrow : Ending
  OutOfFuel : Ending

-- after each turn that took a job: the side, the number of entries, the next object's number, the units left
pub record Ran : Type 0 where
  pub side : ℕ
  pub entries : ℕ
  pub objects : ℕ
  pub left : ℕ

-- where a story is
pub record Stage : Type 0 where
  pub graph : Graph
  pub left : ℕ
  pub ending : Ending
  pub ran : List Ran

abbrev pub ran_of : ℕ → Graph → ℕ → Ran
ran_of s g f = record { side = s; entries = length (entries g.log); objects = length g.objects; left = f }

abbrev pub ran_to : Stage → ℕ → Graph → ℕ → Ending → Stage
ran_to t s g f ending = record { graph = g; left = f; ending = ending; ran = t.ran ++ (ran_of s g f ∷ []) }

abbrev pub after : Stage → ℕ → TurnEnd → Stage
after t s Idle = t
after t s (Ended g f) = ran_to t s g f t.ending
after t s (Threw g f) = ran_to t s g f WithThrow
after t s (Unpaid g f) = ran_to t s g f OutOfFuel

abbrev pub one_turn : Stage → ℕ → Stage
one_turn t s = after t s (TurnOf t.graph s t.left)

-- a letter of the schedule: a side's turn, or the membrane's revocation
pub data Letter : Type 0 where
  Side : ℕ → Letter
  Cut : Letter

abbrev pub one_letter : Stage → Letter → Stage
one_letter t (Side s) = one_turn t s
one_letter t Cut = record t { graph = record (t.graph) { revoked = true } }

abbrev pub is_spent : Ending → Bool
is_spent Done = false
is_spent WithThrow = false
is_spent OutOfFuel = true

abbrev pub letters : List Letter → Stage → Stage
letters [] t = t
letters (x ∷ xs) t = elim (is_spent t.ending) [ true ↦ t | false ↦ letters xs (one_letter t x) ]

abbrev pub is_empty : List Job → Bool
is_empty [] = true
is_empty (j ∷ js) = false

abbrev pub all_empty : List (List Job) → Bool
all_empty [] = true
all_empty (q ∷ qs) = is_empty q && all_empty qs

abbrev pub is_over : Stage → Bool
is_over t = is_spent t.ending || all_empty t.graph.queues

-- turns go round from side s on until the queues are empty, at most so many
abbrev pub rounds : ℕ → ℕ → Stage → Stage
rounds zero s t = t
rounds (suc n) s t = elim (is_over t) [ true ↦ t | false ↦ rounds n ((s + 1) % length (t.graph.queues)) (one_turn t s) ]

abbrev pub first_stage : List Program → List Rule → ℕ → Stage
first_stage ps rules f = record { graph = first_graph ps rules; left = f; ending = Done; ran = [] }

-- a count of rounds that is enough: each turn that takes a job takes a unit or a side's script, and no more turns than
-- there are sides pass between two of them
abbrev pub enough : Stage → ℕ
enough t = length (t.graph.queues) * (t.left + length (t.graph.queues) + 1)

abbrev pub go_round : Stage → Stage
go_round t = rounds (enough t) 0 t

-- the whole run
abbrev pub Story : List Program → List Rule → List Letter → ℕ → Stage
Story ps rules word f = go_round (letters word (first_stage ps rules f))
