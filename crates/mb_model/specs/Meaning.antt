use Rattle.std.specs.Prelude.{◌≡◌, ℕ, length, Bool, true, false, not, Option, Some, None}
use Rattle.mb_model.specs.Engine.{Res, Ret}
use Rattle.mb_world.specs.Value.{Val}
use Rattle.mb_model.specs.Task.{Method, Task, Evaluate, Loop, Chain, Walk, Perform, Enter, Run, Access, Visit, Answer, Outcome, Normal}
use Rattle.mb_world.specs.Graph.{Kind, Proxy, Gone, Thing, Graph}
use Rattle.mb_world.specs.Objects.{thing_at}
use Rattle.mb_world.specs.View.{is_cut, owner_or}
use Rattle.mb_model.specs.Writing.{Row, Does, ◌>>=◌, look, type_error, unless_type_error}
use Rattle.mb_model.specs.Objects.Methods.{method, walk_row}
use Rattle.mb_model.specs.Objects.Proxies.{proxy_method}
use Rattle.mb_model.specs.Nodes.Functions.{enter_row}
use Rattle.mb_model.specs.Nodes.Statements.{loop_row}
use Rattle.mb_model.specs.Nodes.BinaryOperators.{chain_row}
use Rattle.mb_model.specs.Nodes.{node_row}
use Rattle.mb_model.specs.BuiltIns.Collections.{access_row, visit_row}
use Rattle.mb_model.specs.BuiltIns.{run_row}
use Rattle.mb_model.specs.Trace.Entries.{entries, makes_entry, is_foreign_at, method_noted, access_noted}
use Rattle.mb_model.specs.Engine as engine

-- the row of each task, and what a task gives

abbrev pub perform_kind : ℕ → ℕ → Val → Thing → Method → Kind → Does Answer
perform_kind s v o t m (Proxy target handler shape) = proxy_method s (owner_or s t.owner) target handler m
perform_kind s v o t m (Gone shape) = type_error (owner_or s t.owner)
perform_kind s v o t m _ = method s v o t m

-- an object that is cut off for the viewing side answers with TypeError
abbrev pub perform_thing : ℕ → ℕ → Val → Method → Option Thing → Does Answer
perform_thing s v o m None = type_error s
perform_thing s v o m (Some t) = do
  cut ← look (λ g. is_cut g v t)
  _ ← unless_type_error s (not cut)
  perform_kind s v o t m t.kind

abbrev pub perform_row : ℕ → ℕ → Val → Method → Does Answer
perform_row s v o m = do
  t ← look (λ g. thing_at g o)
  perform_thing s v o m t

abbrev pub finished : Answer → Graph → Row
finished a g = Ret (Normal a) g

-- an entry is made in one place, where the row ends, however it ends; a spent row has no end. Whether one is made is
-- decided where the row begins
abbrev pub entering : Bool → (Outcome → Graph → Graph) → Row → Row
entering true noted p = engine.ending noted p
entering false noted p = p

-- the number of entries so far
abbrev pub entries_made : Graph → ℕ
entries_made g = length (entries g.log)

-- the row of each task
abbrev pub row : Task → Graph → Row
row (Evaluate s n sc this) = node_row (record { side = s; scope = sc; this = this }) n finished
row (Loop s n sc this) = loop_row (record { side = s; scope = sc; this = this }) n finished
row (Chain s x p) = chain_row s x p finished
row (Walk o p x) = walk_row o p x finished
row (Perform s m o v enters) = λ g. entering (makes_entry enters s o g) (method_noted (entries_made g) s o m)
    (perform_row s v o m finished g)
row (Enter f this vs) = enter_row f this vs finished
row (Run s p this vs target) = run_row s p this vs target finished
row (Access s p c a) = λ g. entering (is_foreign_at s (thing_at g c)) (access_noted (entries_made g) s p c a)
    (access_row s c a finished g)
row (Visit s p c f this n) = visit_row s p c f this n finished

abbrev pub Ends : Type 0
Ends = Res Outcome Graph

-- the big-step meaning: how a task ends, in which graph, with how much fuel left, or that its fuel is spent
abbrev pub Means : Task → Graph → ℕ → Ends
Means = engine.means row

abbrev pub goes : Row → ℕ → Ends
goes = engine.goes (engine.meaning row)

-- what a run is given stays: its scripts, its rules, whether the membrane is revoked, how many queues there are
abbrev pub KeepsGiven : Graph → Graph → Type 0
KeepsGiven g h =
    (h.programs ≡ g.programs) × (h.rules ≡ g.rules) × (h.revoked ≡ g.revoked) × (length h.queues ≡ length g.queues)
