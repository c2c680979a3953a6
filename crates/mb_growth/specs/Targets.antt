-- The targets of script-made Proxies (ECMA-262, 10.5.14).
use Rattle.std.specs.Prelude.{◌≡◌, ℕ, List, false, Some, slice_get}
use Rattle.mb_world.specs.declared.cell.Shape.{Shape}
use Rattle.mb_world.specs.Value.{Val}
use Rattle.mb_world.specs.Graph.{Graph, Thing, Proxy, Program, Rule}
use Rattle.mb_world.specs.Objects.{thing_at, is_proxy_kind}
use Rattle.mb_model.specs.Engine.{state_of}
use Rattle.mb_model.specs.Task.{Task}
use Rattle.mb_model.specs.Meaning.{Means}
use Rattle.mb_model.specs.Story.{Stage, Letter, one_turn, one_letter, first_graph, Story}

-- the target of a Proxy is there, and is no script-made Proxy
abbrev pub HasTargets : Graph → Type 0
HasTargets g = (n : ℕ) (t : Thing) (target handler : Val) (shape : Shape) → slice_get g.objects n ≡ Some t
    → t.kind ≡ Proxy target handler shape
    → (u : Thing) × (thing_at g target ≡ Some u) × (is_proxy_kind u.kind ≡ false)

-- no object that was there gets a target, and none gets another
abbrev pub KeepTargets : Graph → Graph → Type 0
KeepTargets g h = (n : ℕ) (t u : Thing) (target handler : Val) (shape : Shape) → slice_get g.objects n ≡ Some t
    → slice_get h.objects n ≡ Some u → u.kind ≡ Proxy target handler shape → t.kind ≡ Proxy target handler shape

-- ---- along the meaning, and along a whole run

-- whatever a task does, and however it ends, spent too
abbrev pub TasksKeepTargets : Type 0
TasksKeepTargets = (task : Task) (graph : Graph) (fuel : ℕ) → HasTargets graph
    → HasTargets (state_of (Means task graph fuel)) × KeepTargets graph (state_of (Means task graph fuel))

abbrev pub FirstHasTargets : Type 0
FirstHasTargets = (programs : List Program) (rules : List Rule) → HasTargets (first_graph programs rules)

abbrev pub TurnsKeepTargets : Type 0
TurnsKeepTargets = (stage : Stage) (side : ℕ) → HasTargets stage.graph → HasTargets (one_turn stage side).graph

abbrev pub LettersKeepTargets : Type 0
LettersKeepTargets = (stage : Stage) (letter : Letter) → HasTargets stage.graph
    → HasTargets (one_letter stage letter).graph

abbrev pub RunsHaveTargets : Type 0
RunsHaveTargets = (programs : List Program) (rules : List Rule) (word : List Letter) (fuel : ℕ)
    → HasTargets (Story programs rules word fuel).graph
