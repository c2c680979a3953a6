-- The names of scopes (ECMA-262, 9.1.1.1).
use Rattle.std.specs.Prelude.{◌≡◌, ◌<◌, ℕ, List, None, Some, length, slice_get}
use Rattle.mb_world.specs.Graph.{Graph, Program, Rule}
use Rattle.mb_model.specs.Engine.{state_of}
use Rattle.mb_model.specs.Task.{Task}
use Rattle.mb_model.specs.Meaning.{Means}
use Rattle.mb_model.specs.Nodes.Scopes.{scope}
use Rattle.mb_model.specs.Nodes.Lasting.{ScopesLast}
use Rattle.mb_model.specs.Story.{Stage, Letter, one_turn, one_letter, global_bindings, first_graph, Story}

-- the first scopes, one for each side, bind the built-in names and `desk`
abbrev pub HasGlobals : ℕ → Graph → Type 0
HasGlobals sides g = (side : ℕ) → side < sides → slice_get g.scopes side ≡ Some (scope side None global_bindings)

-- whatever a task does, and however it ends, spent too
abbrev pub TasksKeepNames : Type 0
TasksKeepNames = (task : Task) (graph : Graph) (fuel : ℕ)
    → ScopesLast graph.scopes (state_of (Means task graph fuel)).scopes

abbrev pub FirstHasGlobals : Type 0
FirstHasGlobals = (programs : List Program) (rules : List Rule) → HasGlobals (length programs) (first_graph programs rules)

abbrev pub TurnsKeepGlobals : Type 0
TurnsKeepGlobals = (sides : ℕ) (stage : Stage) (side : ℕ)
    → HasGlobals sides stage.graph → HasGlobals sides (one_turn stage side).graph

abbrev pub LettersKeepGlobals : Type 0
LettersKeepGlobals = (sides : ℕ) (stage : Stage) (letter : Letter)
    → HasGlobals sides stage.graph → HasGlobals sides (one_letter stage letter).graph

abbrev pub RunsHaveGlobals : Type 0
RunsHaveGlobals = (programs : List Program) (rules : List Rule) (word : List Letter) (fuel : ℕ)
    → HasGlobals (length programs) (Story programs rules word fuel).graph
