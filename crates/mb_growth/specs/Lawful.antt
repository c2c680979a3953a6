-- The trace of a run is lawful (ECMA-262, 6.1.7.3).
use Rattle.std.specs.Prelude.{◌≡◌, ◌≤◌, ℕ, List, Some, slice_get, map}
use Rattle.std.specs.List.{AllByRecursion}
use Rattle.mb_desc.specs.View.{View}
use Rattle.mb_view.specs.Promises.{Holds}
use Rattle.mb_view.specs.Entries.{Told}
use Rattle.mb_world.specs.Value.{Val, Object}
use Rattle.mb_world.specs.Key.{PropertyKey, same_key}
use Rattle.mb_world.specs.Graph.{Graph, Thing, Entry, Program, Rule}
use Rattle.mb_world.specs.View.{ViewOf}
use Rattle.mb_model.specs.Engine.{state_of}
use Rattle.mb_model.specs.Task.{Task}
use Rattle.mb_model.specs.Fitting.{Fits, SeesItself}
use Rattle.mb_model.specs.Meaning.{Means}
use Rattle.mb_model.specs.Trace.Entries.{entries}
use Rattle.mb_model.specs.Trace.Lawful.{deed_of, Lawful}
use Rattle.mb_model.specs.Story.{Stage, Letter, one_turn, one_letter, first_graph, Story}
use Rattle.mb_growth.specs.Later.{AreFormed}
use Rattle.mb_growth.specs.Targets.{HasTargets}
use Rattle.mb_growth.specs.Performed.{ArePerformed}

-- an entry began when no more entries were complete than stand before it, and its object is there
abbrev pub ArePlaced : Graph → Type 0
ArePlaced g = (place : ℕ) (e : Entry) → slice_get (entries g.log) place ≡ Some e
    → (e.began ≤ place) × ((t : Thing) × (slice_get g.objects e.object ≡ Some t))

-- what the entries of a side on an object tell holds of what the side sees of it
abbrev pub PromisesHold : Graph → Type 0
PromisesHold g = (s n : ℕ) (view : View PropertyKey Val) → ViewOf g s (Object n) ≡ Some view
    → AllByRecursion (λ fact. Holds same_key fact view) (Told (map deed_of (entries g.log)) s n)

-- each entry's answer passed, the trace is lawful, and its promises hold
pub record KeepsPromises (g : Graph) : Type 0 where
  pub formed : AreFormed g
  pub targets : HasTargets g
  pub placed : ArePlaced g
  pub performed : ArePerformed g
  pub promises : PromisesHold g
  pub lawful : Lawful (entries g.log)

-- ---- along the meaning, and along a whole run

-- whatever a task does, and however it ends, spent too
abbrev pub TasksKeepPromises : Type 0
TasksKeepPromises = (task : Task) (graph : Graph) (fuel : ℕ) → Fits task graph → SeesItself task → KeepsPromises graph
    → KeepsPromises (state_of (Means task graph fuel))

abbrev pub FirstKeepsPromises : Type 0
FirstKeepsPromises = (programs : List Program) (rules : List Rule) → KeepsPromises (first_graph programs rules)

abbrev pub TurnsKeepPromises : Type 0
TurnsKeepPromises = (stage : Stage) (side : ℕ) → KeepsPromises stage.graph → KeepsPromises (one_turn stage side).graph

abbrev pub LettersKeepPromises : Type 0
LettersKeepPromises = (stage : Stage) (letter : Letter) → KeepsPromises stage.graph
    → KeepsPromises (one_letter stage letter).graph

abbrev pub RunsKeepPromises : Type 0
RunsKeepPromises = (programs : List Program) (rules : List Rule) (word : List Letter) (fuel : ℕ)
    → KeepsPromises (Story programs rules word fuel).graph

-- what each entry of a run answers passed at its moment
abbrev pub RunsPass : Type 0
RunsPass = (programs : List Program) (rules : List Rule) (word : List Letter) (fuel : ℕ)
    → ArePerformed (Story programs rules word fuel).graph

-- no entry of a run contradicts what was told before it began
abbrev pub RunsAreLawful : Type 0
RunsAreLawful = (programs : List Program) (rules : List Rule) (word : List Letter) (fuel : ℕ)
    → Lawful (entries (Story programs rules word fuel).graph.log)
