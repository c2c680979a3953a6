-- How objects of the graph change: what is proved of each single change, and of many.
use Rattle.std.specs.Prelude.{◌≡◌, ℕ, List, Bool, true, Some, slice_get}
use Rattle.mb_desc.specs.declared.descriptor.Desc.{Desc}
use Rattle.mb_desc.specs.Descriptors.{IsOfOneKind}
use Rattle.mb_view.specs.Views.{property_of, Evolves}
use Rattle.mb_view.specs.Shown.{shown}
use Rattle.mb_world.specs.Value.{Val}
use Rattle.mb_world.specs.Key.{PropertyKey, same_key}
use Rattle.mb_world.specs.Graph.{Graph, Thing, Program, Rule}
use Rattle.mb_world.specs.Objects.{thing_at, with_thing}
use Rattle.mb_world.specs.Ordinary.{Becomes, closed, with_prototype, Without, deleted}
use Rattle.mb_world.specs.Arrays.{defined, element_stored}
use Rattle.mb_world.specs.View.{shown_property, Remove, Free, Admits}
use Rattle.mb_model.specs.Engine.{state_of}
use Rattle.mb_model.specs.Task.{Task}
use Rattle.mb_model.specs.Fitting.{Fits}
use Rattle.mb_model.specs.Writing.{with_object}
use Rattle.mb_model.specs.Meaning.{Means}
use Rattle.mb_model.specs.Story.{Stage, Letter, one_turn, one_letter, first_graph, Story}
use Rattle.mb_growth.specs.Objects.{as_view, sort_of, IsFormed, is_array, rule_of}
use Rattle.mb_growth.specs.Later.{IsLater, Moves, AreFormed, EachEvolves}

-- [[DefineOwnProperty]], of arrays too (ECMA-262 10.1.6, 10.4.2.1)
abbrev pub DefinitionsMove : Type 0
DefinitionsMove =
    (t u : Thing) (k : PropertyKey) (d : Desc Val) (answer : Bool) → IsFormed t → IsOfOneKind d
    → defined t k d ≡ Becomes u answer → Moves t u

-- an element that a row puts in an array of its own (ECMA-262 7.3.5)
abbrev pub ElementsMove : Type 0
ElementsMove =
    (t u : Thing) (n : ℕ) (v : Val) (answer : Bool) → IsFormed t → is_array t.kind ≡ true
    → element_stored t n v ≡ Becomes u answer → Moves t u

-- [[Delete]] by a side that sees the object under a policy which leaves it free (ECMA-262 10.1.10)
abbrev pub DeletionsMove : Type 0
DeletionsMove =
    (g : Graph) (v : ℕ) (t u : Thing) (k : PropertyKey) → IsFormed t → Admits g v t (Remove k) ≡ Free
    → deleted t k (shown_property g v t k) ≡ Without u → Moves t u

-- [[SetPrototypeOf]] of an extensible object, [[PreventExtensions]] (ECMA-262 10.1.2, 10.1.4)
abbrev pub PrototypesMove : Type 0
PrototypesMove = (t : Thing) (p : Val) → IsFormed t → t.extensible ≡ true → Moves t (with_prototype p t)

abbrev pub ClosingMoves : Type 0
ClosingMoves = (t : Thing) → IsFormed t → Moves t (closed t)

-- ---- graphs

abbrev pub StaysLater : Type 0
StaysLater = (g : Graph) → EachEvolves g g

abbrev pub GoesOnLater : Type 0
GoesOnLater = (f g h : Graph) → EachEvolves f g → EachEvolves g h → EachEvolves f h

-- one object moves, and the others stay
abbrev pub OneMoves : Type 0
OneMoves =
    (g : Graph) (o : Val) (t u : Thing) → AreFormed g → thing_at g o ≡ Some t → Moves t u
    → AreFormed (with_thing o u g) × EachEvolves g (with_thing o u g)

-- an object is made
abbrev pub OneIsMade : Type 0
OneIsMade = (g : Graph) (t : Thing) → AreFormed g → IsFormed t → AreFormed (with_object t g)
    × EachEvolves g (with_object t g)

-- ---- what a side sees

-- the property that a side sees is that of the view which its rules show
abbrev pub SeesByRules : Type 0
SeesByRules = (g : Graph) (v : ℕ) (t : Thing) (k : PropertyKey)
    → shown_property g v t k ≡ property_of same_key (shown (rule_of g v t) (as_view t)) k

-- under the same rules each side's view of a later object is one to which its view may evolve
abbrev pub EachSideSees : Type 0
EachSideSees = (g h : Graph) (v : ℕ) (t u : Thing) → h.rules ≡ g.rules → IsLater t u
    → Evolves same_key sort_of (shown (rule_of g v t) (as_view t)) (shown (rule_of h v u) (as_view u))

-- ---- along the meaning

-- whatever a task does, and however it ends, spent too
abbrev pub TasksEvolve : Type 0
TasksEvolve = (task : Task) (graph : Graph) (fuel : ℕ) → Fits task graph → AreFormed graph
    → AreFormed (state_of (Means task graph fuel)) × EachEvolves graph (state_of (Means task graph fuel))

-- what each side sees of an object evolves with it along a task
abbrev pub SidesSeeTasksEvolve : Type 0
SidesSeeTasksEvolve = (task : Task) (graph : Graph) (fuel : ℕ) → Fits task graph → AreFormed graph
    → (v n : ℕ) (t : Thing) → slice_get graph.objects n ≡ Some t
    → (u : Thing) × (slice_get (state_of (Means task graph fuel)).objects n ≡ Some u)
    × Evolves same_key sort_of (shown (rule_of graph v t) (as_view t))
    (shown (rule_of (state_of (Means task graph fuel)) v u) (as_view u))

-- ---- along a whole run

abbrev pub FirstIsFormed : Type 0
FirstIsFormed = (programs : List Program) (rules : List Rule) → AreFormed (first_graph programs rules)

-- a side's turn, and a letter of the word
abbrev pub TurnsEvolve : Type 0
TurnsEvolve = (stage : Stage) (side : ℕ) → AreFormed stage.graph → AreFormed (one_turn stage side).graph
    × EachEvolves stage.graph (one_turn stage side).graph

abbrev pub LettersEvolve : Type 0
LettersEvolve = (stage : Stage) (letter : Letter) → AreFormed stage.graph → AreFormed (one_letter stage letter).graph
    × EachEvolves stage.graph (one_letter stage letter).graph

abbrev pub RunsEvolve : Type 0
RunsEvolve = (programs : List Program) (rules : List Rule) (word : List Letter) (fuel : ℕ)
    → AreFormed (Story programs rules word fuel).graph
    × EachEvolves (first_graph programs rules) (Story programs rules word fuel).graph
