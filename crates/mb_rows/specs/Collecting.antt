use Rattle.std.specs.Prelude.{ℕ, List, [], ◌∷◌, ◌++◌, Some, map, true}
use Rattle.mb_world.specs.Graph.{Binding, Graph, Program, Rule, Scope}
use Rattle.mb_world.specs.Intrinsics.{Intrinsic, Map, Set, WeakMap, name_of}
use Rattle.mb_world.specs.Standard.{built_in}
use Rattle.mb_model.specs.Nodes.Scopes.{binding}
use Rattle.mb_model.specs.Story.{Stage, Letter, first_stage, go_round, letters}

-- runs whose scripts find Map, Set and WeakMap bound besides, as all will when these have their steps

abbrev pub collections : List Intrinsic
collections = Map ∷ Set ∷ WeakMap ∷ []

abbrev pub collection_bindings : List Binding
collection_bindings = map (λ i. binding (name_of i) (Some (built_in i)) true) collections

abbrev pub binding_collections : Scope → Scope
binding_collections s = record s { bindings = s.bindings ++ collection_bindings }

abbrev pub with_collections : Graph → Graph
with_collections g = record g { scopes = map binding_collections g.scopes }

-- a run as a story's, from such a first graph
abbrev pub StoryWithCollections : List Program → List Rule → List Letter → ℕ → Stage
StoryWithCollections ps rules word f =
    go_round (letters word (record (first_stage ps rules f) { graph = with_collections (first_stage ps rules f).graph }))
