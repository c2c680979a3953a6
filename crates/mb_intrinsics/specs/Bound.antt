-- The first scope of a side: the names of built-ins, and `desk`.
use Rattle.std.specs.Prelude.{List, None, Option, Some, [], codes, map, option_map, true, ℕ, ◌∷◌, ◌++◌}
use Rattle.mb_base.specs.declared.value.Side.{Side}
use Rattle.mb_base.specs.declared.value.StrId.{StrId}
use Rattle.mb_base.specs.declared.value.Value.{Value}
use Rattle.mb_base.specs.declared.value.Value.TheVariants as v
use Rattle.mb_intrinsics.specs.Furnished.{id_of}
use Rattle.mb_model.specs.Nodes.Scopes.{binding, scope}
use Rattle.mb_text.specs.Texts.{with_text}
use Rattle.mb_world.specs.Data.{Data, built_in_of, with_scope, with_texts}
use Rattle.mb_world.specs.Graph.{Binding, Graph}
use Rattle.mb_world.specs.Intrinsics.{Intrinsic, name_of, place_of}
use Rattle.mb_world.specs.Standard.{bound_intrinsics, global_names}
use Rattle.mb_world.specs.Value.{Val}
use Rattle.mb_world.specs.declared.scope.Bound.{Bound}
use Rattle.mb_world.specs.declared.scope.Scope.{Scope}

-- ---- over a world

-- a name that can't be assigned to
abbrev pub bound_to : StrId → Option Value → Bound
bound_to name value = record { name = name; value = value; fixed = true }

-- a built-in's name has the side's own as its value
abbrev pub bound_built_in : Data → Side → Intrinsic → Bound
bound_built_in d side i =
    bound_to (id_of d.texts (name_of i)) (option_map v.Object (built_in_of d.joined d.cells side (place_of i)))

abbrev pub first_names : Data → Side → Value → List Bound
first_names d side desk =
    map (bound_built_in d side) bound_intrinsics ++ bound_to (id_of d.texts (codes "desk")) (Some desk) ∷ []

abbrev pub first_scope : Data → Side → Value → Scope
first_scope d side desk = record { home = side; parent = None; names = first_names d side desk }

-- texts that are taken one after the other
abbrev pub with_all : List (List ℕ) → List (List ℕ) → List (List ℕ)
with_all texts [] = texts
with_all texts (t ∷ ts) = with_all (with_text texts t) ts

-- the names are among the texts
abbrev pub with_bound_texts : Data → Data
with_bound_texts d = with_texts d (with_all d.texts (map name_of bound_intrinsics ++ codes "desk" ∷ []))

-- and the scope is made
abbrev pub with_first_scope : Data → Side → Value → Data
with_first_scope d side desk = with_scope (with_bound_texts d) (first_scope (with_bound_texts d) side desk)

-- ---- over the graph

-- what the names stand for, where `desk` stands for this
abbrev pub bindings_with : Val → List Binding
bindings_with desk = map (λ p. binding p.0 (Some p.1) true) (global_names ++ (codes "desk", desk) ∷ [])

-- one scope more, of that side
abbrev pub with_bindings : ℕ → Val → Graph → Graph
with_bindings side desk g = record g { scopes = g.scopes ++ scope side None (bindings_with desk) ∷ [] }
