-- A later form of an object, and of the graph.
use Rattle.std.specs.Prelude.{◌≡◌, ℕ, Some, slice_get}
use Rattle.mb_world.specs.Graph.{Graph, Thing}
use Rattle.mb_world.specs.Objects.{is_proxy_kind}
use Rattle.mb_growth.specs.Objects.{EvolvesTo, IsFormed, is_array}

-- the object keeps its owner and label, stays an array or none and a script-made Proxy or none, and evolves
pub record IsLater (t u : Thing) : Type 0 where
  pub owner : t.owner ≡ u.owner
  pub label : t.label ≡ u.label
  pub array : is_array t.kind ≡ is_array u.kind
  pub proxy : is_proxy_kind t.kind ≡ is_proxy_kind u.kind
  pub evolves : EvolvesTo t u

-- it is formed afterwards, too
abbrev pub Moves : Thing → Thing → Type 0
Moves t u = IsFormed u × IsLater t u

abbrev pub AreFormed : Graph → Type 0
AreFormed g = (n : ℕ) (t : Thing) → slice_get g.objects n ≡ Some t → IsFormed t

-- each object of the one graph is there in the other, in a later form
abbrev pub EachEvolves : Graph → Graph → Type 0
EachEvolves g h = (n : ℕ) (t : Thing) → slice_get g.objects n ≡ Some t
    → (u : Thing) × (slice_get h.objects n ≡ Some u) × IsLater t u
