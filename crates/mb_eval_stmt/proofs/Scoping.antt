-- Scopes that are entered and copied, in a world and in its image.
use Rattle.std.proofs.Common.{◌+◌, ◌++◌, ◌<◌, ◌≡◌, ◌∙◌, ◌∷◌, List, Ok, Err, Some, [], ap, length, map, option_map, refl, slice_get, sym, take, ℕ}
use Rattle.std.proofs.lemmas.List.{length-map, take_more}
use Rattle.std.proofs.lemmas.Option.{get_or_from_slice_get, slice_get-map, slice_get_within}
use Rattle.mb_base.specs.declared.value.NodeId.{NodeId}
use Rattle.mb_base.specs.declared.value.ScopeId.{ScopeId}
use Rattle.mb_base.specs.declared.value.Side.{Side}
use Rattle.mb_frames.specs.Going.{Charged, Enters, paying}
use Rattle.mb_frames.specs.declared.machine.Halt.TheVariants.{NoMemory, Spent as SpentHalt}
use Rattle.mb_frames.specs.declared.machine.Halt.{Halt}
use Rattle.mb_model.specs.Nodes.Scopes.{add_scope, copy_of, copy_scope, enter_names, enter_scope}
use Rattle.mb_model.specs.Writing.{Row, pay_each}
use Rattle.mb_parts.proofs.Entered.{added-row, each-paid, names-are}
use Rattle.mb_parts.specs.Scopes.{bound_by}
use Rattle.mb_world.proofs.AfterCalls.{of-scope}
use Rattle.mb_world.specs.Data.{Data, program_of, scope_at, with_scope}
use Rattle.mb_world.specs.Graph as graph
use Rattle.mb_world.specs.Graph.{Graph, Item, ScopeName}
use Rattle.mb_world.specs.Image.{Image, binding_in, name_in, names_of, scope_in}
use Rattle.mb_world.specs.declared.scope.Bound.{Bound}
use Rattle.mb_world.specs.declared.scope.Scope.{Scope}

-- the part of a row that enters a node's scope
pub enters-names : (d : Data) (home : Side) (parent : ScopeId) (node : NodeId) → home.0 < d.sides
    → (k : ℕ → Graph → Row) (log : List Item) → enter_scope home.0 parent.0 node.0 k (Image d log)
    ≡ enter_names home.0 parent.0 (map (name_in d.texts) (bound_by (program_of d home) node)) k (Image d log)
enters-names d home parent node h k log =
    ap (λ (ys : List ScopeName). enter_names home.0 parent.0 ys k (Image d log)) (names-are d home node log h)

-- ---- a copy

copied : (d : Data) (id : ScopeId) (s : Scope) (log : List Item) → scope_at d id ≡ Some s
    → copy_of (slice_get (Image d log).scopes id.0) ≡ scope_in (names_of d) s
copied d id s log e =
    ap copy_of (slice_get-map (scope_in (names_of d)) d.scopes id.0 ∙ ap (option_map (scope_in (names_of d))) e)

copied-row : (d : Data) (id : ScopeId) (s : Scope) (k : ℕ → Graph → Row) (log : List Item) → scope_at d id ≡ Some s
    → copy_scope id.0 k (Image d log)
    ≡ paying (length s.names) (Image d log) (k (length d.scopes) (Image (with_scope d s) log))
copied-row d id s k log e =
    let S : graph.Scope = scope_in (names_of d) s in
    ap (λ (x : graph.Scope). pay_each x.bindings (λ a. add_scope x k) (Image d log)) (copied d id s log e)
    ∙ each-paid S.bindings (λ a. add_scope S k) (Image d log)
    ∙ ap (λ n. paying n (Image d log) (add_scope S k (Image d log))) (length-map s.names (binding_in (names_of d)))
    ∙ ap (paying (length s.names) (Image d log)) (added-row d s S k log refl)

pub copy-went : (d d' : Data) (id new : ScopeId) (s : Scope) (f f' : ℕ) → scope_at d id ≡ Some s
    → f ≡ f' + length s.names → d' ≡ with_scope d s → new.0 ≡ length d.scopes
    → Enters (Ok new) d d' f f' (copy_scope id.0)
copy-went d d' id new s f f' e u m i = rw m (record {
  units = length s.names;
  paid = u;
  same = λ k log.
      copied-row d id s k log e
      ∙ ap (λ n. paying (length s.names) (Image d log) (k n (Image (with_scope d s) log))) (sym i);
  trace = refl;
  grew = record { grows = (of-scope d s).grows; programs = refl; sides = refl; joined = refl };
})

pub copy-short : (d : Data) (id : ScopeId) (s : Scope) (f f' : ℕ) → scope_at d id ≡ Some s
    → (f < length s.names) × (f' ≡ 0) → Enters (Err SpentHalt) d d f f' (copy_scope id.0)
copy-short d id s f f' e u = record {
  units = length s.names;
  above = u.0;
  none = u.1;
  same = λ k log. (_, copied-row d id s k log e);
  world = refl;
}

pub copy-halted : (halt : Halt) (d : Data) (id : ScopeId) (s : Scope) (f f' : ℕ) → scope_at d id ≡ Some s
    → Charged {A = List Bound} (Err halt) f f' (length s.names) → Enters (Err halt) d d f f' (copy_scope id.0)
copy-halted SpentHalt d id s f f' e u = copy-short d id s f f' e u
copy-halted NoMemory d id s f f' e u = tt

-- a step of the loop that copies the names
pub copied-more : (old names new : List Bound) (i : ℕ) (b : Bound) → names ≡ take i old → slice_get old i ≡ Some b
    → new ≡ names ++ (b ∷ []) → new ≡ take (i + 1) old
copied-more old names new i b n e p =
    p ∙ ap (λ (ns : List Bound). ns ++ (b ∷ [])) n
    ∙ ap (λ (y : Bound). take i old ++ (y ∷ [])) (sym (get_or_from_slice_get old i b b e))
    ∙ sym (take_more old i b (slice_get_within old i b e))
