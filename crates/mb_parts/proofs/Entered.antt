-- Scopes that are entered, in a world and in its image: a unit for each name.
use Rattle.std.proofs.Common.{◌+◌, ◌++◌, ◌<◌, ◌≡◌, ◌∙◌, ◌∷◌, Bool, List, None, Ok, Err, Option, Some, [], ap, arith}
use Rattle.std.proofs.Common.{false, length, map, nat_eq, refl, slice_get, slice_index_or, subst, suc, sym, take, true}
use Rattle.std.proofs.Common.{zero, ℕ}
use Rattle.std.proofs.lemmas.List.Elements.{All-filter, All-map, All-nil, All-weaker}
use Rattle.std.proofs.lemmas.List.{length-map}
use Rattle.std.specs.Prelude.{All}
use Rattle.mb_base.specs.declared.value.NodeId.{NodeId}
use Rattle.mb_base.specs.declared.value.ScopeId.{ScopeId}
use Rattle.mb_base.specs.declared.value.Side.{Side}
use Rattle.mb_frames.proofs.Forms.{All-at}
use Rattle.mb_frames.specs.Going.{Charged, Enters, paying}
use Rattle.mb_frames.specs.Running.{CanRun}
use Rattle.mb_frames.specs.declared.machine.Halt.TheVariants.{NoMemory, Spent as SpentHalt}
use Rattle.mb_frames.specs.declared.machine.Halt.{Halt}
use Rattle.mb_model.specs.Engine.{Pay}
use Rattle.mb_model.specs.Nodes.Scopes.{add_scope, binding, bound_names, enter_names, names_if, names_of_node}
use Rattle.mb_model.specs.Task.{Answer, Nothing}
use Rattle.mb_model.specs.Writing.{Does, Row, pay_each}
use Rattle.mb_parts.specs.Scopes.{bound_by, unbound}
use Rattle.mb_tree.specs.Names.{Binds, names_at}
use Rattle.mb_world.proofs.AfterCalls.{of-scope}
use Rattle.mb_world.specs.Data.{Data, Script, program_of, with_scope}
use Rattle.mb_world.specs.Graph as graph
use Rattle.mb_world.specs.Graph.{Binding, Graph, Item, ScopeName}
use Rattle.mb_world.specs.Ids.{BoundIn, Maybe, ScopeIn, ScopeOf, ScriptIn, TextIn}
use Rattle.mb_world.specs.Image.{Image, Names, binding_in, name_in, names_of, program_in, scope_in}
use Rattle.mb_world.specs.declared.scope.Bound.{Bound}
use Rattle.mb_world.specs.declared.scope.Scope.{Scope}

-- ---- charges

pub each-paid : {X : Type 0} (xs : List X) (k : Answer → Graph → Row) (g : Graph)
    → pay_each xs k g ≡ paying (length xs) g (k Nothing g)
each-paid [] k g = refl
each-paid (x ∷ xs) k g = ap (Pay 1 g) (each-paid xs k g)

-- ---- the names of a node

picked : (texts : List (List ℕ)) (node : NodeId) (bs : List Binds)
    → names_of_node node.0 (map (name_in texts) bs) ≡ map (name_in texts) (names_at node bs)
picked texts node [] = refl
picked texts node (b ∷ bs) = by (nat_eq b.0.0 node.0) refl (picked texts node bs)
  where
    by : (t : Bool) → nat_eq b.0.0 node.0 ≡ t
        → names_of_node node.0 (map (name_in texts) bs) ≡ map (name_in texts) (names_at node bs)
        → names_of_node node.0 (map (name_in texts) (b ∷ bs)) ≡ map (name_in texts) (names_at node (b ∷ bs))
    by true e h = rw (e, h) refl
    by false e h = rw (e, h) refl

names-of : (texts : List (List ℕ)) (n : ℕ) (ps : List (Option Script)) (i : ℕ) (node : NodeId) → i < n
    → names_if node.0 (slice_get (map (program_in texts) (take n ps)) i)
    ≡ map (name_in texts) (bound_by (slice_index_or ps i None) node)
names-of texts zero ps i node h = absurd (omega (arith, h))
names-of texts (suc n) [] i node h = refl
names-of texts (suc n) (None ∷ ps) zero node h = refl
names-of texts (suc n) (Some p ∷ ps) zero node h = picked texts node p.names
names-of texts (suc n) (p ∷ ps) (suc i) node h = names-of texts n ps i node (omega (arith, h))

pub names-are : (d : Data) (home : Side) (node : NodeId) (log : List Item) → home.0 < d.sides
    → bound_names (Image d log) home.0 node.0 ≡ map (name_in d.texts) (bound_by (program_of d home) node)
names-are d home node log h = names-of d.texts d.sides d.programs home.0 node h

pub bindings-are : (n : Names) (bs : List Binds)
    → map (binding_in n) (map unbound bs) ≡ map (λ (x : ScopeName). binding x.name None x.fixed)
    (map (name_in n.texts) bs)
bindings-are n [] = refl
bindings-are n (b ∷ bs) = ap (λ z. binding_in n (unbound b) ∷ z) (bindings-are n bs)

-- ---- a scope more

abbrev pub entered : Side → ScopeId → List Bound → Scope
entered home parent names = record { home = home; parent = Some parent; names = names }

scopes-count : (d : Data) (log : List Item) → length (Image d log).scopes ≡ length d.scopes
scopes-count d log = length-map d.scopes (scope_in (names_of d))

-- a scope is added, and the row goes on with its number
pub added-row : (d : Data) (s : Scope) (S : graph.Scope) (k : ℕ → Graph → Row) (log : List Item)
    → S ≡ scope_in (names_of d) s
    → add_scope S k (Image d log) ≡ k (length d.scopes) (Image (with_scope d s) log)
added-row d s S k log e =
    ap (λ n. k n (record (Image d log) { scopes = (Image d log).scopes ++ (S ∷ []) })) (scopes-count d log)
    ∙ ap (λ (x : graph.Scope). k (length d.scopes)
    (record (Image d log) { scopes = (Image d log).scopes ++ (x ∷ []) })) e
    ∙ ap (k (length d.scopes)) (sym ((of-scope d s).image log))

pub names-count : (texts : List (List ℕ)) (bs : List Binds) → length (map (name_in texts) bs) ≡ length bs
names-count texts bs = length-map bs (name_in texts)

abbrev graph-scope : Data → Side → ScopeId → List Binds → graph.Scope
graph-scope d home parent bs = record {
  side = home.0;
  parent = Some parent.0;
  bindings = map (λ (x : ScopeName). binding x.name None x.fixed) (map (name_in d.texts) bs);
}

-- a scope of these names is entered: a unit for each
pub names-row : (d : Data) (home : Side) (parent : ScopeId) (bs : List Binds) (k : ℕ → Graph → Row) (log : List Item)
    → enter_names home.0 parent.0 (map (name_in d.texts) bs) k (Image d log)
    ≡ paying (length bs) (Image d log)
    (k (length d.scopes) (Image (with_scope d (entered home parent (map unbound bs))) log))
names-row d home parent bs k log =
    let S : graph.Scope = graph-scope d home parent bs in
    each-paid (map (name_in d.texts) bs) (λ a. add_scope S k) (Image d log)
    ∙ ap (λ n. paying n (Image d log) (add_scope S k (Image d log))) (names-count d.texts bs)
    ∙ ap (paying (length bs) (Image d log))
    (added-row d (entered home parent (map unbound bs)) S k log
    (ap (λ (z : List Binding). let s : graph.Scope = record {
      side = home.0;
      parent = Some parent.0;
      bindings = z;
    } in s)
    (sym (bindings-are (names_of d) bs))))

-- ---- a part that enters a scope of these names

module _ (d : Data) (home : Side) (parent : ScopeId) (bs : List Binds) (p : Does ℕ)
    (row : (k : ℕ → Graph → Row) (log : List Item) → p k (Image d log)
    ≡ enter_names home.0 parent.0 (map (name_in d.texts) bs) k (Image d log))
  where
    pub names-went : (d' : Data) (id : ScopeId) (f f' : ℕ) (names : List Bound) → names ≡ map unbound bs
        → f ≡ f' + length bs → d' ≡ with_scope d (entered home parent names) → id.0 ≡ length d.scopes
        → Enters (Ok id) d d' f f' p
    names-went d' id f f' names e u m i = rw m (record {
      units = length bs;
      paid = u;
      same = λ k log.
          row k log
          ∙ names-row d home parent bs k log
          ∙ ap (λ (ns : List Bound). paying (length bs) (Image d log)
          (k (length d.scopes) (Image (with_scope d (entered home parent ns)) log))) (sym e)
          ∙ ap (λ n. paying (length bs) (Image d log) (k n (Image (with_scope d (entered home parent names)) log)))
          (sym i);
      trace = refl;
      grew = record {
        grows = (of-scope d (entered home parent names)).grows;
        programs = refl;
        sides = refl;
        joined = refl;
      };
    })

    names-short : (f f' : ℕ) → (f < length bs) × (f' ≡ 0) → Enters (Err SpentHalt) d d f f' p
    names-short f f' u = record {
      units = length bs;
      above = u.0;
      none = u.1;
      same = λ k log. (_, row k log ∙ names-row d home parent bs k log);
      world = refl;
    }

    pub names-halted : (halt : Halt) (f f' : ℕ) → Charged {A = List Bound} (Err halt) f f' (length bs)
        → Enters (Err halt) d d f f' p
    names-halted SpentHalt f f' h = names-short f f' h
    names-halted NoMemory f f' h = tt

-- ---- the ids of a scope that is entered

texts-of : (d : Data) (o : Option Script) (node : NodeId) → Maybe (ScriptIn d) o
    → All (λ (b : Binds). TextIn d b.1) (bound_by o node)
texts-of d None node h = All-nil (λ (b : Binds). TextIn d b.1)
texts-of d (Some p) node h =
    All-filter (λ (b : Binds). nat_eq b.0.0 node.0) (λ (b : Binds). TextIn d b.1) p.names h.names_in

pub node-texts : (d : Data) (home : Side) (node : NodeId) → CanRun d home
    → All (λ (b : Binds). TextIn d b.1) (bound_by (program_of d home) node)
node-texts d home node c =
    texts-of d (program_of d home) node (All-at (Maybe (ScriptIn d)) d.programs home.0 None c.ids.programs_in tt)

pub entered-in : (d : Data) (home : Side) (parent : ScopeId) (bs : List Binds) (names : List Bound) → CanRun d home
    → ScopeIn d parent → All (λ (b : Binds). TextIn d b.1) bs → names ≡ map unbound bs
    → ScopeOf d (entered home parent names)
entered-in d home parent bs names c s h e = record {
  home_in = omega (arith, c.sides, c.takes_part);
  parent_in = s;
  names_in = subst (All (BoundIn d)) (sym e)
      (All-map (BoundIn d) unbound bs
      (All-weaker (λ (b : Binds). TextIn d b.1) (λ (b : Binds). BoundIn d (unbound b)) (λ b t. (t, tt)) bs h));
}
