-- What a world holds stands for the same in each world that it grew to.
use Rattle.std.proofs.Common.{◌≡◌, List, [], ◌∷◌, Option, Some, None, Bool, true, false, refl, ap, map, option_map}
use Rattle.std.specs.Prelude.{All}
use Rattle.std.proofs.lemmas.List.Elements.{All-head, All-tail}
use Rattle.mb_base.specs.declared.value.StrId.{StrId}
use Rattle.mb_base.specs.declared.value.NodeId.{NodeId}
use Rattle.mb_base.specs.declared.value.Key.{Key}
use Rattle.mb_base.specs.declared.value.Key.TheVariants as k
use Rattle.mb_base.specs.declared.value.Value.{Value}
use Rattle.mb_base.specs.declared.value.Value.TheVariants as v
use Rattle.mb_desc.specs.declared.descriptor.Full.{Full}
use Rattle.mb_desc.specs.declared.descriptor.Full.TheVariants.{Datum, Accessor}
use Rattle.mb_tree.specs.Roses.{Shape}
use Rattle.mb_text.specs.Texts.{text_at}
use Rattle.mb_world.specs.declared.cell.CellKind.{CellKind}
use Rattle.mb_world.specs.declared.cell.CellKind.TheVariants.{Plain, Array, Function, BuiltIn, Fault, Proxy, Revoker, Membrane, Shadow, Collection}
use Rattle.mb_world.specs.declared.cell.Cell.{Cell}
use Rattle.mb_world.specs.declared.scope.Scope.{Scope}
use Rattle.mb_world.specs.declared.scope.Bound.{Bound}
use Rattle.mb_world.specs.declared.scope.Job.{Job}
use Rattle.mb_world.specs.declared.scope.Job.TheVariants as j
use Rattle.mb_world.specs.declared.rule.Rule.{Rule}
use Rattle.mb_world.specs.declared.rule.RuleKind.{RuleKind}
use Rattle.mb_world.specs.declared.rule.RuleKind.TheVariants as r
use Rattle.mb_world.specs.Graph as graph
use Rattle.mb_world.specs.Data.{Data, Script, is_object_cell}
use Rattle.mb_world.specs.Ids.{Maybe, TextIn, KeyIn, ValueIn, FullIn, PropertyIn, PairIn, KindIn, CellIn, BoundIn, ScopeOf, JobIn, RuleKindIn, RuleIn, ScriptIn}
use Rattle.mb_world.specs.Image.{names_of, text_in, Resolve, key_in, full_in, pair_in, slots_in, kind_in, property_in, thing_in, things_in, binding_in, scope_in, job_in, node_in, nodes_in, name_in, program_in, rule_in, rule_kind_in}
use Rattle.mb_world.specs.Grows.{Grows}

pub map-same : {A B : Type 0} (f g : A → B) (P : A → Type 0) → ((a : A) → P a → f a ≡ g a) → (xs : List A) → All P xs → map f xs ≡ map g xs
map-same f g P e [] h = refl
map-same f g P e (x ∷ xs) h = rw (e x (All-head P x xs h), map-same f g P e xs (All-tail P x xs h)) refl

pub option-same : {A B : Type 0} (f g : A → B) (P : A → Type 0) → ((a : A) → P a → f a ≡ g a) → (o : Option A) → Maybe P o → option_map f o ≡ option_map g o
option-same f g P e None h = refl
option-same f g P e (Some x) h = ap Some (e x h)

module _ (d d' : Data) (g : Grows d d') where
  -- ---- programs hang on the texts alone
  node-grows : (x : Shape) → Maybe (TextIn d) x.label.name → node_in d'.texts x ≡ node_in d.texts x
  node-grows x h = rw (option-same (text_at d'.texts) (text_at d.texts) (TextIn d) g.same_text x.label.name h) refl

  nodes-grow : (xs : List Shape) → All (λ x. Maybe (TextIn d) x.label.name) xs → nodes_in d'.texts xs ≡ nodes_in d.texts xs
  nodes-grow xs h = map-same (node_in d'.texts) (node_in d.texts) (λ x. Maybe (TextIn d) x.label.name) node-grows xs h

  name-grows : (x : NodeId × StrId × Bool) → TextIn d x.1 → name_in d'.texts x ≡ name_in d.texts x
  name-grows x h = rw (g.same_text x.1 h) refl

  pub program-grows : (p : Option Script) → Maybe (ScriptIn d) p → program_in d'.texts p ≡ program_in d.texts p
  program-grows None h = refl
  program-grows (Some p) h = rw (nodes-grow p.nodes h.nodes_in, map-same (name_in d'.texts) (name_in d.texts) (λ x. TextIn d x.1) name-grows p.names h.names_in) refl

  pub programs-grow : (ps : List (Option Script)) → All (Maybe (ScriptIn d)) ps → map (program_in d'.texts) ps ≡ map (program_in d.texts) ps
  programs-grow ps h = map-same (program_in d'.texts) (program_in d.texts) (Maybe (ScriptIn d)) program-grows ps h

  -- ---- values, objects, scopes, jobs, rules
  pub value-grows : (x : Value) → ValueIn d x → Resolve (names_of d') x ≡ Resolve (names_of d) x
  value-grows v.Undefined h = refl
  value-grows v.Null h = refl
  value-grows (v.Bool b) h = refl
  value-grows (v.Whole z) h = refl
  value-grows (v.Text t) h = rw (g.same_text t h) refl
  value-grows (v.Symbol t) h = refl
  value-grows (v.Object o) h = g.same_object o h

  pub key-grows : (x : Key) → KeyIn d x → key_in (names_of d') x ≡ key_in (names_of d) x
  key-grows (k.Text text index) h = rw (g.same_text text h.0) refl
  key-grows (k.Symbol symbol) h = refl

  pub full-grows : (f : Full Value) → FullIn d f → full_in (names_of d') f ≡ full_in (names_of d) f
  full-grows (Datum x w e c) h = rw (value-grows x h) refl
  full-grows (Accessor x y e c) h = rw (value-grows x h.0, value-grows y h.1) refl

  property-grows : (p : Key × Full Value) → PropertyIn d p → property_in (names_of d') p ≡ property_in (names_of d) p
  property-grows p h = rw (key-grows p.0 h.0, full-grows p.1 h.1) refl

  pair-grows : (p : Value × Value) → PairIn d p → pair_in (names_of d') p ≡ pair_in (names_of d) p
  pair-grows p h = rw (value-grows p.0 h.0, value-grows p.1 h.1) refl

  pub slots-grow : (xs : List (Option (Value × Value))) → All (Maybe (PairIn d)) xs → slots_in (names_of d') xs ≡ slots_in (names_of d) xs
  slots-grow xs h = map-same (option_map (pair_in (names_of d'))) (option_map (pair_in (names_of d))) (Maybe (PairIn d)) (λ o m. option-same (pair_in (names_of d')) (pair_in (names_of d)) (PairIn d) pair-grows o m) xs h

  pub kind-grows : (xs : List (Option (Value × Value))) (k : CellKind) → All (Maybe (PairIn d)) xs → KindIn d k → kind_in (names_of d') xs k ≡ kind_in (names_of d) xs k
  kind-grows xs Plain s h = refl
  kind-grows xs Array s h = refl
  kind-grows xs (Function code) s h = rw (option-same (Resolve (names_of d')) (Resolve (names_of d)) (ValueIn d) value-grows code.bound_this h.1) refl
  kind-grows xs (BuiltIn place) s h = refl
  kind-grows xs (Fault kind) s h = refl
  kind-grows xs (Proxy (Some target) (Some handler) shape) s h = rw (g.same_object target h.0, g.same_object handler h.1) refl
  kind-grows xs (Proxy (Some target) None shape) s h = refl
  kind-grows xs (Proxy None handler shape) s h = refl
  kind-grows xs (Revoker proxy) s h = ap graph.Revoker (g.same_number proxy h)
  kind-grows xs (Membrane behind shadow) s h = refl
  kind-grows xs (Shadow shape) s h = refl
  kind-grows xs (Collection coll) s h = ap (graph.Collection coll) (slots-grow xs s)

  pub thing-grows : (c : Cell) → CellIn d c → thing_in (names_of d') c ≡ thing_in (names_of d) c
  thing-grows c h = rw (
    option-same (text_in (names_of d')) (text_in (names_of d)) (TextIn d) g.same_text c.label h.label_in,
    kind-grows c.slots c.kind h.slots_in h.kind_in,
    value-grows c.proto h.proto_in,
    map-same (property_in (names_of d')) (property_in (names_of d)) (PropertyIn d) property-grows c.props h.props_in,
  ) refl

  binding-grows : (b : Bound) → BoundIn d b → binding_in (names_of d') b ≡ binding_in (names_of d) b
  binding-grows b h = rw (g.same_text b.name h.0, option-same (Resolve (names_of d')) (Resolve (names_of d)) (ValueIn d) value-grows b.value h.1) refl

  pub scope-grows : (s : Scope) → ScopeOf d s → scope_in (names_of d') s ≡ scope_in (names_of d) s
  scope-grows s h = rw (map-same (binding_in (names_of d')) (binding_in (names_of d)) (BoundIn d) binding-grows s.names h.names_in) refl

  pub job-grows : (x : Job) → JobIn d x → job_in (names_of d') x ≡ job_in (names_of d) x
  job-grows j.Script h = refl
  job-grows (j.Call f) h = ap graph.Call (value-grows f h)

  rule-kind-grows : (x : RuleKind) → RuleKindIn d x → rule_kind_in (names_of d') x ≡ rule_kind_in (names_of d) x
  rule-kind-grows (r.Hide x) h = rw (g.same_text x h) refl
  rule-kind-grows r.ReadOnly h = refl
  rule-kind-grows (r.Substitute x y) h = rw (g.same_text x h.0, value-grows y h.1) refl
  rule-kind-grows r.Revoke h = refl

  pub rule-grows : (x : Rule) → RuleIn d x → rule_in (names_of d') x ≡ rule_in (names_of d) x
  rule-grows x h = rw (g.same_text x.label h.0, rule-kind-grows x.kind h.1) refl

  -- ---- the parts of the image
  pub things-grow : (cells : List Cell) → All (CellIn d) cells → things_in (names_of d') cells ≡ things_in (names_of d) cells
  things-grow [] h = refl
  things-grow (c ∷ cs) h = by (is_object_cell c) refl (thing-grows c (All-head (CellIn d) c cs h)) (things-grow cs (All-tail (CellIn d) c cs h))
    where
      by : (b : Bool) → is_object_cell c ≡ b → thing_in (names_of d') c ≡ thing_in (names_of d) c → things_in (names_of d') cs ≡ things_in (names_of d) cs → things_in (names_of d') (c ∷ cs) ≡ things_in (names_of d) (c ∷ cs)
      by true e p q = rw (e, p, q) refl
      by false e p q = rw (e, q) refl

  pub symbols-grow : (xs : List (Option StrId)) → All (Maybe (TextIn d)) xs → map (option_map (text_at d'.texts)) xs ≡ map (option_map (text_at d.texts)) xs
  symbols-grow xs h = map-same (option_map (text_at d'.texts)) (option_map (text_at d.texts)) (Maybe (TextIn d)) (λ o m. option-same (text_at d'.texts) (text_at d.texts) (TextIn d) g.same_text o m) xs h

  pub scopes-grow : (ss : List Scope) → All (ScopeOf d) ss → map (scope_in (names_of d')) ss ≡ map (scope_in (names_of d)) ss
  scopes-grow ss h = map-same (scope_in (names_of d')) (scope_in (names_of d)) (ScopeOf d) scope-grows ss h

  pub queues-grow : (qs : List (List Job)) → All (All (JobIn d)) qs → map (map (job_in (names_of d'))) qs ≡ map (map (job_in (names_of d))) qs
  queues-grow qs h = map-same (map (job_in (names_of d'))) (map (job_in (names_of d))) (All (JobIn d)) (λ q k. map-same (job_in (names_of d')) (job_in (names_of d)) (JobIn d) job-grows q k) qs h

  pub rules-grow : (xs : List Rule) → All (RuleIn d) xs → map (rule_in (names_of d')) xs ≡ map (rule_in (names_of d)) xs
  rules-grow xs h = map-same (rule_in (names_of d')) (rule_in (names_of d)) (RuleIn d) rule-grows xs h
