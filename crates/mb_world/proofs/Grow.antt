-- A world whose ids name what they named.
use Rattle.std.proofs.Common.{◌≡◌, ℕ, ◌≤◌, List, length, slice_get, Option, Some, None, arith, refl, sym, ◌∙◌, ap}
use Rattle.std.specs.Prelude.{All}
use Rattle.std.proofs.lemmas.List.Elements.{All-weaker}
use Rattle.std.proofs.lemmas.Option.{slice_get_within, get_or_from_slice_get}
use Rattle.mb_base.specs.declared.value.StrId.{StrId}
use Rattle.mb_base.specs.declared.value.SymId.{SymId}
use Rattle.mb_base.specs.declared.value.ScopeId.{ScopeId}
use Rattle.mb_base.specs.declared.value.ObjId.{ObjId}
use Rattle.mb_base.specs.declared.value.Key.{Key}
use Rattle.mb_base.specs.declared.value.Key.TheVariants as k
use Rattle.mb_base.specs.declared.value.Value.{Value}
use Rattle.mb_base.specs.declared.value.Value.TheVariants as v
use Rattle.mb_desc.specs.declared.descriptor.Full.{Full}
use Rattle.mb_desc.specs.declared.descriptor.Full.TheVariants.{Datum, Accessor}
use Rattle.mb_text.specs.Index.{index_of}
use Rattle.mb_world.specs.declared.cell.CellKind.{CellKind}
use Rattle.mb_world.specs.declared.cell.CellKind.TheVariants.{Function, Proxy, Revoker, Membrane}
use Rattle.mb_world.specs.declared.cell.Cell.{Cell}
use Rattle.mb_world.specs.declared.scope.Scope.{Scope}
use Rattle.mb_world.specs.declared.scope.Bound.{Bound}
use Rattle.mb_world.specs.declared.scope.Job.{Job}
use Rattle.mb_world.specs.declared.scope.Job.TheVariants as j
use Rattle.mb_world.specs.declared.entry.Entry.{Entry}
use Rattle.mb_world.specs.declared.entry.Seen.{Seen}
use Rattle.mb_world.specs.declared.entry.Seen.TheVariants as s
use Rattle.mb_world.specs.declared.entry.Said.{Said}
use Rattle.mb_world.specs.declared.entry.Said.TheVariants as said
use Rattle.mb_world.specs.declared.rule.Rule.{Rule}
use Rattle.mb_world.specs.declared.rule.RuleKind.{RuleKind}
use Rattle.mb_world.specs.declared.rule.RuleKind.TheVariants as r
use Rattle.mb_world.specs.Data.{Data, Script}
use Rattle.mb_world.specs.Ids.{Maybe, TextIn, SymbolIn, ObjIn, ScopeIn, KeyIn, ValueIn, FullIn, PropertyIn, PairIn, KindIn, CellIn, BoundIn, ScopeOf, JobIn, RuleKindIn, RuleIn, SeenIn, SaidIn, EntryIn, ScriptIn, Hold}
use Rattle.mb_world.specs.Grows.{Grows}

pub Grows-same : (d : Data) → Grows d d
Grows-same d = record { texts_in = omega arith; symbols_in = omega arith; cells_in = omega arith; scopes_in = omega arith; same_text = λ t h. refl; same_object = λ o h. refl; same_number = λ o h. refl }

pub Grows-then : (a b c : Data) → Grows a b → Grows b c → Grows a c
Grows-then a b c g h = record {
  texts_in = omega (arith, g.texts_in, h.texts_in);
  symbols_in = omega (arith, g.symbols_in, h.symbols_in);
  cells_in = omega (arith, g.cells_in, h.cells_in);
  scopes_in = omega (arith, g.scopes_in, h.scopes_in);
  same_text = λ t l. h.same_text t (let p : length a.texts ≤ length b.texts = g.texts_in in omega arith) ∙ g.same_text t l;
  same_object = λ o l. h.same_object o (let p : length a.cells ≤ length b.cells = g.cells_in in omega arith) ∙ g.same_object o l;
  same_number = λ o l. h.same_number o (let p : length a.cells ≤ length b.cells = g.cells_in in omega arith) ∙ g.same_number o l;
}

pub Maybe-weaker : {A : Type 0} (P Q : A → Type 0) → ((a : A) → P a → Q a) → (o : Option A) → Maybe P o → Maybe Q o
Maybe-weaker P Q f None h = h
Maybe-weaker P Q f (Some a) h = f a h

-- ---- ids

module _ (d d' : Data) (g : Grows d d') where
  pub TextIn-grows : (t : StrId) → TextIn d t → TextIn d' t
  TextIn-grows t h = omega (arith, h, g.texts_in)

  pub SymbolIn-grows : (t : SymId) → SymbolIn d t → SymbolIn d' t
  SymbolIn-grows t h = omega (arith, h, g.symbols_in)

  pub ObjIn-grows : (o : ObjId) → ObjIn d o → ObjIn d' o
  ObjIn-grows o h = omega (arith, h, g.cells_in)

  pub ScopeIn-grows : (s : ScopeId) → ScopeIn d s → ScopeIn d' s
  ScopeIn-grows s h = omega (arith, h, g.scopes_in)

  pub KeyIn-grows : (x : Key) → KeyIn d x → KeyIn d' x
  KeyIn-grows (k.Text text index) h = (TextIn-grows text h.0, h.1 ∙ ap index_of (sym (g.same_text text h.0)))
  KeyIn-grows (k.Symbol symbol) h = SymbolIn-grows symbol h

  pub ValueIn-grows : (x : Value) → ValueIn d x → ValueIn d' x
  ValueIn-grows (v.Text t) h = TextIn-grows t h
  ValueIn-grows (v.Symbol t) h = SymbolIn-grows t h
  ValueIn-grows (v.Object o) h = ObjIn-grows o h
  ValueIn-grows v.Undefined h = h
  ValueIn-grows v.Null h = h
  ValueIn-grows (v.Bool b) h = h
  ValueIn-grows (v.Whole n) h = h

  pub MaybeValue-grows : (o : Option Value) → Maybe (ValueIn d) o → Maybe (ValueIn d') o
  MaybeValue-grows = Maybe-weaker (ValueIn d) (ValueIn d') ValueIn-grows

  MaybeObj-grows : (o : Option ObjId) → Maybe (ObjIn d) o → Maybe (ObjIn d') o
  MaybeObj-grows = Maybe-weaker (ObjIn d) (ObjIn d') ObjIn-grows

  MaybeText-grows : (o : Option StrId) → Maybe (TextIn d) o → Maybe (TextIn d') o
  MaybeText-grows = Maybe-weaker (TextIn d) (TextIn d') TextIn-grows

  pub FullIn-grows : (f : Full Value) → FullIn d f → FullIn d' f
  FullIn-grows (Datum x w e c) h = ValueIn-grows x h
  FullIn-grows (Accessor x y e c) h = (ValueIn-grows x h.0, ValueIn-grows y h.1)

  pub PropertyIn-grows : (p : Key × Full Value) → PropertyIn d p → PropertyIn d' p
  PropertyIn-grows p h = (KeyIn-grows p.0 h.0, FullIn-grows p.1 h.1)

  pub PairIn-grows : (p : Value × Value) → PairIn d p → PairIn d' p
  PairIn-grows p h = (ValueIn-grows p.0 h.0, ValueIn-grows p.1 h.1)

  pub KindIn-grows : (k : CellKind) → KindIn d k → KindIn d' k
  KindIn-grows (Function code) h = (ScopeIn-grows code.scope h.0, MaybeValue-grows code.bound_this h.1)
  KindIn-grows (Proxy target handler shape) h = (MaybeObj-grows target h.0, MaybeObj-grows handler h.1)
  KindIn-grows (Revoker proxy) h = ObjIn-grows proxy h
  KindIn-grows (Membrane behind shadow) h = (ObjIn-grows behind h.0, ObjIn-grows shadow h.1)
  KindIn-grows _ h = tt

  pub CellIn-grows : (c : Cell) → CellIn d c → CellIn d' c
  CellIn-grows c h = record {
    home_in = h.home_in;
    kind_in = KindIn-grows c.kind h.kind_in;
    proto_in = ValueIn-grows c.proto h.proto_in;
    props_in = All-weaker (PropertyIn d) (PropertyIn d') PropertyIn-grows c.props h.props_in;
    label_in = MaybeText-grows c.label h.label_in;
    slots_in = All-weaker (Maybe (PairIn d)) (Maybe (PairIn d')) (Maybe-weaker (PairIn d) (PairIn d') PairIn-grows) c.slots h.slots_in;
  }

  BoundIn-grows : (b : Bound) → BoundIn d b → BoundIn d' b
  BoundIn-grows b h = (TextIn-grows b.name h.0, MaybeValue-grows b.value h.1)

  pub ScopeOf-grows : (s : Scope) → ScopeOf d s → ScopeOf d' s
  ScopeOf-grows s h = record {
    home_in = h.home_in;
    parent_in = Maybe-weaker (ScopeIn d) (ScopeIn d') ScopeIn-grows s.parent h.parent_in;
    names_in = All-weaker (BoundIn d) (BoundIn d') BoundIn-grows s.names h.names_in;
  }

  pub JobIn-grows : (x : Job) → JobIn d x → JobIn d' x
  JobIn-grows j.Script h = h
  JobIn-grows (j.Call f) h = ValueIn-grows f h

  RuleKindIn-grows : (x : RuleKind) → RuleKindIn d x → RuleKindIn d' x
  RuleKindIn-grows (r.Hide x) h = TextIn-grows x h
  RuleKindIn-grows r.ReadOnly h = h
  RuleKindIn-grows (r.Substitute x y) h = (TextIn-grows x h.0, ValueIn-grows y h.1)
  RuleKindIn-grows r.Revoke h = h

  pub RuleIn-grows : (x : Rule) → RuleIn d x → RuleIn d' x
  RuleIn-grows x h = (TextIn-grows x.label h.0, RuleKindIn-grows x.kind h.1)

  pub SeenIn-grows : (x : Seen) → SeenIn d x → SeenIn d' x
  SeenIn-grows (s.Text t) h = TextIn-grows t h
  SeenIn-grows (s.Symbol n) h = omega (arith, h, g.symbols_in)
  SeenIn-grows _ h = tt

  MaybeSeen-grows : (o : Option Seen) → Maybe (SeenIn d) o → Maybe (SeenIn d') o
  MaybeSeen-grows = Maybe-weaker (SeenIn d) (SeenIn d') SeenIn-grows

  SaidIn-grows : (x : Said) → SaidIn d x → SaidIn d' x
  SaidIn-grows (said.Plain x) h = SeenIn-grows x h
  SaidIn-grows (said.Prop x) h = record { value_in = MaybeSeen-grows x.value h.value_in; get_in = MaybeSeen-grows x.get h.get_in; set_in = MaybeSeen-grows x.set h.set_in }
  SaidIn-grows (said.Keys ks) h = All-weaker (KeyIn d) (KeyIn d') KeyIn-grows ks h
  SaidIn-grows (said.Thrown x) h = SeenIn-grows x h
  SaidIn-grows (said.Pair x y) h = (SeenIn-grows x h.0, SeenIn-grows y h.1)
  SaidIn-grows _ h = tt

  pub EntryIn-grows : (e : Entry) → EntryIn d e → EntryIn d' e
  EntryIn-grows e h = record {
    side_in = h.side_in;
    key_in = Maybe-weaker (KeyIn d) (KeyIn d') KeyIn-grows e.key h.key_in;
    given_in = SaidIn-grows e.given h.given_in;
    answer_in = SaidIn-grows e.answer h.answer_in;
  }

  pub ScriptIn-grows : (p : Script) → ScriptIn d p → ScriptIn d' p
  ScriptIn-grows p h = record {
    nodes_in = All-weaker (λ x. Maybe (TextIn d) x.label.name) (λ x. Maybe (TextIn d') x.label.name) (λ x. MaybeText-grows x.label.name) p.nodes h.nodes_in;
    names_in = All-weaker (λ x. TextIn d x.1) (λ x. TextIn d' x.1) (λ x. TextIn-grows x.1) p.names h.names_in;
  }

  module _ (symbols : List (Option StrId)) (programs : List (Option Script)) (cells : List Cell) (scopes : List Scope) (queues : List (List Job)) (rules : List Rule) (entries : List Entry) where
    -- lists whose ids are of a world have ids of each world that it grew to
    pub Hold-grows : Hold d symbols programs cells scopes queues rules entries → Hold d' symbols programs cells scopes queues rules entries
    Hold-grows h = record {
      symbols_in = All-weaker (Maybe (TextIn d)) (Maybe (TextIn d')) MaybeText-grows symbols h.symbols_in;
      programs_in = All-weaker (Maybe (ScriptIn d)) (Maybe (ScriptIn d')) (Maybe-weaker (ScriptIn d) (ScriptIn d') ScriptIn-grows) programs h.programs_in;
      cells_in = All-weaker (CellIn d) (CellIn d') CellIn-grows cells h.cells_in;
      scopes_in = All-weaker (ScopeOf d) (ScopeOf d') ScopeOf-grows scopes h.scopes_in;
      queues_in = All-weaker (All (JobIn d)) (All (JobIn d')) (λ q. All-weaker (JobIn d) (JobIn d') JobIn-grows q) queues h.queues_in;
      rules_in = All-weaker (RuleIn d) (RuleIn d') RuleIn-grows rules h.rules_in;
      entries_in = All-weaker (EntryIn d) (EntryIn d') EntryIn-grows entries h.entries_in;
    }

pub All-at : {A : Type 0} (P : A → Type 0) (xs : List A) (k : ℕ) (x : A) → slice_get xs k ≡ Some x → All P xs → P x
All-at P xs k x e h = rw (get_or_from_slice_get xs k x x e) at (h k x (slice_get_within xs k x e))

-- ---- one of the lists is another

module _ (d : Data) (symbols : List (Option StrId)) (programs : List (Option Script)) (cells : List Cell) (scopes : List Scope) (queues : List (List Job)) (rules : List Rule) (entries : List Entry)
    (h : Hold d symbols programs cells scopes queues rules entries) where
  pub Hold-symbols : (xs : List (Option StrId)) → All (Maybe (TextIn d)) xs → Hold d xs programs cells scopes queues rules entries
  Hold-symbols xs n = record { symbols_in = n; programs_in = h.programs_in; cells_in = h.cells_in; scopes_in = h.scopes_in; queues_in = h.queues_in; rules_in = h.rules_in; entries_in = h.entries_in }

  pub Hold-programs : (xs : List (Option Script)) → All (Maybe (ScriptIn d)) xs → Hold d symbols xs cells scopes queues rules entries
  Hold-programs xs n = record { symbols_in = h.symbols_in; programs_in = n; cells_in = h.cells_in; scopes_in = h.scopes_in; queues_in = h.queues_in; rules_in = h.rules_in; entries_in = h.entries_in }

  pub Hold-cells : (xs : List Cell) → All (CellIn d) xs → Hold d symbols programs xs scopes queues rules entries
  Hold-cells xs n = record { symbols_in = h.symbols_in; programs_in = h.programs_in; cells_in = n; scopes_in = h.scopes_in; queues_in = h.queues_in; rules_in = h.rules_in; entries_in = h.entries_in }

  pub Hold-scopes : (xs : List Scope) → All (ScopeOf d) xs → Hold d symbols programs cells xs queues rules entries
  Hold-scopes xs n = record { symbols_in = h.symbols_in; programs_in = h.programs_in; cells_in = h.cells_in; scopes_in = n; queues_in = h.queues_in; rules_in = h.rules_in; entries_in = h.entries_in }

  pub Hold-queues : (xs : List (List Job)) → All (All (JobIn d)) xs → Hold d symbols programs cells scopes xs rules entries
  Hold-queues xs n = record { symbols_in = h.symbols_in; programs_in = h.programs_in; cells_in = h.cells_in; scopes_in = h.scopes_in; queues_in = n; rules_in = h.rules_in; entries_in = h.entries_in }

  pub Hold-rules : (xs : List Rule) → All (RuleIn d) xs → Hold d symbols programs cells scopes queues xs entries
  Hold-rules xs n = record { symbols_in = h.symbols_in; programs_in = h.programs_in; cells_in = h.cells_in; scopes_in = h.scopes_in; queues_in = h.queues_in; rules_in = n; entries_in = h.entries_in }

  pub Hold-entries : (xs : List Entry) → All (EntryIn d) xs → Hold d symbols programs cells scopes queues rules xs
  Hold-entries xs n = record { symbols_in = h.symbols_in; programs_in = h.programs_in; cells_in = h.cells_in; scopes_in = h.scopes_in; queues_in = h.queues_in; rules_in = h.rules_in; entries_in = n }
