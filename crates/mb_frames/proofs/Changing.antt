-- A world that one call changed at a home is kept: the parts that the changes share.
use Rattle.mb_base.specs.declared.value.ObjId.{ObjId}
use Rattle.mb_base.specs.declared.value.Side.{Side}
use Rattle.mb_base.specs.declared.value.Value.{Value}
use Rattle.mb_desc.specs.declared.descriptor.Full.{Full}
use Rattle.mb_base.specs.declared.value.Key.{Key}
use Rattle.mb_frames.proofs.Owning.{of-full, of-id, of-value}
use Rattle.mb_frames.specs.Wholeness.{KeepsCell, KeepsKind}
use Rattle.mb_world.proofs.Grow.{All-at}
use Rattle.mb_world.specs.Contained.{HasProxyOf, IsMembrane, Paired, PairedFrom, in_cell, in_full, in_id, in_job, in_kind, in_option, in_pair, in_scope, in_value}
use Rattle.mb_world.specs.Data.{Counted, Data, Hidden, cell_at, kind_stand, numbers, serial_of, stand, stands}
use Rattle.mb_world.specs.Formed.{is_of_membrane}
use Rattle.mb_world.specs.Grows.{Grows}
use Rattle.mb_world.specs.Ids.{BoundIn, CellIn, HasItsIds, JobIn, KindIn, Maybe, ObjIn, PairIn, PropertyIn, ScopeOf, ValueIn}
use Rattle.mb_world.specs.declared.cell.Cell.{Cell}
use Rattle.mb_world.specs.declared.cell.CellKind.{CellKind}
use Rattle.mb_world.specs.declared.cell.CellKind.TheVariants as kind
use Rattle.mb_world.specs.declared.entry.Entry.{Entry}
use Rattle.mb_world.specs.declared.scope.Job.{Job}
use Rattle.mb_world.specs.declared.scope.Job.TheVariants as j
use Rattle.mb_world.specs.declared.scope.Scope.{Scope}
use Rattle.std.proofs.Common.{List, None, Option, Some, [], ap, arith, get_or, inl, inr, length, option_map, refl, slice_get, subst, sym, true, ℕ, ◌++◌, ◌<◌, ◌∙◌, ◌∷◌, ◌≡◌, ◌≤◌, ◌⊎◌}
use Rattle.std.proofs.lemmas.List.Elements.{All-append, All-head, All-nil, All-tail, All-weaker}
use Rattle.std.proofs.lemmas.Option.{get_or_from_slice_get, slice_get-map, slice_get_cases}
use Rattle.std.specs.List.{flat_map}
use Rattle.std.specs.Prelude.{All, IsSomeAnd, slice_index_or}

-- ---- the objects that stand in what a world holds

module _ (d : Data) where
  flat-all : {A : Type 0} (f : A → List ObjId) (P : A → Type 0) → ((a : A) → P a → All (ObjIn d) (f a))
      → (xs : List A) → All P xs → All (ObjIn d) (flat_map f xs)
  flat-all f P g [] h = All-nil (ObjIn d)
  flat-all f P g (y ∷ ys) h =
      All-append (ObjIn d) (f y) (flat_map f ys) (g y (All-head P y ys h)) (flat-all f P g ys (All-tail P y ys h))

  if-all : {A : Type 0} (f : A → List ObjId) (P : A → Type 0) → ((a : A) → P a → All (ObjIn d) (f a))
      → (y : Option A) → Maybe P y → All (ObjIn d) (in_option f y)
  if-all f P g None h = All-nil (ObjIn d)
  if-all f P g (Some y) h = g y h

  pub of-kind : (k : CellKind) → KindIn d k → All (ObjIn d) (in_kind k)
  of-kind kind.Plain h = All-nil (ObjIn d)
  of-kind kind.Array h = All-nil (ObjIn d)
  of-kind (kind.Function code) h = if-all in_value (ValueIn d) (of-value d) code.bound_this h.1
  of-kind (kind.BuiltIn place) h = All-nil (ObjIn d)
  of-kind (kind.Fault e) h = All-nil (ObjIn d)
  of-kind (kind.Proxy target handler shape) h =
      All-append (ObjIn d) (in_option in_id target) (in_option in_id handler)
      (if-all in_id (ObjIn d) (of-id d) target h.0) (if-all in_id (ObjIn d) (of-id d) handler h.1)
  of-kind (kind.Revoker proxy) h = of-id d proxy h
  of-kind (kind.Membrane behind shadow) h = All-nil (ObjIn d)
  of-kind (kind.Shadow shape) h = All-nil (ObjIn d)
  of-kind (kind.Collection coll) h = All-nil (ObjIn d)

  of-pair : (p : Value × Value) → PairIn d p → All (ObjIn d) (in_pair p)
  of-pair p h = All-append (ObjIn d) (in_value p.0) (in_value p.1) (of-value d p.0 h.0) (of-value d p.1 h.1)

  of-props : (ps : List (Key × Full Value)) → All (PropertyIn d) ps → All (ObjIn d) (flat_map (λ p. in_full p.1) ps)
  of-props ps h = flat-all (λ p. in_full p.1) (PropertyIn d) (λ p i. of-full d p.1 i.1) ps h

  pub of-cell-in : (c : Cell) → CellIn d c → All (ObjIn d) (in_cell c)
  of-cell-in c h = All-append (ObjIn d) (in_kind c.kind ++ in_value c.proto ++ flat_map (λ p. in_full p.1) c.props)
      (flat_map (in_option in_pair) c.slots)
      (All-append (ObjIn d) (in_kind c.kind ++ in_value c.proto) (flat_map (λ p. in_full p.1) c.props)
      (All-append (ObjIn d) (in_kind c.kind) (in_value c.proto) (of-kind c.kind h.kind_in)
      (of-value d c.proto h.proto_in)) (of-props c.props h.props_in))
      (flat-all (in_option in_pair) (Maybe (PairIn d)) (λ y i. if-all in_pair (PairIn d) of-pair y i) c.slots h.slots_in)

  pub of-scope-in : (s : Scope) → ScopeOf d s → All (ObjIn d) (in_scope s)
  of-scope-in s h = flat-all (λ b. in_option in_value b.value) (BoundIn d)
      (λ b i. if-all in_value (ValueIn d) (of-value d) b.value i.1) s.names h.names_in

  pub of-job-in : (y : Job) → JobIn d y → All (ObjIn d) (in_job y)
  of-job-in j.Script h = All-nil (ObjIn d)
  of-job-in (j.Call f) h = of-value d f h

-- ---- cells that are there

pub there : (d : Data) (o : ObjId) → ObjIn d o → (c : Cell) × (cell_at d o ≡ Some c)
there d o i = by (slice_get_cases d.cells o.0).1
  where
    by : ((c : Cell) × (o.0 < length d.cells) × (slice_get d.cells o.0 ≡ Some c) × (get_or d.cells o.0 c ≡ c))
        ⊎ ((length d.cells ≤ o.0) × (slice_get d.cells o.0 ≡ None)) → (c : Cell) × (cell_at d o ≡ Some c)
    by (inl p) = (p.0, p.2)
    by (inr p) = absurd (omega (arith, p.0, i))

-- what a cell of the world passes, the cell in its place passes too
pub carried : (d d' : Data) (P Q : Cell → Type 0)
    → ((id : ObjId) (c : Cell) → cell_at d id ≡ Some c → (e : Cell) × (cell_at d' id ≡ Some e) × KeepsCell d d' c e)
    → ((c e : Cell) → KeepsCell d d' c e → P c → Q e) → (o : ObjId) → ObjIn d o → IsSomeAnd (cell_at d o) P
    → IsSomeAnd (cell_at d' o) Q
carried d d' P Q k f o i h =
    let t : (c : Cell) × (cell_at d o ≡ Some c) = there d o i in
    let r : (e : Cell) × (cell_at d' o ≡ Some e) × KeepsCell d d' t.0 e = k o t.0 t.1 in
    let p : P t.0 = rw t.1 at h in
    rw r.1 (f t.0 r.0 r.2 p)

pub stand-kept : (k later : CellKind) → KeepsKind k later → kind_stand later ≡ kind_stand k
stand-kept kind.Plain later h = ap kind_stand h
stand-kept kind.Array later h = ap kind_stand h
stand-kept (kind.Function code) later h = ap kind_stand h
stand-kept (kind.BuiltIn place) later h = ap kind_stand h
stand-kept (kind.Fault e) later h = ap kind_stand h
stand-kept (kind.Proxy None handler shape) later h = ap kind_stand h
stand-kept (kind.Proxy (Some target) handler shape) later h =
    elim h [ inl r ↦ ap kind_stand r | inr r ↦ ap kind_stand r ]
stand-kept (kind.Revoker proxy) later h = ap kind_stand h
stand-kept (kind.Membrane behind shadow) later h = ap kind_stand h
stand-kept (kind.Shadow shape) later h = ap kind_stand h
stand-kept (kind.Collection coll) later h = ap kind_stand h

-- ---- proxies

serial-same : (d d' : Data) (o : ObjId) (c e : Cell) → cell_at d o ≡ Some c → cell_at d' o ≡ Some e
    → stand e ≡ stand c → slice_index_or (numbers (stands d'.cells)) o.0 0 ≡ slice_index_or (numbers (stands d.cells)) o.0 0
    → serial_of d'.cells o ≡ serial_of d.cells o
serial-same d d' o c e h k s n =
    let a : slice_index_or (stands d.cells) o.0 Hidden ≡ stand c
    = get_or_from_slice_get (stands d.cells) o.0 (stand c) Hidden (slice_get-map stand d.cells o.0 ∙ ap (λ y. option_map stand y) h) in
    let b : slice_index_or (stands d'.cells) o.0 Hidden ≡ stand e
    = get_or_from_slice_get (stands d'.cells) o.0 (stand e) Hidden (slice_get-map stand d'.cells o.0 ∙ ap (λ y. option_map stand y) k) in
    rw (a, b, n, s) refl

module _ (d d' : Data) (i : HasItsIds d)
    (m : (id : ObjId) (c : Cell) → is_of_membrane c.kind ≡ true
    → (cell_at d id ≡ Some c → cell_at d' id ≡ Some c) × (cell_at d' id ≡ Some c → cell_at d id ≡ Some c))
    (k : (id : ObjId) (c : Cell) → cell_at d id ≡ Some c → (e : Cell) × (cell_at d' id ≡ Some e) × KeepsCell d d' c e)
    (g : Grows d d') where
  forth : (id behind shadow : ObjId) (side : Side) → IsMembrane d id side behind shadow
      → IsMembrane d' id side behind shadow
  forth id behind shadow side h = record {
    cell = h.cell;
    there = (m id h.cell (ap is_of_membrane h.kind_is)).0 h.there;
    home_is = h.home_is;
    kind_is = h.kind_is;
  }

  back : (id behind shadow : ObjId) (side : Side) → IsMembrane d' id side behind shadow
      → IsMembrane d id side behind shadow
  back id behind shadow side h = record {
    cell = h.cell;
    there = (m id h.cell (ap is_of_membrane h.kind_is)).1 h.there;
    home_is = h.home_is;
    kind_is = h.kind_is;
  }

  behind-in : (id behind shadow : ObjId) (side : Side) → IsMembrane d id side behind shadow → ObjIn d behind
  behind-in id behind shadow side h =
      let c : CellIn d h.cell = All-at (CellIn d) d.cells id.0 h.cell h.there i.cells_in in
      let r : KindIn d (kind.Membrane behind shadow) = rw h.kind_is at c.kind_in in
      r.0

  has-proxy : (side : Side) (serial : ℕ) → HasProxyOf d side serial → HasProxyOf d' side serial
  has-proxy side serial h =
      let o : ObjIn d h.behind = behind-in h.id h.behind h.shadow side h.proxy in
      let t : (c : Cell) × (cell_at d h.behind ≡ Some c) = there d h.behind o in
      let r : (e : Cell) × (cell_at d' h.behind ≡ Some e) × KeepsCell d d' t.0 e = k h.behind t.0 t.1 in
      record {
        id = h.id;
        behind = h.behind;
        shadow = h.shadow;
        proxy = forth h.id h.behind h.shadow side h.proxy;
        number = serial-same d d' h.behind t.0 r.0 t.1 r.1 (stand-kept t.0.kind r.0.kind r.2.kind)
            (g.same_number h.behind o) ∙ h.number;
      }

  pub paired-from : Paired d → d'.entries ≡ d.entries → d'.joined ≡ d.joined → PairedFrom d d'
  paired-from p e u = record {
    paired = record {
      behind_is_object = λ id behind shadow side h.
          let b : IsMembrane d id side behind shadow = back id behind shadow side h in
          carried d d' (λ c. stand c ≡ Counted) (λ c. stand c ≡ Counted) k
          (λ c later r s. stand-kept c.kind later.kind r.kind ∙ s) behind (behind-in id behind shadow side b)
          (p.behind_is_object id behind shadow side b);
      one_for_an_object = λ id other behind s t side h q.
          p.one_for_an_object id other behind s t side (back id behind s side h) (back other behind t side q);
      one_for_a_shadow = λ id other a b shadow side h q.
          p.one_for_a_shadow id other a b shadow side (back id a shadow side h) (back other b shadow side q);
      proxy_of_entry = λ n.
          subst (λ (es : List Entry). All (λ (y : Entry). HasProxyOf d' y.side y.object) es) (sym e)
          (All-weaker (λ (y : Entry). HasProxyOf d y.side y.object) (λ (y : Entry). HasProxyOf d' y.side y.object)
          (λ y h. has-proxy y.side y.object h) d.entries (p.proxy_of_entry (sym u ∙ n)));
    };
    keeps = forth;
  }
