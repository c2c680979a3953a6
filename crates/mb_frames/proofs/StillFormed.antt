-- The parts of a formed world stay formed in one that lasts.
use Rattle.mb_base.specs.declared.value.Key.{Key}
use Rattle.mb_base.specs.declared.value.Key.TheVariants as k
use Rattle.mb_base.specs.declared.value.ObjId.{ObjId}
use Rattle.mb_base.specs.declared.value.ScopeId.{ScopeId}
use Rattle.mb_base.specs.declared.value.Side.{Side}
use Rattle.mb_base.specs.declared.value.Value.{Value}
use Rattle.mb_base.specs.declared.value.Value.TheVariants as v
use Rattle.mb_desc.specs.declared.descriptor.Full.{Full}
use Rattle.mb_desc.specs.declared.descriptor.Full.TheVariants.{Datum, Accessor}
use Rattle.mb_frames.proofs.Founding.{getter-stays}
use Rattle.mb_frames.proofs.Lasting.{IsLike, Lasts, callable-stays, lasting-found, some-cell}
use Rattle.mb_frames.proofs.Stack.{forms-grow}
use Rattle.mb_frames.specs.Ready.{AnyEntry, IsReady}
use Rattle.mb_frames.specs.Wholeness.{KeepsKind}
use Rattle.mb_world.proofs.AfterCalls.{thing-at}
use Rattle.mb_world.proofs.Grow.{All-at, Maybe-weaker}
use Rattle.mb_world.proofs.Images.{value-grows}
use Rattle.mb_world.specs.Contained.{scope_home}
use Rattle.mb_world.specs.Data.{Counted, Data, cell_at, is_counted, stand}
use Rattle.mb_world.specs.Form.{Form}
use Rattle.mb_world.specs.Formed.{FormedCell, FormedEntry, FormedScope, HasItsCallables, HasItsKind, HasItsSlots, HasLength, IsArray, IsCallable, IsProxyKind, function_of, is_of_membrane, job_values, same_pair_key, thing_of}
use Rattle.mb_world.specs.Graph.{Thing}
use Rattle.mb_world.specs.Ids.{CellIn, FullIn, HasItsIds, JobIn, KindIn, Maybe, ObjIn, PairIn, PropertyIn}
use Rattle.mb_world.specs.Image.{Image, names_of, object_in, thing_in}
use Rattle.mb_world.specs.Objects.{shape_of_thing, thing_at}
use Rattle.mb_world.specs.declared.cell.Cell.{Cell}
use Rattle.mb_world.specs.declared.cell.CellKind.{CellKind}
use Rattle.mb_world.specs.declared.cell.CellKind.TheVariants as kind
use Rattle.mb_world.specs.declared.entry.Entry.{Entry}
use Rattle.mb_world.specs.declared.scope.Job.{Job}
use Rattle.mb_world.specs.declared.scope.Job.TheVariants as j
use Rattle.mb_world.specs.declared.scope.Scope.{Scope}
use Rattle.std.proofs.Common.{Bool, List, None, Option, Some, [], ap, false, inl, inr, pos, refl, slice_get, slice_index_or, subst, sym, true, true≢false, ℕ, ◌<◌, ◌∙◌, ◌∷◌, ◌≡◌}
use Rattle.std.proofs.lemmas.List.Elements.{All-cons, All-head, All-nil, All-tail}
use Rattle.std.proofs.lemmas.Option.{slice_get-get_or}
use Rattle.std.specs.List.{AllByRecursion, IsDistinct}
use Rattle.std.specs.Prelude.{All, IsSomeAnd}

-- ---- lists

module _ {K : Type 0} (e e' : K → K → Bool) (P : K → Type 0) (f : (a b : K) → P a → P b → e' a b ≡ e a b) where
  apart-same : (x : K) → P x → (ys : List K) → All P ys → AllByRecursion (λ y. e x y ≡ false) ys
      → AllByRecursion (λ y. e' x y ≡ false) ys
  apart-same x p [] h q = tt
  apart-same x p (y ∷ ys) h q =
      (f x y p (All-head P y ys h) ∙ q.0, apart-same x p ys (All-tail P y ys h) q.1)

  distinct-same : (xs : List K) → All P xs → IsDistinct e xs → IsDistinct e' xs
  unfolding IsDistinct
  distinct-same [] h q = tt
  distinct-same (x ∷ xs) h q = (
    apart-same x (All-head P x xs h) xs (All-tail P x xs h) q.0,
    distinct-same xs (All-tail P x xs h) q.1,
  )

-- ---- what stands behind membrane proxies

-- what stands behind is an object of the graph
abbrev pub BehindCounted : Data → CellKind → Type 0
BehindCounted d (kind.Membrane behind shadow) = IsSomeAnd (cell_at d behind) (λ c. stand c ≡ Counted)
BehindCounted d other = Unit {0}

behind-by : (d : Data) (y : CellKind) → ((behind shadow : ObjId) → y ≡ kind.Membrane behind shadow →
    IsSomeAnd (cell_at d behind) (λ c. stand c ≡ Counted)) → BehindCounted d y
behind-by d kind.Plain f = tt
behind-by d kind.Array f = tt
behind-by d (kind.Function code) f = tt
behind-by d (kind.BuiltIn place) f = tt
behind-by d (kind.Fault fault) f = tt
behind-by d (kind.Proxy target handler shape) f = tt
behind-by d (kind.Revoker proxy) f = tt
behind-by d (kind.Membrane behind shadow) f = f behind shadow refl
behind-by d (kind.Shadow shape) f = tt
behind-by d (kind.Collection coll) f = tt

pub behind-none : (d : Data) (y : CellKind) → is_of_membrane y ≡ false → BehindCounted d y
behind-none d y h = behind-by d y (λ behind shadow e. absurd (true≢false (sym (ap is_of_membrane e) ∙ h)))

pub behind-counted : (d : Data) → IsReady d → (id : ObjId) (c : Cell) → cell_at d id ≡ Some c
    → BehindCounted d c.kind
behind-counted d r id c e = by d.joined refl
  where
    by : (b : Bool) → d.joined ≡ b → BehindCounted d c.kind
    by true u = behind-none d c.kind
        (All-at (λ (y : Cell). is_of_membrane y.kind ≡ false) d.cells id.0 c e (r.formed.joined u).membrane)
    by false u = behind-by d c.kind (λ behind shadow w.
        (r.paired u).behind_is_object id behind shadow c.home
        (record { cell = c; there = e; home_is = refl; kind_is = w }))

-- ---- cells

proxy-kept : (y later : CellKind) → KeepsKind y later → IsProxyKind y → IsProxyKind later
proxy-kept kind.Plain later h p = absurd p
proxy-kept kind.Array later h p = absurd p
proxy-kept (kind.Function code) later h p = absurd p
proxy-kept (kind.BuiltIn place) later h p = absurd p
proxy-kept (kind.Fault fault) later h p = absurd p
proxy-kept (kind.Proxy None handler shape) later h p = rw h tt
proxy-kept (kind.Proxy (Some target) handler shape) later h p = elim h [ inl r ↦ rw r tt | inr r ↦ rw r tt ]
proxy-kept (kind.Revoker proxy) later h p = absurd p
proxy-kept (kind.Membrane behind shadow) later h p = absurd p
proxy-kept (kind.Shadow shape) later h p = absurd p
proxy-kept (kind.Collection coll) later h p = absurd p

module _ (d d' : Data) (i : HasItsIds d) (l : Lasts d d') where
  some-thing : (P Q : Thing → Type 0) → ((t u : Thing) → IsLike t u → P t → Q u) → (id : ObjId) → ObjIn d id
      → IsSomeAnd (thing_of d id) P → IsSomeAnd (thing_of d' id) Q
  some-thing P Q f id n h = by (thing_of d id) refl h
    where
      by : (o : Option Thing) → thing_of d id ≡ o → IsSomeAnd o P → IsSomeAnd (thing_of d' id) Q
      by None e p = absurd p
      by (Some t) e p =
          let r : (u : Thing) × (thing_at (Image d' []) (object_in (names_of d) id) ≡ Some u) × IsLike t u
          = l.things (object_in (names_of d) id) t e in
          rw (l.grew.grows.same_object id n, r.1) (f t r.0 r.2 p)

  -- what stands behind a proxy keeps its shape
  shape-stays : (behind : ObjId) (c : Cell) → ObjIn d behind → cell_at d behind ≡ Some c → stand c ≡ Counted
      → shape_of_thing (thing_of d' behind) ≡ shape_of_thing (thing_of d behind)
  shape-stays behind c n e s =
      let t : thing_of d behind ≡ Some (thing_in (names_of d) c) = thing-at d behind c [] e (ap is_counted s) in
      let r : (u : Thing) × (thing_at (Image d' []) (object_in (names_of d) behind) ≡ Some u)
      × IsLike (thing_in (names_of d) c) u
      = l.things (object_in (names_of d) behind) (thing_in (names_of d) c) t in
      let o : thing_of d' behind ≡ Some r.0 = rw (l.grew.grows.same_object behind n) r.1 in
      ap shape_of_thing o ∙ r.2.shape ∙ sym (ap shape_of_thing t)

  behind-shape : (behind : ObjId) → ObjIn d behind → IsSomeAnd (cell_at d behind) (λ c. stand c ≡ Counted)
      → shape_of_thing (thing_of d' behind) ≡ shape_of_thing (thing_of d behind)
  behind-shape behind n h = by (cell_at d behind) refl h
    where
      by : (o : Option Cell) → cell_at d behind ≡ o → IsSomeAnd o (λ c. stand c ≡ Counted)
          → shape_of_thing (thing_of d' behind) ≡ shape_of_thing (thing_of d behind)
      by None e p = absurd p
      by (Some c) e p = shape-stays behind c n e p

  pub kind-stays : (home : Side) (y : CellKind) → KindIn d y → BehindCounted d y → HasItsKind d home y
      → HasItsKind d' home y
  kind-stays home kind.Plain n b h = h
  kind-stays home kind.Array n b h = h
  kind-stays home (kind.Function code) n b h = record {
    side_is = h.side_is;
    node_is = ap (λ (fs : List Form). function_of (slice_get fs code.node.0)) (forms-grow d d' i l.grew home)
        ∙ h.node_is;
    scope_is = l.scopes code.scope home h.scope_is;
  }
  kind-stays home (kind.BuiltIn place) n b h = h
  kind-stays home (kind.Fault fault) n b h = h
  kind-stays home (kind.Proxy (Some target) (Some handler) shape) n b h =
      some-thing _ _ (λ t u q p. (q.proxy ∙ p.0, q.shape ∙ p.1)) target n.0 h
  kind-stays home (kind.Proxy (Some target) None shape) n b h = absurd h
  kind-stays home (kind.Proxy None (Some handler) shape) n b h = absurd h
  kind-stays home (kind.Proxy None None shape) n b h = h
  kind-stays home (kind.Revoker proxy) n b h =
      some-cell d d' l (λ c. IsProxyKind c.kind) (λ c. IsProxyKind c.kind)
      (λ c e q p. proxy-kept c.kind e.kind q.kind p) proxy h
  kind-stays home (kind.Membrane behind shadow) n b h =
      some-cell d d' l (λ c. c.kind ≡ kind.Shadow (shape_of_thing (thing_of d behind)))
      (λ c. c.kind ≡ kind.Shadow (shape_of_thing (thing_of d' behind)))
      (λ c e q p. subst (λ (w : CellKind). KeepsKind w e.kind) p q.kind
      ∙ ap kind.Shadow (sym (behind-shape behind n.0 b))) shadow h
  kind-stays home (kind.Shadow shape) n b h = h
  kind-stays home (kind.Collection coll) n b h = h

  full-stays : (y : Full Value) → FullIn d y → HasItsCallables d y → HasItsCallables d' y
  full-stays (Datum x w e c) n h = h
  full-stays (Accessor x y e c) n h = (
    getter-stays d d' i (lasting-found d d' l) x n.0 h.0,
    getter-stays d d' i (lasting-found d d' l) y n.1 h.1,
  )

  length-stays : (ps : List (Key × Full Value)) → All (PropertyIn d) ps → HasLength d ps → HasLength d' ps
  length-stays [] n h = absurd h
  length-stays ((k.Text text index, Datum (v.Whole (pos m)) w false false) ∷ rest) n h =
      (l.grew.grows.same_text text (All-head (PropertyIn d) _ rest n).0.0 ∙ h.0, h.1, h.2)
  length-stays other n h = absurd h

  array-stays : (y : CellKind) (c : Cell) → All (PropertyIn d) c.props → IsArray d y c → IsArray d' y c
  array-stays kind.Plain c n h = h
  array-stays kind.Array c n h = (h.0, length-stays c.props n h.1)
  array-stays (kind.Function code) c n h = h
  array-stays (kind.BuiltIn place) c n h = h
  array-stays (kind.Fault fault) c n h = h
  array-stays (kind.Proxy target handler shape) c n h = h
  array-stays (kind.Revoker proxy) c n h = h
  array-stays (kind.Membrane behind shadow) c n h = h
  array-stays (kind.Shadow shape) c n h = h
  array-stays (kind.Collection coll) c n h = h

  pair-same : (a b : Option (Value × Value)) → Maybe (PairIn d) a → Maybe (PairIn d) b
      → same_pair_key d' a b ≡ same_pair_key d a b
  pair-same None b n m = refl
  pair-same (Some a) None n m = refl
  pair-same (Some a) (Some b) n m =
      rw (value-grows d d' l.grew.grows a.0 n.0, value-grows d d' l.grew.grows b.0 m.0) refl

  slots-stay : (y : CellKind) (c : Cell) → All (Maybe (PairIn d)) c.slots → HasItsSlots d y c → HasItsSlots d' y c
  slots-stay kind.Plain c n h = h
  slots-stay kind.Array c n h = h
  slots-stay (kind.Function code) c n h = h
  slots-stay (kind.BuiltIn place) c n h = h
  slots-stay (kind.Fault fault) c n h = h
  slots-stay (kind.Proxy target handler shape) c n h = h
  slots-stay (kind.Revoker proxy) c n h = h
  slots-stay (kind.Membrane behind shadow) c n h = h
  slots-stay (kind.Shadow shape) c n h = h
  slots-stay (kind.Collection coll) c n h =
      distinct-same (same_pair_key d) (same_pair_key d') (Maybe (PairIn d)) pair-same c.slots n h

  pub cell-stays : (c : Cell) → CellIn d c → BehindCounted d c.kind → FormedCell d c → FormedCell d' c
  cell-stays c n b h = record {
    home = rw l.grew.sides h.home;
    wholes = h.wholes;
    prototype = h.prototype;
    callables = λ m p u.
        full-stays (slice_index_or c.props m p).1 (n.props_in m p u).1 (h.callables m p u);
    array = array-stays c.kind c n.props_in h.array;
    slots = slots-stay c.kind c n.slots_in h.slots;
    kind = kind-stays c.home c.kind n.kind_in b h.kind;
  }

  -- ---- scopes, jobs, entries

  pub scope-stays : (id : ℕ) (s : Scope) → FormedScope d id s → FormedScope d' id s
  scope-stays id s h = record {
    home = rw l.grew.sides h.home;
    wholes = h.wholes;
    parent = Maybe-weaker (λ (p : ScopeId). (p.0 < id) × scope_home d p s.home)
        (λ (p : ScopeId). (p.0 < id) × scope_home d' p s.home)
        (λ p q. (q.0, l.scopes p s.home q.1)) s.parent h.parent;
    distinct = h.distinct;
  }

  job-stays : (y : Job) → JobIn d y → All (IsCallable d) (job_values y) → All (IsCallable d') (job_values y)
  job-stays j.Script n h = All-nil (IsCallable d')
  job-stays (j.Call f) n h = All-cons (IsCallable d') f []
      (callable-stays d d' l f n (All-head (IsCallable d) f [] h)) (All-nil (IsCallable d'))

  pub jobs-stay : (ys : List Job) → All (JobIn d) ys → All (λ x. All (IsCallable d) (job_values x)) ys
      → All (λ x. All (IsCallable d') (job_values x)) ys
  jobs-stay ys n h = λ m x u. job-stays (slice_index_or ys m x) (n m x u) (h m x u)

  pub entry-stays : (place : ℕ) (y : Entry) → FormedEntry AnyEntry d place y → FormedEntry AnyEntry d' place y
  entry-stays place y h = record { side = rw l.grew.sides h.side; began = h.began; form = tt }

-- the cells of a ready world
pub cells-stay : (d d' : Data) → IsReady d → Lasts d d' → All (FormedCell d') d.cells
cells-stay d d' r l = λ n x u.
    cell-stays d d' r.ids l (slice_index_or d.cells n x) (r.ids.cells_in n x u)
    (behind-counted d r (record { 0 = n }) (slice_index_or d.cells n x) (slice_get-get_or d.cells n x u))
    (r.formed.cells n x u)
