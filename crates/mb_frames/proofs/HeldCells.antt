-- What stands in cells, scopes and jobs of a ready world may be held by their homes, and by all in a joined world.
use Rattle.mb_base.specs.declared.value.Key.{Key}
use Rattle.mb_base.specs.declared.value.ObjId.{ObjId}
use Rattle.mb_base.specs.declared.value.ScopeId.{ScopeId}
use Rattle.mb_base.specs.declared.value.Side.{Side}
use Rattle.mb_base.specs.declared.value.StrId.{StrId}
use Rattle.mb_base.specs.declared.value.Value.{Value}
use Rattle.mb_desc.specs.declared.descriptor.Full.{Full}
use Rattle.mb_frames.proofs.AfterCalls.{queue-all}
use Rattle.mb_frames.proofs.Parts.{each-part, left-part, right-part}
use Rattle.mb_frames.specs.Found.{HoldsCell, HoldsCode, HoldsJob, HoldsKind, HoldsScope}
use Rattle.mb_frames.specs.Held.{HeldFull, HeldKey, HeldObject, HeldScope, HeldValue}
use Rattle.mb_frames.specs.Ready.{HasItsConstant, IsReady, MayHold}
use Rattle.mb_world.proofs.Grow.{All-at}
use Rattle.mb_world.specs.Contained.{IsOwn, in_cell, in_full, in_id, in_job, in_kind, in_option, in_pair, in_scope, in_value, scope_home}
use Rattle.mb_world.specs.Data.{Data, cell_at, property_at, property_in, queue_of, scope_at}
use Rattle.mb_world.specs.Formed.{FormedCell, FormedScope, HasItsCallables, HasItsKind, InRange, IsCallable, IsFunction, full_values, job_values, kind_values, option_values, pair_values}
use Rattle.mb_world.specs.Ids.{CellIn, FullIn, JobIn, KindIn, Maybe, PairIn, RuleIn, RuleKindIn, ScopeOf, ValueIn}
use Rattle.mb_world.specs.declared.cell.Cell.{Cell}
use Rattle.mb_world.specs.declared.cell.CellKind.{CellKind}
use Rattle.mb_world.specs.declared.cell.CellKind.TheVariants as kind
use Rattle.mb_world.specs.declared.cell.Code.{Code}
use Rattle.mb_world.specs.declared.rule.Rule.{Rule}
use Rattle.mb_world.specs.declared.rule.RuleKind.TheVariants.{Substitute}
use Rattle.mb_world.specs.declared.scope.Job.{Job}
use Rattle.mb_world.specs.declared.scope.Job.TheVariants as j
use Rattle.mb_world.specs.declared.scope.Scope.{Scope}
use Rattle.std.proofs.Common.{Bool, List, None, Option, Some, [], ap, false, is_some, length, refl, slice_get, slice_index_or, subst, ℕ, ◌++◌, ◌<◌, ◌∷◌, ◌≡◌}
use Rattle.std.proofs.lemmas.List.Elements.{All-cons, All-head, All-nil, All-tail, All-weaker, recursion_from_All}
use Rattle.std.proofs.lemmas.Map.Entries.{All-lookup}
use Rattle.std.specs.List.{flat_map}
use Rattle.std.specs.Map.{lookup}
use Rattle.std.specs.Prelude.{All, IfSome}

-- ---- single things, from what is known of them

module _ (d : Data) (home : Side) where
  value-held : (x : Value) → ValueIn d x → InRange x → (d.joined ≡ false → All (IsOwn d home) (in_value x))
      → MayHold d home (HeldValue x)
  value-held x i r o = record { within = i; sound = r; own = o }

  object-held : (o : ObjId) → o.0 < length d.cells → (d.joined ≡ false → IsOwn d home o) → MayHold d home (HeldObject o)
  object-held o i h =
      record { within = i; sound = tt; own = λ u. All-cons (IsOwn d home) o [] (h u) (All-nil (IsOwn d home)) }

  option-held : (x : Option Value) → Maybe (ValueIn d) x → All InRange (option_values x)
      → (d.joined ≡ false → All (IsOwn d home) (in_option in_value x)) → Maybe (λ y. MayHold d home (HeldValue y)) x
  option-held None i r o = tt
  option-held (Some y) i r o = value-held y i (All-head InRange y [] r) o

  object-if-held : (x : Option ObjId) → Maybe (λ o. o.0 < length d.cells) x
      → (d.joined ≡ false → All (IsOwn d home) (in_option in_id x)) → Maybe (λ o. MayHold d home (HeldObject o)) x
  object-if-held None i h = tt
  object-if-held (Some o) i h = object-held o i (λ u. All-head (IsOwn d home) o [] (h u))

  full-held : (f : Full Value) → FullIn d f → HasItsCallables d f → All InRange (full_values f)
      → (d.joined ≡ false → All (IsOwn d home) (in_full f)) → MayHold d home (HeldFull f)
  full-held f i k r o = record {
    within = i;
    sound = record { callables = k; wholes = recursion_from_All InRange (full_values f) r };
    own = o;
  }

  pair-held : (x : Option (Value × Value)) → Maybe (PairIn d) x → All InRange (pair_values x)
      → (d.joined ≡ false → All (IsOwn d home) (in_option in_pair x))
      → Maybe (λ p. MayHold d home (HeldValue p.0) × MayHold d home (HeldValue p.1)) x
  pair-held None i r o = tt
  pair-held (Some p) i r o = (
    value-held p.0 i.0 (All-head InRange p.0 (p.1 ∷ []) r)
        (λ u. left-part (IsOwn d home) (in_value p.0) (in_value p.1) (o u)),
    value-held p.1 i.1 (All-head InRange p.1 [] (All-tail InRange p.0 (p.1 ∷ []) r))
        (λ u. right-part (IsOwn d home) (in_value p.0) (in_value p.1) (o u)),
  )

-- ---- cells

module _ (d : Data) (r : IsReady d) (id : ObjId) (c : Cell) (e : cell_at d id ≡ Some c) where
  its-ids : CellIn d c
  its-ids = All-at (CellIn d) d.cells id.0 c e r.ids.cells_in

  its-form : FormedCell d c
  its-form = All-at (FormedCell d) d.cells id.0 c e r.formed.cells

  pub code-held : (code : Code) → c.kind ≡ kind.Function code → HoldsCode d c.home code
  code-held code k =
      let f : IsFunction d c.home code = subst (HasItsKind d c.home) k its-form.kind in
      record {
        side = f.side_is;
        scope = record {
          within = (subst (KindIn d) k its-ids.kind_in).0;
          sound = rw f.side_is f.scope_is;
          own = λ u. All-nil (IsOwn d code.side);
        };
        node = record {
          within = tt;
          sound = rw f.side_is (ap is_some f.node_is);
          own = λ u. All-nil (IsOwn d code.side);
        };
      }

  module _ (home : Side) (h : d.joined ≡ false → c.home ≡ home) where
    abbrev front : List Value
    front = kind_values c.kind ++ (c.proto ∷ flat_map (λ p. full_values p.1) c.props)

    abbrev in-front : List ObjId
    in-front = in_kind c.kind ++ in_value c.proto

    its-own : d.joined ≡ false → All (IsOwn d home) (in_cell c)
    its-own u = subst (λ (side : Side). All (IsOwn d side) (in_cell c)) (h u)
        (All-at (λ (x : Cell). All (IsOwn d x.home) (in_cell x)) d.cells id.0 c e (r.contained u).cells_own)

    kind-held : (y : CellKind) → KindIn d y → All InRange (kind_values y)
        → (d.joined ≡ false → All (IsOwn d home) (in_kind y)) → HoldsKind d home y
    kind-held (kind.Function code) i w o = option-held d home code.bound_this i.1 w o
    kind-held (kind.Proxy target handler shape) i w o = (
      object-if-held d home target i.0 (λ u. left-part (IsOwn d home) (in_option in_id target) (in_option in_id handler) (o u)),
      object-if-held d home handler i.1
          (λ u. right-part (IsOwn d home) (in_option in_id target) (in_option in_id handler) (o u)),
    )
    kind-held (kind.Revoker proxy) i w o = object-held d home proxy i (λ u. All-head (IsOwn d home) proxy [] (o u))
    kind-held y i w o = tt

    front-wholes : All InRange front
    front-wholes = left-part InRange front (flat_map pair_values c.slots) its-form.wholes

    rest-wholes : All InRange (c.proto ∷ flat_map (λ p. full_values p.1) c.props)
    rest-wholes =
        right-part InRange (kind_values c.kind) (c.proto ∷ flat_map (λ p. full_values p.1) c.props) front-wholes

    full-wholes : All (λ p. All InRange (full_values p.1)) c.props
    full-wholes = each-part InRange (λ p. full_values p.1) c.props
        (All-tail InRange c.proto (flat_map (λ p. full_values p.1) c.props) rest-wholes)

    pair-wholes : All (λ p. All InRange (pair_values p)) c.slots
    pair-wholes = each-part InRange pair_values c.slots
        (right-part InRange front (flat_map pair_values c.slots) its-form.wholes)

    with-props : d.joined ≡ false → All (IsOwn d home) (in-front ++ flat_map (λ p. in_full p.1) c.props)
    with-props u = left-part (IsOwn d home) (in-front ++ flat_map (λ p. in_full p.1) c.props)
        (flat_map (in_option in_pair) c.slots) (its-own u)

    front-own : d.joined ≡ false → All (IsOwn d home) in-front
    front-own u = left-part (IsOwn d home) in-front (flat_map (λ p. in_full p.1) c.props) (with-props u)

    full-own : d.joined ≡ false → All (λ p. All (IsOwn d home) (in_full p.1)) c.props
    full-own u = each-part (IsOwn d home) (λ p. in_full p.1) c.props
        (right-part (IsOwn d home) in-front (flat_map (λ p. in_full p.1) c.props) (with-props u))

    pair-own : d.joined ≡ false → All (λ p. All (IsOwn d home) (in_option in_pair p)) c.slots
    pair-own u = each-part (IsOwn d home) (in_option in_pair) c.slots
        (right-part (IsOwn d home) (in-front ++ flat_map (λ p. in_full p.1) c.props)
        (flat_map (in_option in_pair) c.slots) (its-own u))

    properties-held : All (λ p. MayHold d home (HeldKey p.0) × MayHold d home (HeldFull p.1)) c.props
    properties-held = λ n x l. (
      record { within = (its-ids.props_in n x l).0; sound = tt; own = λ u. All-nil (IsOwn d home) },
      full-held d home (slice_index_or c.props n x).1 (its-ids.props_in n x l).1 (its-form.callables n x l)
          (full-wholes n x l) (λ u. full-own u n x l),
    )

    pub cell-held : HoldsCell d home c
    cell-held = record {
      kind = kind-held c.kind its-ids.kind_in
          (left-part InRange (kind_values c.kind) (c.proto ∷ flat_map (λ p. full_values p.1) c.props) front-wholes)
          (λ u. left-part (IsOwn d home) (in_kind c.kind) (in_value c.proto) (front-own u));
      prototype = record {
        within = its-ids.proto_in;
        sound = its-form.prototype;
        own = λ u. right-part (IsOwn d home) (in_kind c.kind) (in_value c.proto) (front-own u);
      };
      properties = properties-held;
      label = record { within = its-ids.label_in; sound = tt; own = λ u. All-nil (IsOwn d home) };
      slots = λ n x l. pair-held d home (slice_index_or c.slots n x) (its-ids.slots_in n x l) (pair-wholes n x l)
          (λ u. pair-own u n x l);
    }

-- an object that a home may hold is its own
pub reads-home : (d : Data) (home : Side) (id : ObjId) (c : Cell) → MayHold d home (HeldObject id)
    → cell_at d id ≡ Some c → d.joined ≡ false → c.home ≡ home
reads-home d home id c h e u = (rw e at (All-head (IsOwn d home) id [] (h.own u))).0

found-holds : {K X : Type 0} (P : X → Type 0) (test : K → Bool) (es : List (K × X)) (x : X) → lookup test es ≡ Some x
    → All (λ e. P e.1) es → P x
found-holds P test es x e h = subst (λ o. IfSome o P) e (All-lookup P test es h)

pub property-held : (d : Data) → IsReady d → (home : Side) (id : ObjId) (key : Key) (f : Full Value)
    → MayHold d home (HeldObject id) → property_at d id key ≡ Some f → MayHold d home (HeldFull f)
property-held d r home id key f h q = by (cell_at d id) refl q
  where
    by : (o : Option Cell) → cell_at d id ≡ o → property_in key o ≡ Some f → MayHold d home (HeldFull f)
    by None e p = cc
    by (Some c) e p =
        found-holds (λ x. MayHold d home (HeldFull x)) _ c.props f p
        (All-weaker (λ x. MayHold d home (HeldKey x.0) × MayHold d home (HeldFull x.1))
        (λ x. MayHold d home (HeldFull x.1)) (λ x k. k.1) c.props
        (cell-held d r id c e home (reads-home d home id c h e)).properties)

-- ---- scopes and jobs

module _ (d : Data) (r : IsReady d) where
  parent-held : (side : Side) (n : ℕ) (p : Option ScopeId) → Maybe (λ x. x.0 < length d.scopes) p
      → Maybe (λ x. (x.0 < n) × scope_home d x side) p → Maybe (λ x. MayHold d side (HeldScope x)) p
  parent-held side n None i h = tt
  parent-held side n (Some x) i h = record { within = i; sound = h.1; own = λ u. All-nil (IsOwn d side) }

  pub scope-held : (home : Side) (id : ScopeId) (s : Scope) → scope_at d id ≡ Some s
      → (d.joined ≡ false → s.home ≡ home) → HoldsScope d home s
  scope-held home id s e h =
      let i : ScopeOf d s = All-at (ScopeOf d) d.scopes id.0 s e r.ids.scopes_in in
      let f : FormedScope d id.0 s = r.formed.scopes id s e in
      let w : All (λ b. All InRange (option_values b.value)) s.names
      = each-part InRange (λ b. option_values b.value) s.names f.wholes in
      let o : d.joined ≡ false → All (λ b. All (IsOwn d home) (in_option in_value b.value)) s.names
      = λ u. each-part (IsOwn d home) (λ b. in_option in_value b.value) s.names
      (subst (λ (side : Side). All (IsOwn d side) (in_scope s)) (h u)
      (All-at (λ (x : Scope). All (IsOwn d x.home) (in_scope x)) d.scopes id.0 s e (r.contained u).scopes_own)) in
      record {
        names = λ n b l. (
          record { within = (i.names_in n b l).0; sound = tt; own = λ u. All-nil (IsOwn d home) },
          option-held d home (slice_index_or s.names n b).value (i.names_in n b l).1 (w n b l) (λ u. o u n b l),
        );
        parent = parent-held s.home id.0 s.parent i.parent_in f.parent;
      }

  job-held : (home : Side) (x : Job) → JobIn d x → All (IsCallable d) (job_values x)
      → (d.joined ≡ false → All (IsOwn d home) (in_job x)) → HoldsJob d home x
  job-held home j.Script i k o = tt
  job-held home (j.Call f) i k o = record { within = i; sound = All-head (IsCallable d) f [] k; own = o }

  pub jobs-held : (home : Side) → home.0 < 8 → All (HoldsJob d home) (queue_of d home)
  jobs-held home i = λ n x l.
      job-held home (slice_index_or (queue_of d home) n x) (queue-all (JobIn d) d.queues r.ids.queues_in home.0 n x l)
      (queue-all (λ (y : Job). All (IsCallable d) (job_values y)) d.queues r.formed.jobs home.0 n x l)
      (λ u. (r.contained u).jobs_own home i n x l)

  -- a rule's constant
  pub constant-held : (home : Side) (place : ℕ) (rule : Rule) (key : StrId) (value : Value)
      → slice_get d.rules place ≡ Some rule → rule.kind ≡ Substitute key value → MayHold d home (HeldValue value)
  constant-held home place rule key value e k =
      let i : RuleKindIn d (Substitute key value)
      = subst (RuleKindIn d) k (All-at (RuleIn d) d.rules place rule e r.ids.rules_in).1 in
      let c : HasItsConstant (Substitute key value)
      = subst HasItsConstant k (All-at (λ (x : Rule). HasItsConstant x.kind) d.rules place rule e r.constants) in
      value-held d home value i.1 c.1 (λ u. rw c.0 (All-nil (IsOwn d home)))
