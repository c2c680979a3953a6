-- Worlds in which objects keep their kind: what was found stays found.
use Rattle.mb_base.specs.declared.value.ObjId.{ObjId}
use Rattle.mb_base.specs.declared.value.ScopeId.{ScopeId}
use Rattle.mb_base.specs.declared.value.Side.{Side}
use Rattle.mb_base.specs.declared.value.Value.{Value}
use Rattle.mb_frames.proofs.AfterCalls.{at-first, still}
use Rattle.mb_frames.proofs.Placed.{set-forth}
use Rattle.mb_frames.specs.Stepping.{Grew}
use Rattle.mb_ordinary.specs.Objects.{is_ordinary}
use Rattle.mb_frames.specs.Wholeness.{is_function_kind, IsCollectionAt, IsCollectionKind, IsConstructor, IsProxyAt, KeepsCell, KeepsKind, StaysFound}
use Rattle.mb_world.proofs.Grow.{All-at}
use Rattle.mb_world.proofs.Images.{things-grow, value-grows}
use Rattle.mb_world.specs.Contained.{IsMembrane, scope_home}
use Rattle.mb_world.specs.Data.{Data, cell_at}
use Rattle.mb_world.specs.Formed.{IsCallable}
use Rattle.mb_world.specs.Graph.{Kind, Thing}
use Rattle.mb_world.specs.Ids.{CellIn, HasItsIds, ObjIn, ValueIn}
use Rattle.mb_world.specs.Image.{Image, Resolve, names_of, object_in, things_in}
use Rattle.mb_world.specs.Objects.{is_proxy_kind, kind_calls, kind_constructs, shape_of_kind, thing_at, thing_is}
use Rattle.mb_world.specs.Value.{BuiltIn, Null, Object, Symbol, Text, Truth, Undefined, Val, Whole}
use Rattle.mb_world.specs.declared.cell.Cell.{Cell}
use Rattle.mb_world.specs.declared.cell.CellKind.{CellKind}
use Rattle.mb_world.specs.declared.cell.CellKind.TheVariants as kind
use Rattle.std.proofs.Common.{Bool, List, None, Option, Some, [], ap, arith, inl, inr, length, refl, slice_get, slice_set, subst, sym, true, true≢false, ℕ, ◌++◌, ◌∙◌, ◌∷◌, ◌≡◌, ◌≤◌}
use Rattle.std.specs.Prelude.{IsSomeAnd}

-- ---- things of one kind

-- another thing is a Proxy, is called, constructs, has a shape as this one does, and is a collection where this one is
pub record IsLike (t u : Thing) : Type 0 where
  pub proxy : is_proxy_kind u.kind ≡ is_proxy_kind t.kind
  pub calls : kind_calls u.kind ≡ kind_calls t.kind
  pub constructs : kind_constructs u.kind ≡ kind_constructs t.kind
  pub shape : shape_of_kind u.kind ≡ shape_of_kind t.kind
  pub collection : IsCollectionKind t.kind → IsCollectionKind u.kind

pub like-same : (t u : Thing) → u.kind ≡ t.kind → IsLike t u
like-same t u e = record {
  proxy = ap is_proxy_kind e;
  calls = ap kind_calls e;
  constructs = ap kind_constructs e;
  shape = ap shape_of_kind e;
  collection = λ h. subst IsCollectionKind (sym e) h;
}

-- each object that is there is there still, and of its kind
abbrev pub KeepsThings : Data → Data → Type 0
KeepsThings d d' = (x : Val) (t : Thing) → thing_at (Image d []) x ≡ Some t →
    (u : Thing) × (thing_at (Image d' []) x ≡ Some u) × IsLike t u

pub things-same : (d d' : Data) → (Image d' []).objects ≡ (Image d []).objects → KeepsThings d d'
things-same d d' e Undefined t h = (t, h, like-same t t refl)
things-same d d' e Null t h = (t, h, like-same t t refl)
things-same d d' e (Truth b) t h = (t, h, like-same t t refl)
things-same d d' e (Whole z) t h = (t, h, like-same t t refl)
things-same d d' e (Text units) t h = (t, h, like-same t t refl)
things-same d d' e (Symbol n) t h = (t, h, like-same t t refl)
things-same d d' e (Object n) t h = (t, ap (λ (os : List Thing). slice_get os n) e ∙ h, like-same t t refl)
things-same d d' e (BuiltIn place) t h = (t, h, like-same t t refl)

pub things-more : (d d' : Data) (u : Thing) → (Image d' []).objects ≡ (Image d []).objects ++ (u ∷ [])
    → KeepsThings d d'
things-more d d' u e Undefined t h = (t, h, like-same t t refl)
things-more d d' u e Null t h = (t, h, like-same t t refl)
things-more d d' u e (Truth b) t h = (t, h, like-same t t refl)
things-more d d' u e (Whole z) t h = (t, h, like-same t t refl)
things-more d d' u e (Text units) t h = (t, h, like-same t t refl)
things-more d d' u e (Symbol n) t h = (t, h, like-same t t refl)
things-more d d' u e (Object n) t h = (
  t,
  ap (λ (os : List Thing). slice_get os n) e ∙ at-first (Image d []).objects u t n h,
  like-same t t refl,
)
things-more d d' u e (BuiltIn place) t h = (t, h, like-same t t refl)

pub things-set : (d d' : Data) (n : ℕ) (t u : Thing) → (Image d' []).objects ≡ slice_set (Image d []).objects n u
    → slice_get (Image d []).objects n ≡ Some t → IsLike t u → KeepsThings d d'
things-set d d' n x y e g k Undefined t h = (t, h, like-same t t refl)
things-set d d' n x y e g k Null t h = (t, h, like-same t t refl)
things-set d d' n x y e g k (Truth b) t h = (t, h, like-same t t refl)
things-set d d' n x y e g k (Whole z) t h = (t, h, like-same t t refl)
things-set d d' n x y e g k (Text units) t h = (t, h, like-same t t refl)
things-set d d' n x y e g k (Symbol m) t h = (t, h, like-same t t refl)
things-set d d' n x y e g k (Object m) t h = elim (set-forth (Image d []).objects n x y m t g h) [
  | inl r ↦ (
    y,
    ap (λ (os : List Thing). slice_get os m) e ∙ r.1,
    subst (λ (w : Thing). IsLike w y) (sym r.0) k,
  )
  | inr r ↦ (t, ap (λ (os : List Thing). slice_get os m) e ∙ r, like-same t t refl)
]
things-set d d' n x y e g k (BuiltIn place) t h = (t, h, like-same t t refl)

-- ---- worlds that last

-- each cell and each object keeps its kind, and scopes their homes; rules and the flags are as they were, and no entry
-- is lost
pub record Lasts (d d' : Data) : Type 0 where
  pub grew : Grew d d'
  pub cells : (id : ObjId) (c : Cell) → cell_at d id ≡ Some c →
      (e : Cell) × (cell_at d' id ≡ Some e) × KeepsCell d d' c e
  pub things : KeepsThings d d'
  pub scopes : (id : ScopeId) (home : Side) → scope_home d id home → scope_home d' id home
  pub entries : length d.entries ≤ length d'.entries
  pub rules : d'.rules ≡ d.rules
  pub revoked : d'.revoked ≡ d.revoked

-- one in which the cells are the same
pub lasts-still : (d d' : Data) → HasItsIds d → Grew d d' → d'.cells ≡ d.cells
    → ((id : ScopeId) (home : Side) → scope_home d id home → scope_home d' id home) → d'.entries ≡ d.entries
    → d'.rules ≡ d.rules → d'.revoked ≡ d.revoked → Lasts d d'
lasts-still d d' i g e s n r v = record {
  grew = g;
  cells = λ id x h. (
    x,
    ap (λ (cs : List Cell). slice_get cs id.0) e ∙ h,
    still d d' g.grows x (All-at (CellIn d) d.cells id.0 x h i.cells_in),
  );
  things = things-same d d'
      (ap (λ (cs : List Cell). things_in (names_of d') cs) e ∙ things-grow d d' g.grows d.cells i.cells_in);
  scopes = s;
  entries = rw n (omega arith);
  rules = r;
  revoked = v;
}

-- ---- what was found

membrane-kept : (behind shadow : ObjId) (k later : CellKind) → KeepsKind k later → k ≡ kind.Membrane behind shadow
    → later ≡ kind.Membrane behind shadow
membrane-kept behind shadow k later h e = subst (λ (w : CellKind). KeepsKind w later) e h

array-kept : (k later : CellKind) → KeepsKind k later → k ≡ kind.Array → later ≡ kind.Array
array-kept k later h e = subst (λ (w : CellKind). KeepsKind w later) e h

plain-kept : (k later : CellKind) → KeepsKind k later → k ≡ kind.Plain → later ≡ kind.Plain
plain-kept k later h e = subst (λ (w : CellKind). KeepsKind w later) e h

-- but a Proxy an object keeps its kind
ordinary-kept : (k later : CellKind) → KeepsKind k later → is_ordinary k ≡ true → later ≡ k
ordinary-kept kind.Plain later h e = h
ordinary-kept kind.Array later h e = h
ordinary-kept (kind.Function code) later h e = h
ordinary-kept (kind.BuiltIn place) later h e = h
ordinary-kept (kind.Fault which) later h e = h
ordinary-kept (kind.Proxy target handler shape) later h e = absurd (true≢false (sym e))
ordinary-kept (kind.Revoker proxy) later h e = h
ordinary-kept (kind.Membrane behind shadow) later h e = absurd (true≢false (sym e))
ordinary-kept (kind.Shadow shape) later h e = h
ordinary-kept (kind.Collection coll) later h e = h

function-ordinary : (k : CellKind) → is_function_kind k ≡ true → is_ordinary k ≡ true
function-ordinary kind.Plain e = absurd (true≢false (sym e))
function-ordinary kind.Array e = absurd (true≢false (sym e))
function-ordinary (kind.Function code) e = refl
function-ordinary (kind.BuiltIn place) e = absurd (true≢false (sym e))
function-ordinary (kind.Fault which) e = absurd (true≢false (sym e))
function-ordinary (kind.Proxy target handler shape) e = absurd (true≢false (sym e))
function-ordinary (kind.Revoker proxy) e = refl
function-ordinary (kind.Membrane behind shadow) e = absurd (true≢false (sym e))
function-ordinary (kind.Shadow shape) e = absurd (true≢false (sym e))
function-ordinary (kind.Collection coll) e = absurd (true≢false (sym e))

module _ (d d' : Data) (l : Lasts d d') where
  -- what the cell of an id passes, if there is one, the later one passes
  pub some-cell : (P Q : Cell → Type 0) → ((c e : Cell) → KeepsCell d d' c e → P c → Q e) → (id : ObjId)
      → IsSomeAnd (cell_at d id) P → IsSomeAnd (cell_at d' id) Q
  some-cell P Q f id h = by (cell_at d id) refl h
    where
      by : (o : Option Cell) → cell_at d id ≡ o → IsSomeAnd o P → IsSomeAnd (cell_at d' id) Q
      by None e p = absurd p
      by (Some c) e p =
          let r : (x : Cell) × (cell_at d' id ≡ Some x) × KeepsCell d d' c x = l.cells id c e in
          rw r.1 (f c r.0 r.2 p)

  test-stays : (test : Kind → Bool) → ((t u : Thing) → IsLike t u → test u.kind ≡ test t.kind) → (x : Val)
      → thing_is test (thing_at (Image d []) x) ≡ true → thing_is test (thing_at (Image d' []) x) ≡ true
  test-stays test f x h = by (thing_at (Image d []) x) refl h
    where
      by : (o : Option Thing) → thing_at (Image d []) x ≡ o → thing_is test o ≡ true
          → thing_is test (thing_at (Image d' []) x) ≡ true
      by None e p = cc
      by (Some t) e p =
          let r : (u : Thing) × (thing_at (Image d' []) x ≡ Some u) × IsLike t u = l.things x t e in
          rw r.1 (f t r.0 r.2 ∙ p)

  pub callable-stays : (y : Value) → ValueIn d y → IsCallable d y → IsCallable d' y
  callable-stays y i h =
      rw (value-grows d d' l.grew.grows y i) (test-stays kind_calls (λ t u k. k.calls) (Resolve (names_of d) y) h)

  constructor-stays : (y : Value) → ValueIn d y → IsConstructor d y → IsConstructor d' y
  constructor-stays y i h =
      rw (value-grows d d' l.grew.grows y i)
      (test-stays kind_constructs (λ t u k. k.constructs) (Resolve (names_of d) y) h)

  collection-stays : (id : ObjId) → ObjIn d id → IsCollectionAt d id → IsCollectionAt d' id
  collection-stays id i h =
      let r : (u : Thing) × (thing_at (Image d' []) (object_in (names_of d) id) ≡ Some u) × IsLike h.0 u
      = l.things (object_in (names_of d) id) h.0 h.1 in
      (r.0, rw (l.grew.grows.same_object id i) r.1, r.2.collection h.2)

  proxy-stays : (id : ObjId) (home : Side) → IsProxyAt d home id → IsProxyAt d' home id
  proxy-stays id home h =
      let m : IsMembrane d id home h.0 h.1 = h.2 in
      let r : (x : Cell) × (cell_at d' id ≡ Some x) × KeepsCell d d' m.cell x = l.cells id m.cell m.there in (
        h.0,
        h.1,
        record {
          cell = r.0;
          there = r.1;
          home_is = r.2.home ∙ m.home_is;
          kind_is = membrane-kept h.0 h.1 m.cell.kind r.0.kind r.2.kind m.kind_is;
        },
      )

  pub lasting-found : StaysFound d d'
  lasting-found = record {
    grew = l.grew;
    callable = callable-stays;
    constructor = constructor-stays;
    functions = λ id h. some-cell (λ c. is_function_kind c.kind ≡ true) (λ c. is_function_kind c.kind ≡ true)
        (λ c e k p. rw (ordinary-kept c.kind e.kind k.kind (function-ordinary c.kind p)) p) id h;
    collection = collection-stays;
    arrays = λ id home h. some-cell (λ c. (c.home ≡ home) × (c.kind ≡ kind.Array))
        (λ c. (c.home ≡ home) × (c.kind ≡ kind.Array))
        (λ c e k p. (k.home ∙ p.0, array-kept c.kind e.kind k.kind p.1)) id h;
    plain = λ id home h. some-cell (λ c. (c.home ≡ home) × (c.kind ≡ kind.Plain))
        (λ c. (c.home ≡ home) × (c.kind ≡ kind.Plain))
        (λ c e k p. (k.home ∙ p.0, plain-kept c.kind e.kind k.kind p.1)) id h;
    scopes = λ id home i h. l.scopes id home h;
    entries = l.entries;
    proxies = proxy-stays;
  }
