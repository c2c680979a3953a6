-- Worlds after one call that changes them at a home: what homes own, and what each world is kept.
use Rattle.mb_base.specs.declared.value.ObjId.{ObjId}
use Rattle.mb_base.specs.declared.value.Side.{Side}
use Rattle.mb_base.specs.declared.value.StrId.{StrId}
use Rattle.mb_base.specs.declared.value.Value.{Value}
use Rattle.mb_frames.proofs.Changing.{carried, of-cell-in, of-job-in, of-kind, of-scope-in, paired-from}
use Rattle.mb_frames.proofs.Owning.{ids-own, no-shadow, of-value}
use Rattle.mb_frames.proofs.Worlds.{kind-same}
use Rattle.mb_frames.specs.Wholeness.{KeepsCell, KeepsKind, KeptWorld, StaysOwn, cell_view, key_sort}
use Rattle.mb_view.proofs.Sorted.{sorted-refl}
use Rattle.mb_world.proofs.AfterCalls.{of-made}
use Rattle.mb_world.proofs.Grow.{All-at}
use Rattle.mb_world.proofs.Images.{full-grows, key-grows, map-same, value-grows}
use Rattle.mb_world.specs.Contained.{Contained, HasItsTwo, IsOfTable, IsOwn, Opposite, Paired, in_cell, in_full, in_job, in_kind, in_scope, in_value, is_shadow, numbered}
use Rattle.mb_world.specs.Data.{Data, cell_at, first_props, is_array, is_counted, kind_stand, made, new_cell, queue_of, same_side}
use Rattle.mb_world.specs.Formed.{is_of_membrane}
use Rattle.mb_world.specs.Grows.{Grows}
use Rattle.mb_world.specs.Ids.{CellIn, HasItsIds, JobIn, KindIn, PropertyIn, ScopeOf, ValueIn}
use Rattle.mb_world.specs.Image.{full_in, key_in, names_of}
use Rattle.mb_world.specs.Key.{PropertyKey, same_key}
use Rattle.mb_world.specs.Value.{Val}
use Rattle.mb_desc.specs.declared.descriptor.Full.{Full}
use Rattle.mb_world.specs.declared.cell.Cell.{Cell}
use Rattle.mb_world.specs.declared.cell.CellKind.{CellKind}
use Rattle.mb_world.specs.declared.cell.CellKind.TheVariants as kind
use Rattle.mb_world.specs.declared.scope.Job.{Job}
use Rattle.mb_world.specs.declared.scope.Scope.{Scope}
use Rattle.std.proofs.Common.{Bool, arith, List, Option, Some, [], ap, cond, false, inl, inr, not, refl, slice_get, sym, true, true≢false, zero, suc, ℕ, ◌++◌, ◌<◌, ◌∙◌, ◌∷◌, ◌≡◌, ◌⊎◌}
use Rattle.std.proofs.lemmas.Bool.Decides.{nat_tests}
use Rattle.std.proofs.lemmas.List.Elements.{All-append, All-cons, All-head, All-nil, All-tail}
use Rattle.std.specs.List.{filter, flat_map}
use Rattle.std.specs.Prelude.{All, slice_index_or}

-- ---- lists that take one more

pub same-side : (side : Side) → same_side side side ≡ true
same-side side = grind (arith, nat_tests)

pub at-first : {A : Type 0} (xs : List A) (x y : A) (n : ℕ) → slice_get xs n ≡ Some y
    → slice_get (xs ++ (x ∷ [])) n ≡ Some y
at-first [] x y n e = cc
at-first (z ∷ xs) x y zero e = e
at-first (z ∷ xs) x y (suc n) e = at-first xs x y n e

pub at-last : {A : Type 0} (xs : List A) (x y : A) (n : ℕ) → slice_get (xs ++ (x ∷ [])) n ≡ Some y
    → (slice_get xs n ≡ Some y) ⊎ (y ≡ x)
at-last [] x y zero e = inr cc
at-last [] x y (suc n) e = cc
at-last (z ∷ xs) x y zero e = inl e
at-last (z ∷ xs) x y (suc n) e = at-last xs x y n e

pub filter-last : {A : Type 0} (p : ℕ × A → Bool) (n : ℕ) (xs : List A) (x : A) → ((k : ℕ) → p (k, x) ≡ false)
    → filter p (numbered n (xs ++ (x ∷ []))) ≡ filter p (numbered n xs)
filter-last p n [] x h = rw (h n) refl
filter-last p n (y ∷ ys) x h =
    ap (λ zs. cond (p (n, y)) ((n, y) ∷ zs) zs) (filter-last p (suc n) ys x h)

pub queue-all : (P : Job → Type 0) (qs : List (List Job)) → All (All P) qs → (n : ℕ) → All P (slice_index_or qs n [])
queue-all P [] h n = All-nil P
queue-all P (q ∷ qs) h zero = All-head (All P) q qs h
queue-all P (q ∷ qs) h (suc n) = queue-all P qs (All-tail (All P) q qs h) n

-- ---- cells that stay as they were

view-grows : (d d' : Data) → Grows d d' → (c : Cell) → CellIn d c
    → cell_view (names_of d') c ≡ cell_view (names_of d) c
view-grows d d' g c h = rw (
  value-grows d d' g c.proto h.proto_in,
  map-same {B = PropertyKey × Full Val} (λ p. (key_in (names_of d') p.0, full_in (names_of d') p.1))
      (λ p. (key_in (names_of d) p.0, full_in (names_of d) p.1)) (PropertyIn d)
      (λ p i. rw (key-grows d d' g p.0 i.0, full-grows d d' g p.1 i.1) refl) c.props h.props_in,
) refl

pub still : (d d' : Data) → Grows d d' → (c : Cell) → CellIn d c → KeepsCell d d' c c
still d d' g c h = record {
  home = refl;
  label = refl;
  kind = kind-same c.kind;
  evolves = rw (view-grows d d' g c h) (sorted-refl same_key key_sort (cell_view (names_of d) c));
}

-- ---- what homes own

pub record CellOwn (d : Data) (c : Cell) : Type 0 where
  pub own : All (IsOwn d c.home) (in_cell c)
  pub two : HasItsTwo d c.home c.kind
  pub table : IsOfTable c.kind

shadow-stays : (k later : CellKind) → KeepsKind k later → is_shadow k ≡ true → is_shadow later ≡ true
shadow-stays kind.Plain later h s = absurd (true≢false (sym s))
shadow-stays kind.Array later h s = absurd (true≢false (sym s))
shadow-stays (kind.Function code) later h s = absurd (true≢false (sym s))
shadow-stays (kind.BuiltIn place) later h s = absurd (true≢false (sym s))
shadow-stays (kind.Fault e) later h s = absurd (true≢false (sym s))
shadow-stays (kind.Proxy target handler shape) later h s = absurd (true≢false (sym s))
shadow-stays (kind.Revoker proxy) later h s = absurd (true≢false (sym s))
shadow-stays (kind.Membrane behind shadow) later h s = absurd (true≢false (sym s))
shadow-stays (kind.Shadow shape) later h s = rw h s
shadow-stays (kind.Collection coll) later h s = absurd (true≢false (sym s))

module _ (d d' : Data)
    (k : (id : ObjId) (c : Cell) → cell_at d id ≡ Some c → (e : Cell) × (cell_at d' id ≡ Some e) × KeepsCell d d' c e) where
  pub owns : StaysOwn d d'
  owns side o i h = carried d d' (λ c. (c.home ≡ side) × (is_shadow c.kind ≡ false))
      (λ c. (c.home ≡ side) × (is_shadow c.kind ≡ false)) k
      (λ c e r q. (r.home ∙ q.0, no-shadow c.kind e.kind r.kind q.1)) o i h

  scope-owns : (s : Scope) → ScopeOf d s → All (IsOwn d s.home) (in_scope s) → All (IsOwn d' s.home) (in_scope s)
  scope-owns s i h = ids-own d d' owns s.home (in_scope s) (of-scope-in d s i) h

  pub scopes-own : HasItsIds d → Contained d → All (λ (s : Scope). All (IsOwn d' s.home) (in_scope s)) d.scopes
  scopes-own i h = λ n s l. scope-owns (slice_index_or d.scopes n s) (i.scopes_in n s l) (h.scopes_own n s l)

  pub jobs-own : HasItsIds d → Contained d → (side : Side) → side.0 < 8
      → All (λ (x : Job). All (IsOwn d' side) (in_job x)) (queue_of d side)
  jobs-own i h side u = λ n x l.
      ids-own d d' owns side (in_job (slice_index_or (queue_of d side) n x))
      (of-job-in d (slice_index_or (queue_of d side) n x) (queue-all (JobIn d) d.queues i.queues_in side.0 n x l))
      (h.jobs_own side u n x l)

  two-stays : (home : Side) (y : CellKind) → KindIn d y → HasItsTwo d home y → HasItsTwo d' home y
  two-stays home kind.Plain i h = h
  two-stays home kind.Array i h = h
  two-stays home (kind.Function code) i h = h
  two-stays home (kind.BuiltIn place) i h = h
  two-stays home (kind.Fault e) i h = h
  two-stays home (kind.Proxy target handler shape) i h = h
  two-stays home (kind.Revoker proxy) i h = h
  two-stays home (kind.Membrane behind shadow) i h = (
    carried d d' (λ c. (same_side c.home home ≡ false) × (is_shadow c.kind ≡ false))
        (λ c. (same_side c.home home ≡ false) × (is_shadow c.kind ≡ false)) k
        (λ c e r q. (ap (λ s. same_side s home) r.home ∙ q.0, no-shadow c.kind e.kind r.kind q.1)) behind i.0 h.0,
    carried d d' (λ c. (c.home ≡ home) × (is_shadow c.kind ≡ true))
        (λ c. (c.home ≡ home) × (is_shadow c.kind ≡ true)) k
        (λ c e r q. (r.home ∙ q.0, shadow-stays c.kind e.kind r.kind q.1)) shadow i.1 h.1,
  )
  two-stays home (kind.Shadow shape) i h = h
  two-stays home (kind.Collection coll) i h = h

  pub cell-owns : (c : Cell) → CellIn d c → CellOwn d c → CellOwn d' c
  cell-owns c i h = record {
    own = ids-own d d' owns c.home (in_cell c) (of-cell-in d c i) h.own;
    two = two-stays c.home c.kind i.kind_in h.two;
    table = h.table;
  }

  pub cells-own : HasItsIds d → Contained d → All (CellOwn d') d.cells
  cells-own i h = λ n c l. cell-owns (slice_index_or d.cells n c) (i.cells_in n c l) (record {
    own = h.cells_own n c l;
    two = h.two_of_proxies n c l;
    table = h.of_table n c l;
  })

-- ---- an object more

pub no-part : (k : CellKind) → is_counted (kind_stand k) ≡ true → is_of_membrane k ≡ false
no-part kind.Plain h = refl
no-part kind.Array h = refl
no-part (kind.Function code) h = refl
no-part (kind.BuiltIn place) h = refl
no-part (kind.Fault e) h = refl
no-part (kind.Proxy target handler shape) h = refl
no-part (kind.Revoker proxy) h = refl
no-part (kind.Membrane behind shadow) h = absurd (true≢false (sym h))
no-part (kind.Shadow shape) h = absurd (true≢false (sym h))
no-part (kind.Collection coll) h = refl

no-two : (d : Data) (home : Side) (k : CellKind) → is_counted (kind_stand k) ≡ true → HasItsTwo d home k × IsOfTable k
no-two d home kind.Plain h = (tt, tt)
no-two d home kind.Array h = (tt, tt)
no-two d home (kind.Function code) h = (tt, tt)
no-two d home (kind.BuiltIn place) h = absurd (true≢false (sym h))
no-two d home (kind.Fault e) h = (tt, tt)
no-two d home (kind.Proxy target handler shape) h = (tt, tt)
no-two d home (kind.Revoker proxy) h = (tt, tt)
no-two d home (kind.Membrane behind shadow) h = absurd (true≢false (sym h))
no-two d home (kind.Shadow shape) h = absurd (true≢false (sym h))
no-two d home (kind.Collection coll) h = (tt, tt)

pub no-built-in : (k : CellKind) (place : ℕ) → is_counted (kind_stand k) ≡ true → k ≡ kind.BuiltIn place → ⊥
no-built-in k place h e = true≢false (sym h ∙ ap (λ y. is_counted (kind_stand y)) e)

first-none : (b : Bool) (texts : List (List ℕ)) → flat_map (λ p. in_full p.1) (first_props b texts) ≡ []
first-none true texts = refl
first-none false texts = refl

module _ (home : Side) (d : Data) (k : CellKind) (proto : Value) (label : Option StrId) (i : HasItsIds d)
    (counted : is_counted (kind_stand k) ≡ true) where
  pub kept-cells : (id : ObjId) (c : Cell) → cell_at d id ≡ Some c
      → (e : Cell) × (cell_at (made d home k proto label) id ≡ Some e)
      × KeepsCell d (made d home k proto label) c e
  kept-cells id c e = (
    c,
    at-first d.cells (new_cell d.texts home k proto label) c id.0 e,
    still d (made d home k proto label) (of-made d home k proto label i counted).becomes.grows c
        (All-at (CellIn d) d.cells id.0 c e i.cells_in),
  )

  pub kept-parts : (id : ObjId) (c : Cell) → is_of_membrane c.kind ≡ true
      → (cell_at d id ≡ Some c → cell_at (made d home k proto label) id ≡ Some c)
      × (cell_at (made d home k proto label) id ≡ Some c → cell_at d id ≡ Some c)
  kept-parts id c m = (
    λ e. at-first d.cells (new_cell d.texts home k proto label) c id.0 e,
    λ e. elim (at-last d.cells (new_cell d.texts home k proto label) c id.0 e) [
      | inl r ↦ r
      | inr r ↦ absurd (true≢false (sym m ∙ ap (λ (y : Cell). is_of_membrane y.kind) r ∙ no-part k counted))
    ],
  )

  new-own : KindIn d k → ValueIn d proto → All (IsOwn d home) (in_kind k) → All (IsOwn d home) (in_value proto)
      → CellOwn (made d home k proto label) (new_cell d.texts home k proto label)
  new-own a b h p =
      let s : StaysOwn d (made d home k proto label) = owns d (made d home k proto label) kept-cells in
      let x : All (IsOwn (made d home k proto label) home) (in_kind k ++ in_value proto)
      = All-append (IsOwn (made d home k proto label) home) (in_kind k) (in_value proto)
      (ids-own d (made d home k proto label) s home (in_kind k) (of-kind d k a) h)
      (ids-own d (made d home k proto label) s home (in_value proto) (of-value d proto b) p) in
      record {
        own = All-append (IsOwn (made d home k proto label) home)
            (in_kind k ++ in_value proto ++ flat_map (λ y. in_full y.1) (first_props (is_array k) d.texts)) []
            (All-append (IsOwn (made d home k proto label) home) (in_kind k ++ in_value proto)
            (flat_map (λ y. in_full y.1) (first_props (is_array k) d.texts)) x
            (rw (first-none (is_array k) d.texts) (All-nil (IsOwn (made d home k proto label) home))))
            (All-nil (IsOwn (made d home k proto label) home));
        two = (no-two (made d home k proto label) home k counted).0;
        table = (no-two (made d home k proto label) home k counted).1;
      }

  one-place : Contained d → (a b : ObjId) (place : ℕ) (c e : Cell) → cell_at (made d home k proto label) a ≡ Some c
      → cell_at (made d home k proto label) b ≡ Some e → c.home ≡ e.home → c.kind ≡ kind.BuiltIn place
      → e.kind ≡ kind.BuiltIn place → a ≡ b
  one-place h a b place c e u v w p q = by
      (at-last d.cells (new_cell d.texts home k proto label) c a.0 u)
      (at-last d.cells (new_cell d.texts home k proto label) e b.0 v)
    where
      by : (slice_get d.cells a.0 ≡ Some c) ⊎ (c ≡ new_cell d.texts home k proto label)
          → (slice_get d.cells b.0 ≡ Some e) ⊎ (e ≡ new_cell d.texts home k proto label) → a ≡ b
      by (inl x) (inl y) = h.one_for_a_place a b place c e x y w p q
      by (inr x) y = absurd (no-built-in k place counted (sym (ap (λ (z : Cell). z.kind) x) ∙ p))
      by (inl x) (inr y) = absurd (no-built-in k place counted (sym (ap (λ (z : Cell). z.kind) y) ∙ q))

  made-contained : KindIn d k → ValueIn d proto → All (IsOwn d home) (in_kind k) → All (IsOwn d home) (in_value proto)
      → Contained d → Contained (made d home k proto label)
  made-contained a b h p c =
      let n : CellOwn (made d home k proto label) (new_cell d.texts home k proto label) = new-own a b h p in
      let all : All (CellOwn (made d home k proto label)) (d.cells ++ (new_cell d.texts home k proto label ∷ []))
      = All-append (CellOwn (made d home k proto label)) d.cells (new_cell d.texts home k proto label ∷ [])
      (cells-own d (made d home k proto label) kept-cells i c)
      (All-cons (CellOwn (made d home k proto label)) (new_cell d.texts home k proto label) [] n
      (All-nil (CellOwn (made d home k proto label)))) in
      record {
        cells_own = λ u v w. (all u v w).own;
        two_of_proxies = λ u v w. (all u v w).two;
        scopes_own = scopes-own d (made d home k proto label) kept-cells i c;
        jobs_own = jobs-own d (made d home k proto label) kept-cells i c;
        of_table = λ u v w. (all u v w).table;
        one_for_a_place = one-place c;
      }

  made-opposite : Opposite (made d home k proto label) home ≡ Opposite d home
  made-opposite = rw (filter-last (λ (p : ℕ × Cell). not (same_side p.1.home home)) 0 d.cells
      (new_cell d.texts home k proto label) (λ n. ap not (same-side home))) refl

  pub made-kept : KindIn d k → ValueIn d proto → All (IsOwn d home) (in_kind k) → All (IsOwn d home) (in_value proto)
      → Contained d → Paired d → KeptWorld home d (made d home k proto label)
  made-kept a b h p c r =
      let g : Grows d (made d home k proto label) = (of-made d home k proto label i counted).becomes.grows in
      record {
        contained = made-contained a b h p c;
        paired = paired-from d (made d home k proto label) i kept-parts kept-cells g r refl refl;
        rules = refl;
        entries = refl;
        revoked = refl;
        joined = refl;
        membrane = kept-parts;
        resolves = g;
        opposite = made-opposite;
        cells = kept-cells;
      }
