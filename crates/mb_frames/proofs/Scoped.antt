-- Worlds after calls that leave their cells: a text, a scope, a changed scope, and the jobs of a side.
use Rattle.mb_base.specs.declared.value.ObjId.{ObjId}
use Rattle.mb_base.specs.declared.value.ScopeId.{ScopeId}
use Rattle.mb_base.specs.declared.value.StrId.{StrId}
use Rattle.mb_base.specs.declared.value.Side.{Side}
use Rattle.mb_frames.proofs.AfterCalls.{filter-last, same-side, still}
use Rattle.mb_frames.proofs.Changing.{paired-from}
use Rattle.mb_frames.specs.Wholeness.{KeepsCell, KeptWorld}
use Rattle.mb_text.specs.Texts.{with_text}
use Rattle.mb_world.proofs.AfterCalls.{text}
use Rattle.mb_world.proofs.Grow.{All-at}
use Rattle.mb_world.proofs.Making.{Grows-scope, Grows-symbol}
use Rattle.mb_world.proofs.Worlds.{Grows-queues, Grows-scopes}
use Rattle.mb_world.specs.Contained.{Contained, IsOwn, Paired, in_job, in_scope, numbered}
use Rattle.mb_world.specs.Data.{Data, cell_at, same_side, scope_at, set_scope, with_queue, with_scope, with_symbol, with_texts}
use Rattle.mb_world.specs.Grows.{Grows}
use Rattle.mb_world.specs.Ids.{CellIn, HasItsIds}
use Rattle.mb_world.specs.declared.cell.Cell.{Cell}
use Rattle.mb_world.specs.declared.scope.Job.{Job}
use Rattle.mb_world.specs.declared.scope.Scope.{Scope}
use Rattle.std.proofs.Common.{Bool, List, Option, Some, [], ap, arith, cond, false, nat_eq, not, refl, slice_get, slice_set, subst, sym, zero, suc, ℕ, ◌+◌, ◌∙◌, ◌∷◌, ◌≡◌}
use Rattle.std.proofs.lemmas.Bool.Decides.{nat_tests}
use Rattle.std.proofs.lemmas.List.Elements.{All-push, All-set}
use Rattle.std.specs.List.{filter}
use Rattle.std.specs.Prelude.{All, slice_index_or}

-- ---- lists in which one changed

pub filter-set : {A : Type 0} (p : ℕ × A → Bool) (n : ℕ) (xs : List A) (i : ℕ) (x y : A) → slice_get xs i ≡ Some x
    → ((k : ℕ) → p (k, x) ≡ false) → ((k : ℕ) → p (k, y) ≡ false)
    → filter p (numbered n (slice_set xs i y)) ≡ filter p (numbered n xs)
filter-set p n [] i x y e h k = refl
filter-set p n (z ∷ xs) zero x y e h k =
    let r : z ≡ x = cc in
    let q : p (n, z) ≡ false = ap (λ u. p (n, u)) r ∙ h n in
    rw (k n, q) refl
filter-set p n (z ∷ xs) (suc i) x y e h k =
    ap (λ zs. cond (p (n, z)) ((n, z) ∷ zs) zs) (filter-set p (suc n) xs i x y e h k)

filter-at : {A : Type 0} (side : ℕ) (n : ℕ) (xs : List A) (i : ℕ) (y : A) → n + i ≡ side
    → filter (λ (p : ℕ × A). not (nat_eq p.0 side)) (numbered n (slice_set xs i y))
    ≡ filter (λ (p : ℕ × A). not (nat_eq p.0 side)) (numbered n xs)
filter-at side n [] i y e = refl
filter-at side n (z ∷ xs) zero y e =
    let q : not (nat_eq n side) ≡ false = grind (arith, nat_tests) in
    rw q refl
filter-at side n (z ∷ xs) (suc i) y e =
    ap (λ zs. cond (not (nat_eq n side)) ((n, z) ∷ zs) zs) (filter-at side (suc n) xs i y (omega (arith, e)))

job-set : (P : Job → Type 0) (qs : List (List Job)) (k : ℕ) (jobs : List Job) (n : ℕ) → (n ≡ k → All P jobs)
    → All P (slice_index_or qs n []) → All P (slice_index_or (slice_set qs k jobs) n [])
job-set P [] k jobs n h q = q
job-set P (y ∷ ys) zero jobs zero h q = h refl
job-set P (y ∷ ys) (suc k) jobs zero h q = q
job-set P (y ∷ ys) zero jobs (suc n) h q = q
job-set P (y ∷ ys) (suc k) jobs (suc n) h q = job-set P ys k jobs n (λ e. h (ap suc e)) q

-- ---- worlds

module _ (home : Side) (d : Data) (i : HasItsIds d) (c : Contained d) (p : Paired d) where
  pub text-kept : (t : List ℕ) → KeptWorld home d (with_texts d (with_text d.texts t))
  text-kept t =
      let g : Grows d (with_texts d (with_text d.texts t)) = (text d t i).grows in
      let k : (id : ObjId) (x : Cell) → cell_at d id ≡ Some x
      → (e : Cell) × (cell_at (with_texts d (with_text d.texts t)) id ≡ Some e)
      × KeepsCell d (with_texts d (with_text d.texts t)) x e
      = λ id x e. (x, e, still d (with_texts d (with_text d.texts t)) g x (All-at (CellIn d) d.cells id.0 x e i.cells_in))
      in
      record {
        contained = record {
          cells_own = c.cells_own;
          two_of_proxies = c.two_of_proxies;
          scopes_own = c.scopes_own;
          jobs_own = c.jobs_own;
          of_table = c.of_table;
          one_for_a_place = c.one_for_a_place;
        };
        paired = paired-from d (with_texts d (with_text d.texts t)) i (λ id x m. (λ e. e, λ e. e)) k g p refl refl;
        rules = refl;
        entries = refl;
        revoked = refl;
        joined = refl;
        membrane = λ id x m. (λ e. e, λ e. e);
        resolves = g;
        opposite = refl;
        cells = k;
      }

  pub symbol-kept : (t : Option StrId) → KeptWorld home d (with_symbol d t)
  symbol-kept t =
      let g : Grows d (with_symbol d t) = Grows-symbol d t in
      let k : (id : ObjId) (x : Cell) → cell_at d id ≡ Some x
      → (e : Cell) × (cell_at (with_symbol d t) id ≡ Some e) × KeepsCell d (with_symbol d t) x e
      = λ id x e. (x, e, still d (with_symbol d t) g x (All-at (CellIn d) d.cells id.0 x e i.cells_in)) in
      record {
        contained = record {
          cells_own = c.cells_own;
          two_of_proxies = c.two_of_proxies;
          scopes_own = c.scopes_own;
          jobs_own = c.jobs_own;
          of_table = c.of_table;
          one_for_a_place = c.one_for_a_place;
        };
        paired = paired-from d (with_symbol d t) i (λ id x m. (λ e. e, λ e. e)) k g p refl refl;
        rules = refl;
        entries = refl;
        revoked = refl;
        joined = refl;
        membrane = λ id x m. (λ e. e, λ e. e);
        resolves = g;
        opposite = refl;
        cells = k;
      }

  pub scope-kept : (s : Scope) → s.home ≡ home → All (IsOwn d s.home) (in_scope s) → KeptWorld home d (with_scope d s)
  scope-kept s h o =
      let g : Grows d (with_scope d s) = Grows-scope d s in
      let k : (id : ObjId) (x : Cell) → cell_at d id ≡ Some x
      → (e : Cell) × (cell_at (with_scope d s) id ≡ Some e) × KeepsCell d (with_scope d s) x e
      = λ id x e. (x, e, still d (with_scope d s) g x (All-at (CellIn d) d.cells id.0 x e i.cells_in)) in
      record {
        contained = record {
          cells_own = c.cells_own;
          two_of_proxies = c.two_of_proxies;
          scopes_own = All-push (λ (y : Scope). All (IsOwn d y.home) (in_scope y)) d.scopes s c.scopes_own o;
          jobs_own = c.jobs_own;
          of_table = c.of_table;
          one_for_a_place = c.one_for_a_place;
        };
        paired = paired-from d (with_scope d s) i (λ id x m. (λ e. e, λ e. e)) k g p refl refl;
        rules = refl;
        entries = refl;
        revoked = refl;
        joined = refl;
        membrane = λ id x m. (λ e. e, λ e. e);
        resolves = g;
        opposite = rw (filter-last (λ (y : ℕ × Scope). not (same_side y.1.home home)) 0 d.scopes s
            (λ n. rw h (ap not (same-side home)))) refl;
        cells = k;
      }

  pub scope-set-kept : (id : ScopeId) (s s' : Scope) → scope_at d id ≡ Some s → s.home ≡ home → s'.home ≡ home
      → All (IsOwn d s'.home) (in_scope s') → KeptWorld home d (set_scope d id s')
  scope-set-kept id s s' e h h' o =
      let g : Grows d (set_scope d id s') = Grows-scopes d id.0 s' in
      let k : (n : ObjId) (x : Cell) → cell_at d n ≡ Some x
      → (z : Cell) × (cell_at (set_scope d id s') n ≡ Some z) × KeepsCell d (set_scope d id s') x z
      = λ n x u. (x, u, still d (set_scope d id s') g x (All-at (CellIn d) d.cells n.0 x u i.cells_in)) in
      record {
        contained = record {
          cells_own = c.cells_own;
          two_of_proxies = c.two_of_proxies;
          scopes_own = All-set (λ (y : Scope). All (IsOwn d y.home) (in_scope y)) d.scopes id.0 s' o c.scopes_own;
          jobs_own = c.jobs_own;
          of_table = c.of_table;
          one_for_a_place = c.one_for_a_place;
        };
        paired = paired-from d (set_scope d id s') i (λ n x m. (λ u. u, λ u. u)) k g p refl refl;
        rules = refl;
        entries = refl;
        revoked = refl;
        joined = refl;
        membrane = λ n x m. (λ u. u, λ u. u);
        resolves = g;
        opposite = rw (filter-set (λ (y : ℕ × Scope). not (same_side y.1.home home)) 0 d.scopes id.0 s s' e
            (λ n. rw h (ap not (same-side home))) (λ n. rw h' (ap not (same-side home)))) refl;
        cells = k;
      }

  pub queue-kept : (jobs : List Job) → All (λ (x : Job). All (IsOwn d home) (in_job x)) jobs
      → KeptWorld home d (with_queue d home jobs)
  queue-kept jobs o =
      let g : Grows d (with_queue d home jobs) = Grows-queues d (slice_set d.queues home.0 jobs) in
      let k : (n : ObjId) (x : Cell) → cell_at d n ≡ Some x
      → (z : Cell) × (cell_at (with_queue d home jobs) n ≡ Some z) × KeepsCell d (with_queue d home jobs) x z
      = λ n x u. (x, u, still d (with_queue d home jobs) g x (All-at (CellIn d) d.cells n.0 x u i.cells_in)) in
      record {
        contained = record {
          cells_own = c.cells_own;
          two_of_proxies = c.two_of_proxies;
          scopes_own = c.scopes_own;
          jobs_own = λ side l. job-set (λ (x : Job). All (IsOwn d side) (in_job x)) d.queues home.0 jobs side.0
              (λ e. subst (λ (s : Side). All (λ (x : Job). All (IsOwn d s) (in_job x)) jobs)
              (ap (λ (n : ℕ). record { 0 = n }) (sym e)) o)
              (c.jobs_own side l);
          of_table = c.of_table;
          one_for_a_place = c.one_for_a_place;
        };
        paired = paired-from d (with_queue d home jobs) i (λ n x m. (λ u. u, λ u. u)) k g p refl refl;
        rules = refl;
        entries = refl;
        revoked = refl;
        joined = refl;
        membrane = λ n x m. (λ u. u, λ u. u);
        resolves = g;
        opposite = rw (filter-at home.0 0 d.queues home.0 jobs (omega arith)) refl;
        cells = k;
      }
