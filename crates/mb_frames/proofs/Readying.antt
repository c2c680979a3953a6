-- A ready world that lasts is ready: what is shared by all changes, and those that leave the cells.
use Rattle.mb_base.specs.declared.value.ObjId.{ObjId}
use Rattle.mb_base.specs.declared.value.ScopeId.{ScopeId}
use Rattle.mb_base.specs.declared.value.Side.{Side}
use Rattle.mb_base.specs.declared.value.StrId.{StrId}
use Rattle.mb_frames.proofs.AfterCalls.{at-first}
use Rattle.mb_frames.proofs.Errors.{stands-there}
use Rattle.mb_frames.proofs.Forming.{Found-same, Found-then}
use Rattle.mb_frames.proofs.Lasting.{Lasts, lasting-found, lasts-still}
use Rattle.mb_frames.proofs.Placed.{set-forth}
use Rattle.mb_frames.proofs.Scoped.{queue-kept, scope-kept, scope-set-kept, symbol-kept, text-kept}
use Rattle.mb_frames.proofs.StillFormed.{cells-stay, entry-stays, jobs-stay, scope-stays}
use Rattle.mb_frames.proofs.Worlds.{Kept-same, Kept-then}
use Rattle.mb_frames.specs.Grammatical.{IsProgram}
use Rattle.mb_frames.specs.Ready.{AnyEntry, AnyRules, Changed, IsReady}
use Rattle.mb_frames.specs.Wholeness.{KeptWorld}
use Rattle.mb_text.specs.Texts.{with_text}
use Rattle.mb_world.proofs.AfterCalls.{text}
use Rattle.mb_world.proofs.Grow.{All-at, Hold-grows, Hold-queues, Hold-scopes, Hold-symbols, JobIn-grows, Maybe-weaker, ScopeOf-grows, TextIn-grows}
use Rattle.mb_world.proofs.Images.{thing-grows}
use Rattle.mb_world.proofs.Making.{Grows-scope, Grows-symbol}
use Rattle.mb_world.proofs.Worlds.{Grows-queues, Grows-scopes}
use Rattle.mb_world.specs.declared.entry.Entry.{Entry}
use Rattle.mb_world.specs.Contained.{Contained, IsOwn, Paired, in_job, in_scope, scope_home}
use Rattle.mb_world.specs.Data.{AtPlace, Data, built_in_of, cell_at, scope_at, set_scope, stand, with_queue, with_scope, with_symbol, with_texts}
use Rattle.mb_world.specs.Formed.{FormedBy, FormedCell, FormedEntry, FormedScope, HasBuiltIn, IsCallable, as_standard, is_of_membrane, job_values}
use Rattle.mb_world.specs.Graph.{Thing}
use Rattle.mb_world.specs.Grows.{Grows}
use Rattle.mb_world.specs.Ids.{CellIn, HasItsIds, Hold, JobIn, Maybe, ScopeOf, TextIn}
use Rattle.mb_world.specs.declared.cell.Cell.{Cell}
use Rattle.mb_world.specs.declared.cell.CellKind.TheVariants as kind
use Rattle.mb_world.specs.declared.scope.Job.{Job}
use Rattle.mb_world.specs.declared.scope.Scope.{Scope}
use Rattle.std.proofs.Common.{List, None, Option, Some, [], ap, arith, false, inl, inr, length, refl, slice_get, slice_index_or, slice_set, suc, sym, true, zero, ℕ, ◌++◌, ◌∙◌, ◌∷◌, ◌≡◌, ◌⊎◌}
use Rattle.std.proofs.lemmas.List.Elements.{All-push, All-set, All-weaker}
use Rattle.std.specs.Prelude.{All, IsSomeAnd}

-- ---- what is shared

-- the built-ins are those of before
pub record KeepsBuiltIns (d d' : Data) : Type 0 where
  pub steady : (id : ObjId) (c : Cell) (place : ℕ) → cell_at d id ≡ Some c → stand c ≡ AtPlace place →
      cell_at d' id ≡ Some c
  pub first : (side : Side) (place : ℕ) (id : ObjId) → built_in_of d.joined d.cells side place ≡ Some id →
      built_in_of d'.joined d'.cells side place ≡ Some id
  pub back : (id : ObjId) (c : Cell) (place : ℕ) → cell_at d' id ≡ Some c → c.kind ≡ kind.BuiltIn place →
      (w : Cell) × (cell_at d id ≡ Some w) × (w.kind ≡ kind.BuiltIn place)

module _ (home : Side) (d d' : Data) (r : IsReady d) (l : Lasts d d') (b : KeepsBuiltIns d d') where
  has-built-in : (side : Side) (place : ℕ) → HasBuiltIn d side place → HasBuiltIn d' side place
  has-built-in side place h = record {
    id = h.id;
    cell = h.cell;
    found = b.first side place h.id h.found;
    there = b.steady h.id h.cell place h.there (stands-there d side place h.id h.cell h.found h.there);
    standard = ap (λ (t : Thing). Some (as_standard t))
        (thing-grows d d' l.grew.grows h.cell (All-at (CellIn d) d.cells h.id.0 h.cell h.there r.ids.cells_in))
        ∙ h.standard;
  }

  was-joined : {j : _} → d'.joined ≡ j → d.joined ≡ j
  was-joined u = sym l.grew.joined ∙ u

  pub formed-by : All (FormedCell d') d'.cells
      → (d.joined ≡ true → All (λ c. is_of_membrane c.kind ≡ false) d'.cells)
      → ((id : ScopeId) (s : Scope) → scope_at d' id ≡ Some s → FormedScope d' id.0 s)
      → All (All (λ x. All (IsCallable d') (job_values x))) d'.queues
      → ((place : ℕ) (e : Entry) → slice_get d'.entries place ≡ Some e → FormedEntry AnyEntry d' place e)
      → FormedBy IsProgram AnyRules AnyEntry d'
  formed-by cells parts scopes jobs entries = record {
    sides = rw l.grew.sides r.formed.sides;
    built_ins = λ side place i n.
        has-built-in side place (r.formed.built_ins side place (rw (← l.grew.sides) i) n);
    programs = rw l.grew.programs r.formed.programs;
    rules = tt;
    joined = λ u. record {
      two_sides = l.grew.sides ∙ (r.formed.joined (was-joined u)).two_sides;
      rules = l.rules ∙ (r.formed.joined (was-joined u)).rules;
      membrane = parts (was-joined u);
      revoked = l.revoked ∙ (r.formed.joined (was-joined u)).revoked;
    };
    cells = cells;
    scopes = scopes;
    jobs = jobs;
    entries = entries;
  }

  pub ready-still : FormedBy IsProgram AnyRules AnyEntry d' → HasItsIds d' → (d'.joined ≡ false → Contained d')
      → (d'.joined ≡ false → Paired d') → IsReady d'
  ready-still formed ids contained paired = record {
    formed = formed;
    ids = ids;
    one_built_in = λ u i k place c e p q v w.
        let x : (y : Cell) × (cell_at d i ≡ Some y) × (y.kind ≡ kind.BuiltIn place) = b.back i c place p v in
        let z : (y : Cell) × (cell_at d k ≡ Some y) × (y.kind ≡ kind.BuiltIn place) = b.back k e place q w in
        r.one_built_in (was-joined u) i k place x.0 z.0 x.1 z.1 x.2 z.2;
    of_table = λ i place c p v.
        let x : (y : Cell) × (cell_at d i ≡ Some y) × (y.kind ≡ kind.BuiltIn place) = b.back i c place p v in
        r.of_table i place x.0 x.1 x.2;
    constants = rw l.rules r.constants;
    contained = contained;
    paired = paired;
  }

  pub changed-by : d'.entries ≡ d.entries → All (FormedCell d') d'.cells
      → (d.joined ≡ true → All (λ c. is_of_membrane c.kind ≡ false) d'.cells)
      → ((id : ScopeId) (s : Scope) → scope_at d' id ≡ Some s → FormedScope d' id.0 s)
      → All (All (λ x. All (IsCallable d') (job_values x))) d'.queues → HasItsIds d'
      → (d.joined ≡ false → KeptWorld home d d') → Changed home d d'
  changed-by same cells parts scopes jobs ids kept = record {
    ready = ready-still
        (formed-by cells parts scopes jobs
        (λ place e h. entry-stays d d' r.ids l place e (r.formed.entries place e (rw (← same) h))))
        ids (λ u. (kept (was-joined u)).contained) (λ u. (kept (was-joined u)).paired.paired);
    found = lasting-found d d' l;
    rules = l.rules;
    entries = same;
    kept = kept;
  }

  -- scopes and jobs that are those of before
  pub scopes-stay : (id : ScopeId) (s : Scope) → scope_at d id ≡ Some s → FormedScope d' id.0 s
  scopes-stay id s e = scope-stays d d' r.ids l id.0 s (r.formed.scopes id s e)

  pub queues-stay : All (All (λ x. All (IsCallable d') (job_values x))) d.queues
  queues-stay = λ n q u.
      jobs-stay d d' r.ids l (slice_index_or d.queues n q) (r.ids.queues_in n q u) (r.formed.jobs n q u)

  pub all-grow : Hold d' d.symbols d.programs d.cells d.scopes d.queues d.rules d.entries
  all-grow =
      Hold-grows d d' l.grew.grows d.symbols d.programs d.cells d.scopes d.queues d.rules d.entries r.ids

-- ---- nothing changes, and two changes

pub changed-same : (home : Side) (d : Data) → IsReady d → Changed home d d
changed-same home d r = record {
  ready = r;
  found = Found-same d;
  rules = refl;
  entries = refl;
  kept = λ u. Kept-same home d (r.contained u) (r.paired u);
}

pub changed-then : (home : Side) (d1 d2 d3 : Data) → Changed home d1 d2 → Changed home d2 d3 → Changed home d1 d3
changed-then home d1 d2 d3 h k = record {
  ready = k.ready;
  found = Found-then d1 d2 d3 h.found k.found;
  rules = k.rules ∙ h.rules;
  entries = k.entries ∙ h.entries;
  kept = λ u. Kept-then home d1 d2 d3 (h.kept u) (k.kept (h.found.grew.joined ∙ u));
}

-- ---- changes that leave the cells

pub same-built-ins : (d d' : Data) → d'.cells ≡ d.cells → d'.joined ≡ d.joined → KeepsBuiltIns d d'
same-built-ins d d' e u = record {
  steady = λ id c place h s. ap (λ (cs : List Cell). slice_get cs id.0) e ∙ h;
  first = λ side place id h. rw (e, u) h;
  back = λ id c place h k. (c, ap (λ (cs : List Cell). slice_get cs id.0) (sym e) ∙ h, k);
}

pub at-end : {A : Type 0} (xs : List A) (x y : A) (n : ℕ) → slice_get (xs ++ (x ∷ [])) n ≡ Some y
    → (slice_get xs n ≡ Some y) ⊎ ((n ≡ length xs) × (y ≡ x))
at-end [] x y zero e = inr (refl, cc)
at-end [] x y (suc n) e = cc
at-end (z ∷ xs) x y zero e = inl e
at-end (z ∷ xs) x y (suc n) e = elim (at-end xs x y n e) [
  | inl r ↦ inl r
  | inr r ↦ inr (omega (arith, r.0), r.1)
]

at-set : {A : Type 0} (xs : List A) (k : ℕ) (x y : A) (n : ℕ) → slice_get (slice_set xs k x) n ≡ Some y
    → (slice_get xs n ≡ Some y) ⊎ ((n ≡ k) × (y ≡ x))
at-set [] k x y n e = inl e
at-set (z ∷ xs) zero x y zero e = inr (refl, cc)
at-set (z ∷ xs) zero x y (suc n) e = inl e
at-set (z ∷ xs) (suc k) x y zero e = inl e
at-set (z ∷ xs) (suc k) x y (suc n) e = elim (at-set xs k x y n e) [
  | inl r ↦ inl r
  | inr r ↦ inr (ap suc r.0, r.1)
]

some-scope : (d d' : Data) → ((id : ScopeId) (s : Scope) → scope_at d id ≡ Some s
    → (t : Scope) × (scope_at d' id ≡ Some t) × (t.home ≡ s.home)) → (id : ScopeId) (home : Side)
    → scope_home d id home → scope_home d' id home
some-scope d d' f id home h = by (scope_at d id) refl h
  where
    by : (o : Option Scope) → scope_at d id ≡ o → IsSomeAnd o (λ x. x.home ≡ home) → scope_home d' id home
    by None e p = absurd p
    by (Some s) e p =
        let r : (t : Scope) × (scope_at d' id ≡ Some t) × (t.home ≡ s.home) = f id s e in
        rw r.1 (r.2 ∙ p)

module _ (home : Side) (d : Data) (r : IsReady d) where
  no-parts : d.joined ≡ true → All (λ (c : Cell). is_of_membrane c.kind ≡ false) d.cells
  no-parts u = (r.formed.joined u).membrane

  pub text-changed : (t : List ℕ) → Changed home d (with_texts d (with_text d.texts t))
  text-changed t =
      let d' : Data = with_texts d (with_text d.texts t) in
      let g : Grows d d' = (text d t r.ids).grows in
      let l : Lasts d d' = lasts-still d d' r.ids (record { grows = g; programs = refl; sides = refl; joined = refl })
      refl (λ id home h. h) refl refl refl in
      let b : KeepsBuiltIns d d' = same-built-ins d d' refl refl in
      changed-by home d d' r l b refl (cells-stay d d' r l) no-parts (scopes-stay home d d' r l b)
      (queues-stay home d d' r l b) (all-grow home d d' r l b)
      (λ u. text-kept home d r.ids (r.contained u) (r.paired u) t)

  pub symbol-changed : (x : Option StrId) → Maybe (TextIn d) x → Changed home d (with_symbol d x)
  symbol-changed x h =
      let d' : Data = with_symbol d x in
      let g : Grows d d' = Grows-symbol d x in
      let l : Lasts d d' = lasts-still d d' r.ids (record { grows = g; programs = refl; sides = refl; joined = refl })
      refl (λ id home h. h) refl refl refl in
      let b : KeepsBuiltIns d d' = same-built-ins d d' refl refl in
      let o : Hold d' d.symbols d.programs d.cells d.scopes d.queues d.rules d.entries = all-grow home d d' r l b in
      changed-by home d d' r l b refl (cells-stay d d' r l) no-parts (scopes-stay home d d' r l b)
      (queues-stay home d d' r l b)
      (Hold-symbols d' d.symbols d.programs d.cells d.scopes d.queues d.rules d.entries o d'.symbols
      (All-push (Maybe (TextIn d')) d.symbols x o.symbols_in
      (Maybe-weaker (TextIn d) (TextIn d') (TextIn-grows d d' g) x h)))
      (λ u. symbol-kept home d r.ids (r.contained u) (r.paired u) x)

  pub scope-changed : (s : Scope) → s.home ≡ home → ScopeOf d s → FormedScope d (length d.scopes) s
      → (d.joined ≡ false → All (IsOwn d home) (in_scope s)) → Changed home d (with_scope d s)
  scope-changed s e n f own =
      let d' : Data = with_scope d s in
      let g : Grows d d' = Grows-scope d s in
      let l : Lasts d d' = lasts-still d d' r.ids (record { grows = g; programs = refl; sides = refl; joined = refl })
      refl (some-scope d d' (λ id x h. (x, at-first d.scopes s x id.0 h, refl))) refl refl refl in
      let b : KeepsBuiltIns d d' = same-built-ins d d' refl refl in
      let o : Hold d' d.symbols d.programs d.cells d.scopes d.queues d.rules d.entries = all-grow home d d' r l b in
      changed-by home d d' r l b refl (cells-stay d d' r l) no-parts
      (λ id x h. elim (at-end d.scopes s x id.0 h) [
        | inl p ↦ scopes-stay home d d' r l b id x p
        | inr p ↦ rw (p.0, p.1) (scope-stays d d' r.ids l (length d.scopes) s f)
      ])
      (queues-stay home d d' r l b)
      (Hold-scopes d' d.symbols d.programs d.cells d.scopes d.queues d.rules d.entries o d'.scopes
      (All-push (ScopeOf d') d.scopes s o.scopes_in (ScopeOf-grows d d' g s n)))
      (λ u. scope-kept home d r.ids (r.contained u) (r.paired u) s e (rw e (own u)))

  pub scope-written : (id : ScopeId) (s t : Scope) → scope_at d id ≡ Some s → s.home ≡ home → t.home ≡ home
      → ScopeOf d t → FormedScope d id.0 t → (d.joined ≡ false → All (IsOwn d home) (in_scope t))
      → Changed home d (set_scope d id t)
  scope-written id s t e h h' n f own =
      let d' : Data = set_scope d id t in
      let g : Grows d d' = Grows-scopes d id.0 t in
      let l : Lasts d d' = lasts-still d d' r.ids (record { grows = g; programs = refl; sides = refl; joined = refl })
      refl (some-scope d d' (λ k x u. elim (set-forth d.scopes id.0 s t k.0 x e u) [
        | inl p ↦ (t, p.1, h' ∙ sym h ∙ ap (λ (z : Scope). z.home) (sym p.0))
        | inr p ↦ (x, p, refl)
      ])) refl refl refl in
      let b : KeepsBuiltIns d d' = same-built-ins d d' refl refl in
      let o : Hold d' d.symbols d.programs d.cells d.scopes d.queues d.rules d.entries = all-grow home d d' r l b in
      changed-by home d d' r l b refl (cells-stay d d' r l) no-parts
      (λ k x u. elim (at-set d.scopes id.0 t x k.0 u) [
        | inl p ↦ scopes-stay home d d' r l b k x p
        | inr p ↦ rw (p.0, p.1) (scope-stays d d' r.ids l id.0 t f)
      ])
      (queues-stay home d d' r l b)
      (Hold-scopes d' d.symbols d.programs d.cells d.scopes d.queues d.rules d.entries o d'.scopes
      (All-set (ScopeOf d') d.scopes id.0 t (ScopeOf-grows d d' g t n) o.scopes_in))
      (λ u. scope-set-kept home d r.ids (r.contained u) (r.paired u) id s t e h h' (rw h' (own u)))

  pub queue-changed : (jobs : List Job) → All (JobIn d) jobs → All (λ x. All (IsCallable d) (job_values x)) jobs
      → (d.joined ≡ false → All (λ (x : Job). All (IsOwn d home) (in_job x)) jobs)
      → Changed home d (with_queue d home jobs)
  queue-changed jobs n f own =
      let d' : Data = with_queue d home jobs in
      let g : Grows d d' = Grows-queues d (slice_set d.queues home.0 jobs) in
      let l : Lasts d d' = lasts-still d d' r.ids (record { grows = g; programs = refl; sides = refl; joined = refl })
      refl (λ id home h. h) refl refl refl in
      let b : KeepsBuiltIns d d' = same-built-ins d d' refl refl in
      let o : Hold d' d.symbols d.programs d.cells d.scopes d.queues d.rules d.entries = all-grow home d d' r l b in
      changed-by home d d' r l b refl (cells-stay d d' r l) no-parts (scopes-stay home d d' r l b)
      (All-set (All (λ x. All (IsCallable d') (job_values x))) d.queues home.0 jobs (jobs-stay d d' r.ids l jobs n f)
      (queues-stay home d d' r l b))
      (Hold-queues d' d.symbols d.programs d.cells d.scopes d.queues d.rules d.entries o d'.queues
      (All-set (All (JobIn d')) d.queues home.0 jobs
      (All-weaker (JobIn d) (JobIn d') (JobIn-grows d d' g) jobs n) o.queues_in))
      (λ u. queue-kept home d r.ids (r.contained u) (r.paired u) jobs (own u))
