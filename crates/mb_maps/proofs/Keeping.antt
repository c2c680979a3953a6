-- A world that is formed stays so where values cross, and values may cross in it.
use Rattle.std.proofs.Common.{◌≡◌, ◌≤◌, ◌<◌, ℕ, List, [], length, slice_get, get_or, Option, Some, None, Bool, false, is_some, refl, ap, sym, ◌∙◌, inl, inr, subst, arith, option_map, true≢false}
use Rattle.std.specs.Prelude.{All, position}
use Rattle.std.proofs.lemmas.Bool.{cases_lt}
use Rattle.std.proofs.lemmas.Option.{slice_get_cases, slice_get-get_or, get_or_from_slice_get}
use Rattle.std.proofs.lemmas.List.Elements.{All-head, All-cons, All-nil}
use Rattle.std.proofs.lemmas.List.Quantifiers.{position-Some}
use Rattle.mb_base.specs.declared.value.ObjId.{ObjId}
use Rattle.mb_base.specs.declared.value.Side.{Side}
use Rattle.mb_world.specs.declared.cell.Cell.{Cell}
use Rattle.mb_world.specs.declared.scope.Job.{Job}
use Rattle.mb_world.specs.declared.scope.Job.TheVariants as j
use Rattle.mb_world.specs.Graph as graph
use Rattle.mb_world.specs.Data.{Data, Script, cell_at, serves, built_in_of, obj_id}
use Rattle.mb_world.specs.Ids.{HasItsIds, CellIn, JobIn}
use Rattle.mb_world.specs.Contained.{IsOfTable}
use Rattle.mb_world.specs.Formed.{FormedBy, FormedCell, HasBuiltIn, IsCallable, as_standard, job_values}
use Rattle.mb_world.specs.Laws.{Becomes, same_graph}
use Rattle.mb_world.specs.declared.cell.CellKind.TheVariants.{BuiltIn}
use Rattle.mb_world.proofs.Grow.{All-at}
use Rattle.mb_world.proofs.Images.{thing-grows, rules-grow}
use Rattle.mb_maps.specs.Crossed.{IsAdded, KeepsCells}
use Rattle.mb_maps.specs.Laws.{FormedStays, FormedCanCross}
use Rattle.mb_maps.proofs.Lists.{position-there, position-at, same-some}
use Rattle.mb_maps.proofs.Forming.{callable-stays, formed-there}
use Rattle.mb_maps.proofs.Counterparts.{at-place-is}

-- ---- the first that passes is the same in a longer list

first-stays : {A : Type 0} (p : A → Bool) (xs ys : List A) → ((k : ℕ) (x : A) → slice_get xs k ≡ Some x → slice_get ys k ≡ Some x) → (n : ℕ) → position p xs ≡ Some n
    → position p ys ≡ Some n
first-stays p xs ys stay n e =
    let a = position-at p xs n e in
    let b = position-there p ys n a.0 (stay n a.0 a.1) a.2 in
    let c = position-at p ys b.0 b.1 in
    let one = position-Some p xs n a.0 e in
    let two = position-Some p ys b.0 a.0 b.1 in
    elim (cases_lt b.0 n) [
      | inl l ↦ absurd (
          let x = get_or xs b.0 a.0 in
          let within : b.0 < length xs = omega (arith, one.0, l) in
          let there : slice_get ys b.0 ≡ Some x = stay b.0 x (slice_get-get_or xs b.0 a.0 within) in
          let same : c.0 ≡ x = same-some (slice_get ys b.0) c.0 x c.1 there in
          true≢false (sym c.2 ∙ ap p same ∙ one.2 b.0 l))
      | inr l ↦ elim (cases_lt n b.0) [
        | inl k ↦ absurd (true≢false (sym a.2 ∙ ap p (sym (get_or_from_slice_get ys n a.0 a.0 (stay n a.0 a.1))) ∙ two.2 n k))
        | inr k ↦ (let same : b.0 ≡ n = omega (arith, l, k) in b.1 ∙ ap Some same)
      ]
    ]

built-in-stays : (joined : Bool) (xs ys : List Cell) → ((k : ℕ) (x : Cell) → slice_get xs k ≡ Some x → slice_get ys k ≡ Some x) → (side : Side) (place : ℕ) (id : ObjId)
    → built_in_of joined xs side place ≡ Some id → built_in_of joined ys side place ≡ Some id
built-in-stays joined xs ys stay side place id h = by (position (serves joined side place) xs) refl h
  where
    by : (o : Option ℕ) → position (serves joined side place) xs ≡ o → option_map obj_id o ≡ Some id → built_in_of joined ys side place ≡ Some id
    by None e k = cc
    by (Some n) e k = ap (option_map obj_id) (first-stays (serves joined side place) xs ys stay n e) ∙ k

-- ---- a formed world

All-each : {A : Type 0} (P : A → Type 0) (xs : List A) → ((k : ℕ) (x : A) → slice_get xs k ≡ Some x → P x) → All P xs
All-each P xs f k d l = f k (get_or xs k d) (slice_get-get_or xs k d l)

module _ (IsProgram : Script → Type 0) (AreRules : List graph.Rule → Type 0) (IsEntry : graph.Entry → Type 0) where
  module _ (a : Data) (cells : List Cell) (halts : Bool) where
    abbrev b : Data
    b = record a { cells = cells; halted = halts }

    module _ (stay : KeepsCells a b) (added : (id : ObjId) (c : Cell) → length a.cells ≤ id.0 → cell_at b id ≡ Some c → IsAdded a b c) (g : Becomes a b same_graph)
        (apart : a.joined ≡ false) (ids : HasItsIds a) (h : FormedBy IsProgram AreRules IsEntry a) where
      has-built-in : (side : Side) (place : ℕ) → HasBuiltIn a side place → HasBuiltIn b side place
      has-built-in side place x = record {
        id = x.id;
        cell = x.cell;
        found = built-in-stays a.joined a.cells cells (λ k c e. stay (obj_id k) c e) side place x.id x.found;
        there = stay x.id x.cell x.there;
        standard = ap (λ t. Some (as_standard t)) (thing-grows a b g.grows x.cell (All-at (CellIn a) a.cells x.id.0 x.cell x.there ids.cells_in)) ∙ x.standard;
      }

      cell-formed : (k : ℕ) (c : Cell) → slice_get cells k ≡ Some c → FormedCell b c
      cell-formed k c e = elim (slice_get_cases a.cells k).1 [
        | inl q ↦ (
            let same : q.0 ≡ c = same-some (slice_get cells k) q.0 c (stay (obj_id k) q.0 q.2) e in
            rw (sym same) (formed-there a cells halts stay g q.0 (All-at (CellIn a) a.cells k q.0 q.2 ids.cells_in) (All-at (FormedCell a) a.cells k q.0 q.2 h.cells)))
        | inr q ↦ (added (obj_id k) c q.0 e).formed
      ]

      job-stays : (x : Job) → JobIn a x → All (IsCallable a) (job_values x) → All (IsCallable b) (job_values x)
      job-stays j.Script i f = All-nil (IsCallable b)
      job-stays (j.Call y) i f = All-cons (IsCallable b) y [] (callable-stays a cells halts stay g y i (All-head (IsCallable a) y [] f)) (All-nil (IsCallable b))

      formed-more : FormedBy IsProgram AreRules IsEntry b
      formed-more = record {
        sides = h.sides;
        built_ins = λ side place l n. has-built-in side place (h.built_ins side place l n);
        programs = h.programs;
        rules = subst AreRules (sym (rules-grow a b g.grows a.rules ids.rules_in)) h.rules;
        joined = λ t. absurd (true≢false (sym t ∙ apart));
        cells = All-each (FormedCell b) cells cell-formed;
        scopes = λ id s e. let f = h.scopes id s e in record { home = f.home; wholes = f.wholes; parent = f.parent; distinct = f.distinct };
        jobs = λ n q l i x k. job-stays _ (ids.queues_in n q l i x k) (h.jobs n q l i x k);
        entries = λ place e i. let f = h.entries place e i in record { side = f.side; began = f.began; form = f.form };
      }

  pub formed-crossed : FormedStays IsProgram AreRules IsEntry
  formed-crossed d d' apart ids h c =
      let P = λ (x : Data). KeepsCells d x → ((id : ObjId) (y : Cell) → length d.cells ≤ id.0 → cell_at x id ≡ Some y → IsAdded d x y) → Becomes d x same_graph
      → FormedBy IsProgram AreRules IsEntry x in
      subst P (sym c.rest) (λ k n g. formed-more d d'.cells d'.halted k n g apart ids h) c.cells c.added c.becomes

  pub formed-can-cross : FormedCanCross IsProgram AreRules IsEntry
  formed-can-cross d apart h contained paired = record {
    sides = h.sides.1;
    contained = contained;
    paired = paired;
    built_ins = λ id c place side e s l.
        let k : c.kind ≡ BuiltIn place = at-place-is c.kind place s in
        let t : IsOfTable (BuiltIn place) = rw k at (All-at (λ (x : Cell). IsOfTable x.kind) d.cells id.0 c e contained.of_table) in
        let x : HasBuiltIn d side place = h.built_ins side place l t in
        ap is_some (ap (λ b. built_in_of b d.cells side place) (sym apart) ∙ x.found);
  }
