-- Sides see in formed worlds, and these stay so where a shadow follows.
use Rattle.std.proofs.Common.{◌≡◌, ◌≢◌, ℕ, List, [], Bool, Some, true, false, refl, ap, sym, ◌∙◌, subst, true≢false}
use Rattle.std.specs.Prelude.{All}
use Rattle.std.proofs.lemmas.List.Elements.{All-head, All-cons, All-nil}
use Rattle.mb_base.specs.declared.value.ObjId.{ObjId}
use Rattle.mb_base.specs.declared.value.Side.{Side}
use Rattle.mb_base.specs.declared.value.Value.{Value}
use Rattle.mb_world.specs.declared.cell.Cell.{Cell}
use Rattle.mb_world.specs.declared.cell.CellKind.{CellKind}
use Rattle.mb_world.specs.declared.cell.CellKind.TheVariants.{BuiltIn, Membrane}
use Rattle.mb_world.specs.declared.scope.Job.{Job}
use Rattle.mb_world.specs.declared.scope.Job.TheVariants as j
use Rattle.mb_world.specs.Graph as graph
use Rattle.mb_world.specs.Data.{Data, Script, cell_at, built_in_of}
use Rattle.mb_world.specs.Ids.{CellIn, JobIn, ValueIn}
use Rattle.mb_world.specs.Image.{names_of, thing_in}
use Rattle.mb_world.specs.Contained.{Contained, HasItsTwo, IsOfTable, is_shadow}
use Rattle.mb_world.specs.Formed.{FormedBy, FormedCell, HasBuiltIn, IsCallable, as_standard, job_values}
use Rattle.mb_world.proofs.Grow.{All-at}
use Rattle.mb_world.proofs.Images.{thing-grows, rules-grow, value-grows}
use Rattle.mb_maps.proofs.Lists.{same-some, some-get}
use Rattle.mb_maps.proofs.Counterparts.{IsBuiltIn, built-in-is, built-in-found}
use Rattle.mb_maps.proofs.Keeping.{formed-can-cross}
use Rattle.mb_shadow.specs.Seeing.{CanSee, AreStandard, IsProxy, is_membrane, shadow_at, shadow_in, shadow_by}
use Rattle.mb_shadow.specs.Following.{Followed}
use Rattle.mb_shadow.specs.Laws.{FormedCanSee, FormedFollows}
use Rattle.mb_shadow.proofs.Forms.{callable-as}

-- ---- the shadow of a proxy

module _ (d : Data) (contained : Contained d) (proxy : ObjId) (is : IsProxy (cell_at d proxy)) where
  its-shadow : (c : Cell) × (cell_at d (shadow_at d proxy) ≡ Some c) × (is_shadow c.kind ≡ true)
  its-shadow = by p.0.kind p.2 (All-at (λ (c : Cell). HasItsTwo d c.home c.kind) d.cells proxy.0 p.0 p.1 contained.two_of_proxies) (ap (λ o. shadow_in proxy o) p.1)
    where
      p : (c : Cell) × (cell_at d proxy ≡ Some c) × (is_membrane c.kind ≡ true)
      p = some-get (λ (c : Cell). is_membrane c.kind ≡ true) (cell_at d proxy) is

      by : (k : CellKind) → is_membrane k ≡ true → HasItsTwo d p.0.home k → shadow_at d proxy ≡ shadow_by proxy k
          → (c : Cell) × (cell_at d (shadow_at d proxy) ≡ Some c) × (is_shadow c.kind ≡ true)
      by (Membrane behind shadow) m two e =
          let c = some-get (λ (x : Cell). (x.home ≡ p.0.home) × (is_shadow x.kind ≡ true)) (cell_at d shadow) two.1 in
          (c.0, ap (cell_at d) e ∙ c.1, c.2.1)
      by k m two e = cc

-- ---- formed worlds

module _ (IsProgram : Script → Type 0) (AreRules : List graph.Rule → Type 0) (IsEntry : graph.Entry → Type 0) where
  standard-there : (d : Data) → d.joined ≡ false → Contained d → FormedBy IsProgram AreRules IsEntry d → AreStandard d
  standard-there d apart contained h id c place e k =
      let its : FormedCell d c = All-at (FormedCell d) d.cells id.0 c e h.cells in
      let of-table : IsOfTable (BuiltIn place) = subst IsOfTable k (All-at (λ (x : Cell). IsOfTable x.kind) d.cells id.0 c e contained.of_table) in
      let b : HasBuiltIn d c.home place = h.built_ins c.home place its.home of-table in
      let mine : built_in_of d.joined d.cells c.home place ≡ Some id =
      ap (λ (j : Bool). built_in_of j d.cells c.home place) apart
      ∙ built-in-found d contained c.home place id (record { cell = c; there = e; home_is = refl; kind_is = k }) in
      let f : Some b.id ≡ Some id = sym b.found ∙ mine in
      let id-is : b.id ≡ id = cc in
      let g : Some b.cell ≡ Some c = sym b.there ∙ ap (cell_at d) id-is ∙ e in
      let cell-is : b.cell ≡ c = cc in
      ap (λ (x : Cell). Some (as_standard (thing_in (names_of d) x))) (sym cell-is) ∙ b.standard

  pub formed-can-see : FormedCanSee IsProgram AreRules IsEntry
  formed-can-see d apart texts ids h contained paired constants = record {
    texts = texts;
    ids = ids;
    apart = apart;
    can_cross = formed-can-cross IsProgram AreRules IsEntry d apart h contained paired;
    cells = h.cells;
    standard = standard-there d apart contained h;
    constants = constants;
  }

  module _ (a : Data) (cells : List Cell) (halts : Bool) where
    abbrev b : Data
    b = record a { cells = cells; halted = halts }

    module _ (can : CanSee a) (proxy : ObjId) (is : IsProxy (cell_at a proxy)) (h : FormedBy IsProgram AreRules IsEntry a) (f : Followed a b (shadow_at a proxy)) where
      its : (c : Cell) × (cell_at a (shadow_at a proxy) ≡ Some c) × (is_shadow c.kind ≡ true)
      its = its-shadow a can.can_cross.contained proxy is

      built-in-stays : (side : Side) (place : ℕ) → HasBuiltIn a side place → HasBuiltIn b side place
      built-in-stays side place x =
          let p : IsBuiltIn a side place x.id = built-in-is a side place x.id (ap (λ (j : Bool). built_in_of j a.cells side place) (sym can.apart) ∙ x.found) in
          let kind : x.cell.kind ≡ BuiltIn place = ap (λ (c : Cell). c.kind) (same-some (cell_at a x.id) x.cell p.cell x.there p.there) ∙ p.kind_is in
          let home : x.cell.home ≡ side = ap (λ (c : Cell). c.home) (same-some (cell_at a x.id) x.cell p.cell x.there p.there) ∙ p.home_is in
          let other : x.id ≢ shadow_at a proxy = λ e. (
          let same : x.cell ≡ its.0 = same-some (cell_at a x.id) x.cell its.0 x.there (ap (cell_at a) e ∙ its.1) in
          true≢false (sym its.2 ∙ ap (λ (c : Cell). is_shadow c.kind) (sym same) ∙ ap is_shadow kind)) in
          let there : cell_at b x.id ≡ Some x.cell = f.cells x.id x.cell other x.there in
          record {
            id = x.id;
            cell = x.cell;
            found = ap (λ (j : Bool). built_in_of j cells side place) can.apart
                ∙ built-in-found b f.can_see.can_cross.contained side place x.id (record { cell = x.cell; there = there; home_is = home; kind_is = kind });
            there = there;
            standard = ap (λ t. Some (as_standard t)) (thing-grows a b f.becomes.grows x.cell (All-at (CellIn a) a.cells x.id.0 x.cell x.there can.ids.cells_in)) ∙ x.standard;
          }

      callable-stays : (y : Value) → ValueIn a y → IsCallable a y → IsCallable b y
      callable-stays y i k = callable-as a b f.becomes y y (value-grows a b f.becomes.grows y i) k

      job-stays : (x : Job) → JobIn a x → All (IsCallable a) (job_values x) → All (IsCallable b) (job_values x)
      job-stays j.Script i k = All-nil (IsCallable b)
      job-stays (j.Call y) i k = All-cons (IsCallable b) y [] (callable-stays y i (All-head (IsCallable a) y [] k)) (All-nil (IsCallable b))

      formed-after : FormedBy IsProgram AreRules IsEntry b
      formed-after = record {
        sides = h.sides;
        built_ins = λ side place l n. built-in-stays side place (h.built_ins side place l n);
        programs = h.programs;
        rules = subst AreRules (sym (rules-grow a b f.becomes.grows a.rules can.ids.rules_in)) h.rules;
        joined = λ t. absurd (true≢false (sym t ∙ can.apart));
        cells = f.can_see.cells;
        scopes = λ id s e. let x = h.scopes id s e in record { home = x.home; wholes = x.wholes; parent = x.parent; distinct = x.distinct };
        jobs = λ n q l i x k. job-stays _ (can.ids.queues_in n q l i x k) (h.jobs n q l i x k);
        entries = λ place e i. let x = h.entries place e i in record { side = x.side; began = x.began; form = x.form };
      }

  pub formed-follows : FormedFollows IsProgram AreRules IsEntry
  formed-follows d d' proxy can is h f =
      subst (λ (x : Data). Followed d x (shadow_at d proxy) → FormedBy IsProgram AreRules IsEntry x) (sym f.rest)
      (λ f. formed-after d d'.cells d'.halted can proxy is h f) f
