-- An untouched world that was furnished is ready, and contained.
use Rattle.mb_base.specs.declared.value.ObjId.{ObjId}
use Rattle.mb_base.specs.declared.value.ScopeId.{ScopeId}
use Rattle.mb_base.specs.declared.value.Side.{Side}
use Rattle.mb_frames.proofs.AfterCalls.{queue-all}
use Rattle.mb_frames.proofs.Framing.{ready-by}
use Rattle.mb_frames.specs.Grammatical.{IsProgram}
use Rattle.mb_frames.specs.Ready.{AnyEntry, AnyRules, IsReady}
use Rattle.mb_intrinsics.proofs.Formed.{cells-first, cells-formed, cells-of-table, cells-own, cells-two}
use Rattle.mb_intrinsics.proofs.Pairing.{no-membrane, one-built-in, paired}
use Rattle.mb_intrinsics.proofs.Standing.{has-built-ins, world_of}
use Rattle.mb_intrinsics.specs.Furnished.{HasTableTexts, IsFurnished, first_side}
use Rattle.mb_intrinsics.specs.Untouched.{IsUntouched}
use Rattle.mb_text.specs.Texts.{KeepsIds}
use Rattle.mb_world.proofs.Grow.{All-at}
use Rattle.mb_world.specs.Contained.{Contained, IsOfTable, IsOwn, in_job, in_scope}
use Rattle.mb_world.specs.Data.{Data, Script, cell_at, queue_of, scope_at}
use Rattle.mb_world.specs.Formed.{FormedBy, FormedEntry, FormedScope, IsCallable, job_values}
use Rattle.mb_world.specs.Graph as graph
use Rattle.mb_world.specs.Ids.{HasItsIds}
use Rattle.mb_world.specs.Image.{names_of, rule_in}
use Rattle.mb_world.specs.Intrinsics.{intrinsic}
use Rattle.mb_world.specs.declared.cell.Cell.{Cell}
use Rattle.mb_world.specs.declared.cell.CellKind.{CellKind}
use Rattle.mb_world.specs.declared.cell.CellKind.TheVariants.{BuiltIn}
use Rattle.mb_world.specs.declared.entry.Entry.{Entry}
use Rattle.mb_world.specs.declared.scope.Job.{Job}
use Rattle.mb_world.specs.declared.scope.Job.TheVariants as j
use Rattle.mb_world.specs.declared.scope.Scope.{Scope}
use Rattle.std.proofs.Common.{Bool, List, None, Option, Some, [], ap, arith, map, refl, slice_get, subst, sym, true, ℕ, ◌<◌, ◌∙◌, ◌≡◌, ◌≢◌}
use Rattle.std.proofs.lemmas.List.Elements.{All-nil, All-weaker}
use Rattle.std.specs.Prelude.{All}

none-there : {A : Type 0} (xs : List A) (n : ℕ) (x : A) → xs ≡ [] → slice_get xs n ≡ Some x → ⊥
none-there xs n x none e =
    let q : slice_get [] n ≡ Some x = ap (λ ys. slice_get ys n) (sym none) ∙ e in
    cc

-- what stands in a job is nothing where each job is a script
script-values : (Q : Job → Type 0) → Q j.Script → (x : Job) → x ≡ j.Script → Q x
script-values Q q x e = subst Q (sym e) q

module _ (d : Data) (n : ℕ) (u : IsUntouched d n) (texts : List (List ℕ)) (there : HasTableTexts texts)
    (stay : KeepsIds d.texts texts) where
  abbrev world : Data
  world = world_of d n texts

  furnished : IsFurnished d n world
  furnished = record { texts_stay = stay; texts_there = there; all = refl }

  some : 0 < n
  some = omega (arith, u.least)

  scripts : (Q : Job → Type 0) → Q j.Script → All (All Q) world.queues
  scripts Q q =
      All-weaker (All (λ x. x ≡ j.Script)) (All Q)
      (λ xs. All-weaker (λ x. x ≡ j.Script) Q (script-values Q q) xs) world.queues u.jobs

  contained : Contained world
  contained = record {
    cells_own = cells-own d n texts there some;
    two_of_proxies = cells-two d n texts there some;
    scopes_own = subst (λ (ss : List Scope). All (λ s. All (IsOwn world s.home) (in_scope s)) ss) (sym u.scopes)
        (All-nil (λ s. All (IsOwn world s.home) (in_scope s)));
    jobs_own = λ side l. queue-all (λ x. All (IsOwn world side) (in_job x)) world.queues
        (scripts (λ x. All (IsOwn world side) (in_job x)) (All-nil (IsOwn world side))) side.0;
    of_table = cells-of-table d n texts there some;
    one_for_a_place = one-built-in d world n furnished;
  }

  one-for-all : d.joined ≡ true → (i k : ObjId) (place : ℕ) (c e : Cell) → cell_at world i ≡ Some c
      → cell_at world k ≡ Some e → c.kind ≡ BuiltIn place → e.kind ≡ BuiltIn place → i ≡ k
  one-for-all joined i k place c e ati atk kc ke =
      let first : All (λ x. x.home ≡ first_side) world.cells = cells-first d n texts there some joined in
      let a : c.home ≡ first_side = All-at (λ (x : Cell). x.home ≡ first_side) world.cells i.0 c ati first in
      let b : e.home ≡ first_side = All-at (λ (x : Cell). x.home ≡ first_side) world.cells k.0 e atk first in
      one-built-in d world n furnished i k place c e ati atk (a ∙ sym b) kc ke

  place-of-table : (id : ObjId) (place : ℕ) (c : Cell) → cell_at world id ≡ Some c → c.kind ≡ BuiltIn place
      → intrinsic place ≢ None
  place-of-table id place c at is =
      subst (λ (k : CellKind). IsOfTable k) is
      (All-at (λ (x : Cell). IsOfTable x.kind) world.cells id.0 c at (cells-of-table d n texts there some))

  -- formed, whichever rules and entries are asked for
  module _ (R : List graph.Rule → Type 0) (E : graph.Entry → Type 0)
      (rules : R (map (rule_in (names_of world)) world.rules)) where
    formed : FormedBy IsProgram R E world
    formed = record {
      sides = (u.least, u.most);
      built_ins = has-built-ins d n texts there;
      programs = u.programs;
      rules = rules;
      joined = λ e. record {
        two_sides = u.two_sides e;
        rules = u.no_rules e;
        membrane = no-membrane d world n furnished;
        revoked = u.not_revoked e;
      };
      cells = cells-formed d n texts there some;
      scopes = λ id s e. absurd (none-there world.scopes id.0 s u.scopes e);
      jobs = scripts (λ x. All (IsCallable world) (job_values x)) (All-nil (IsCallable world));
      entries = λ place e at. absurd (none-there world.entries place e u.entries at);
    }

  ready : HasItsIds world → IsReady world
  ready ids =
      ready-by IsProgram AnyRules AnyEntry (λ p h. h) world (formed AnyRules AnyEntry tt) ids one-for-all place-of-table
      u.constants (λ e. contained) (λ e. paired d world n u.entries furnished)

module _ (d d' : Data) (n : ℕ) (u : IsUntouched d n) (f : IsFurnished d n d') where
  pub furnished-contained : Contained d'
  furnished-contained =
      subst (λ (x : Data). Contained x) (sym f.all) (contained d n u d'.texts f.texts_there f.texts_stay)

  pub furnished-ready : HasItsIds d' → IsReady d'
  furnished-ready ids =
      subst (λ (x : Data). IsReady x) (sym f.all)
      (ready d n u d'.texts f.texts_there f.texts_stay (subst (λ (x : Data). HasItsIds x) f.all ids))

  -- formed, whichever rules and entries are asked for
  pub furnished-formed : (R : List graph.Rule → Type 0) (E : graph.Entry → Type 0)
      → R (map (rule_in (names_of d')) d'.rules) → FormedBy IsProgram R E d'
  furnished-formed R E rules =
      subst (λ (x : Data). FormedBy IsProgram R E x) (sym f.all)
      (formed d n u d'.texts f.texts_there f.texts_stay R E
      (subst (λ (x : Data). R (map (rule_in (names_of x)) x.rules)) f.all rules))
