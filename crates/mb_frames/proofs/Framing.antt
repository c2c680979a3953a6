-- What holds of a world by its programs, rules and entries, whichever are asked for, holds after each change; and with
-- what stands in it, it is a world between the steps.
use Rattle.mb_base.specs.declared.value.ObjId.{ObjId}
use Rattle.mb_base.specs.declared.value.Side.{Side}
use Rattle.mb_frames.proofs.Entries.{entry-grows}
use Rattle.mb_frames.specs.Grammatical.{IsProgram}
use Rattle.mb_frames.specs.Ready.{AnyEntry, AnyRules, Changed, HasItsConstant, IsReady, ReadyAfter}
use Rattle.mb_frames.specs.Wholeness.{FormedAfter, FormedWorld}
use Rattle.mb_frames.specs.declared.machine.Halt.{Halt}
use Rattle.mb_frames.specs.declared.machine.Halt.TheVariants.{NoMemory, Spent as SpentHalt}
use Rattle.mb_frames.specs.declared.machine.Machine.{Machine}
use Rattle.mb_world.proofs.Grow.{All-at, Maybe-weaker}
use Rattle.mb_world.proofs.Images.{rules-grow}
use Rattle.mb_world.specs.Contained.{Contained, Paired}
use Rattle.mb_world.specs.Data.{Data, Script, cell_at}
use Rattle.mb_world.specs.Formed.{FormedBy, FormedEntry}
use Rattle.mb_world.specs.Graph as graph
use Rattle.mb_world.specs.Intrinsics.{intrinsic}
use Rattle.mb_world.specs.Ids.{EntryIn, HasItsIds, Maybe}
use Rattle.mb_world.specs.Image.{names_of, rule_in}
use Rattle.mb_world.specs.declared.cell.Cell.{Cell}
use Rattle.mb_world.specs.declared.cell.CellKind.TheVariants.{BuiltIn}
use Rattle.mb_world.specs.declared.entry.Entry.{Entry}
use Rattle.mb_world.specs.declared.rule.Rule.{Rule}
use Rattle.std.proofs.Common.{Err, List, None, Ok, Option, Result, Some, ap, false, map, slice_get, subst, sym, true, ℕ, ◌∙◌, ◌≡◌, ◌≢◌}
use Rattle.std.proofs.lemmas.List.Elements.{All-weaker}
use Rattle.std.specs.Prelude.{All}

module _ (P : Script → Type 0) (R : List graph.Rule → Type 0) (E : graph.Entry → Type 0) where
  -- ---- after a change

  module _ (home : Side) (d d' : Data) (i : HasItsIds d) (h : FormedBy P R E d) (k : Changed home d d') where
    entry-still : (place : ℕ) (e : Entry) → slice_get d.entries place ≡ Some e → FormedEntry E d' place e
    entry-still place e was =
        let f : FormedEntry E d place e = h.entries place e was in
        record {
          side = rw k.found.grew.sides f.side;
          began = f.began;
          form = subst E (sym (entry-grows d d' k.found.grew.grows e
              (All-at (EntryIn d) d.entries place e was i.entries_in))) f.form;
        }

    pub formed-still : FormedBy P R E d'
    formed-still = record {
      sides = k.ready.formed.sides;
      built_ins = k.ready.formed.built_ins;
      programs = subst (λ (ps : List (Option Script)). All (Maybe P) ps) (sym k.found.grew.programs) h.programs;
      rules = subst R
          (sym (ap (λ (rs : List Rule). map (rule_in (names_of d')) rs) k.rules
          ∙ rules-grow d d' k.found.grew.grows d.rules i.rules_in)) h.rules;
      joined = k.ready.formed.joined;
      cells = k.ready.formed.cells;
      scopes = k.ready.formed.scopes;
      jobs = k.ready.formed.jobs;
      entries = λ place e was.
          entry-still place e (ap (λ (es : List Entry). slice_get es place) (sym k.entries) ∙ was);
    }

  pub world-still : (home : Side) (d d' : Data) → FormedWorld P R E d → Changed home d d' → FormedWorld P R E d'
  world-still home d d' w k = record { formed = formed-still home d d' w.ids w.formed k; ids = k.ready.ids }

  -- what a step leaves
  pub after-step : (home : Side) (result : Result (Unit {0}) Halt) (d d' : Data) (m : Machine) → FormedWorld P R E d
      → Changed home d d' → ReadyAfter result d' m → FormedAfter P R E result d' m
  after-step home (Ok u) d d' m w k r = record { world = world-still home d d' w k; machine = r.formed }
  after-step home (Err SpentHalt) d d' m w k r = world-still home d d' w k
  after-step home (Err NoMemory) d d' m w k r = tt

  -- ---- a world between the steps

  module _ (f : (p : Script) → P p → IsProgram p) (d : Data) (h : FormedBy P R E d) where
    pub formed-anyhow : FormedBy IsProgram AnyRules AnyEntry d
    formed-anyhow = record {
      sides = h.sides;
      built_ins = h.built_ins;
      programs = All-weaker (Maybe P) (Maybe IsProgram) (Maybe-weaker P IsProgram f) d.programs h.programs;
      rules = tt;
      joined = h.joined;
      cells = h.cells;
      scopes = h.scopes;
      jobs = h.jobs;
      entries = λ place e was.
          let g : FormedEntry E d place e = h.entries place e was in
          record { side = g.side; began = g.began; form = tt };
    }

    pub ready-by : HasItsIds d
        → (d.joined ≡ true → (i k : ObjId) (place : ℕ) (c e : Cell) → cell_at d i ≡ Some c → cell_at d k ≡ Some e
        → c.kind ≡ BuiltIn place → e.kind ≡ BuiltIn place → i ≡ k)
        → ((id : ObjId) (place : ℕ) (c : Cell) → cell_at d id ≡ Some c → c.kind ≡ BuiltIn place → intrinsic place ≢ None)
        → All (λ r. HasItsConstant r.kind) d.rules → (d.joined ≡ false → Contained d) → (d.joined ≡ false → Paired d)
        → IsReady d
    ready-by ids one table constants contained paired = record {
      formed = formed-anyhow;
      ids = ids;
      one_built_in = one;
      of_table = table;
      constants = constants;
      contained = contained;
      paired = paired;
    }
