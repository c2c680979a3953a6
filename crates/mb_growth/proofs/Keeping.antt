-- From an earlier graph to a later one, whose promises are kept.
use Rattle.std.proofs.Common.{◌≡◌, List, [], ◌∷◌, ◌++◌, refl, sym, ap, ◌∙◌, append-nil, append_assoc}
use Rattle.mb_world.specs.Value.{Val}
use Rattle.mb_world.specs.Graph.{Graph, Thing, Entry, Call as CallJob}
use Rattle.mb_world.specs.Objects.{with_thing}
use Rattle.mb_model.specs.Writing.{with_object}
use Rattle.mb_model.specs.BuiltIns.Basics.{with_job}
use Rattle.mb_model.specs.Trace.Entries.{entries, with_entry}
use Rattle.mb_model.proofs.Kept.Words.{Kept, beside-objects}
use Rattle.mb_model.proofs.Kept.Rows.{OwesNothing}
use Rattle.mb_growth.specs.Later.{AreFormed, EachEvolves}
use Rattle.mb_growth.specs.Lawful.{KeepsPromises}
use Rattle.mb_growth.proofs.Graphs.{stays-later, goes-on-later, one-is-made}
use Rattle.mb_growth.proofs.Made.{made-formed}
use Rattle.mb_growth.proofs.Runs.{change-grows}
use Rattle.mb_growth.proofs.Reading.{with_thing-rules}
use Rattle.mb_growth.proofs.Targets.{Aims, stays-same, stays-on, moved-aims, made-aims}
use Rattle.mb_growth.proofs.Entered.{quiet-log, entered-log}
use Rattle.mb_growth.proofs.Promised.{Onward, promises-on, IsTrue, HowMade, promises-more}
use Rattle.mb_growth.proofs.Truly.{Extends}

-- ---- from an earlier graph to a later one

onward-same : (g : Graph) → Onward g g
onward-same g = record { evolves = stays-later g; rules = refl; stays = stays-same g }

onward-on : (f g h : Graph) → Onward f g → Onward g h → Onward f h
onward-on f g h p q = record {
  evolves = goes-on-later f g h p.evolves q.evolves;
  rules = q.rules ∙ p.rules;
  stays = stays-on f g h p.stays q.stays;
}

extends-same : (g h : Graph) → entries h.log ≡ entries g.log → Extends g h
extends-same g h same = ([], same ∙ sym (append-nil (entries g.log)))

extends-on : (f g h : Graph) → Extends f g → Extends g h → Extends f h
extends-on f g h p q = (
  p.0 ++ q.0,
  q.1 ∙ ap (λ (es : List Entry). es ++ q.0) p.1 ∙ append_assoc (entries f.log) p.0 q.0,
)

-- the promises of the later one are kept
abbrev pub Goes : Graph → Graph → Type 0
Goes f g = KeepsPromises g × (Onward f g × Extends f g)

pub goes-same : (g : Graph) → KeepsPromises g → Goes g g
goes-same g keeps = (keeps, (onward-same g, extends-same g g refl))

pub goes-on : (f g h : Graph) → Goes f g → Goes g h → Goes f h
goes-on f g h p q = (q.0, (onward-on f g h p.1.0 q.1.0, extends-on f g h p.1.1 q.1.1))

-- a change that makes no entry
pub goes-step : (f g h : Graph) → Goes f g → AreFormed h × EachEvolves g h → h.rules ≡ g.rules → Aims g h
    → entries h.log ≡ entries g.log → Goes f h
goes-step f g h p grows rules aims same =
    let on : Onward g h = record { evolves = grows.1; rules = rules; stays = aims.1 } in
    goes-on f g h p (promises-on g h p.0 on same grows.0 aims.0, (on, extends-same g h same))

pub with_thing-log : (g : Graph) (o : Val) (u : Thing) → (with_thing o u g).log ≡ g.log
with_thing-log g o u = beside-objects (λ h. h.log ≡ g.log) g o u (λ ts. refl) refl

-- an entry that is true
pub goes-entered : (f g : Graph) (e : Entry) → Goes f g → IsTrue g e → HowMade g e → Goes f (with_entry e g)
goes-entered f g e p so how =
    let h : Graph = with_entry e g in
    let on : Onward g h = record { evolves = stays-later g; rules = refl; stays = stays-same g } in
    goes-on f g h p (promises-more g e p.0 so how, (on, (e ∷ [], entered-log g.log e)))

-- ---- what rows keep

abbrev pub keeping : Kept
keeping = record {
  cares = Unit {0};
  owns = Unit {0};
  to = Goes;
  owed = λ b o g. Unit {0};
  ended = λ b g o abrupt h. tt;
  known = λ t s o g. Unit {0};
  stays = λ f g p. goes-same g p.0;
  goes_on = goes-on;
  made = λ f g t new p.
      goes-step f g (with_object t g) p (one-is-made g t p.0.formed (made-formed g t new)) refl
      (made-aims g t new p.0.targets) refl;
  moved = λ f g o t u at by p.
      goes-step f g (with_thing o u g) p (change-grows g o t u at by p.0.formed) (with_thing-rules g o u)
      (moved-aims (Unit {0}) g o t u at by p.0.targets) (ap entries (with_thing-log g o u));
  symbols = λ f g ds p.
      goes-step f g (record g { symbols = ds }) p (p.0.formed, stays-later g) refl (p.0.targets, stays-same g) refl;
  scopes = λ f g ss last p.
      goes-step f g (record g { scopes = ss }) p (p.0.formed, stays-later g) refl (p.0.targets, stays-same g) refl;
  log = λ f g i none p.
      goes-step f g (record g { log = g.log ++ (i ∷ []) }) p (p.0.formed, stays-later g) refl
      (p.0.targets, stays-same g) (quiet-log g.log i none);
  job = λ f g s v p.
      goes-step f g (with_job s (CallJob v) g) p (p.0.formed, stays-later g) refl (p.0.targets, stays-same g) refl;
}

pub nothing-owed : OwesNothing keeping
nothing-owed b g o p = tt
