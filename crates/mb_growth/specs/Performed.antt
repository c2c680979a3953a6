-- Each entry of a trace was made by a method whose answer passed (ECMA-262, 6.1.7.3 and 10.5).
use Rattle.std.specs.Prelude.{◌≡◌, ◌⊎◌, ℕ, false, Some, slice_get, take}
use Rattle.mb_world.specs.declared.entry.Op.TheVariants.{Collect}
use Rattle.mb_world.specs.Value.{Val, Object}
use Rattle.mb_world.specs.Graph.{Graph, Thing, Kind, Proxy, Gone, Entry}
use Rattle.mb_world.specs.View.{owner_or}
use Rattle.mb_model.specs.Engine.{Gives}
use Rattle.mb_model.specs.Task.{Method, Perform, Outcome, Throw}
use Rattle.mb_model.specs.Meaning.{Means}
use Rattle.mb_model.specs.Trace.Entries.{entries, method_entry}
use Rattle.mb_growth.specs.Later.{EachEvolves}
use Rattle.mb_growth.specs.Answered.{PassesAtMoment, PassesBetween}

-- what a method of side s on object n, of this kind as it began, answered passes: of a script-made Proxy against what
-- the Proxy's owner sees of the target, of another object against what s sees; a Proxy whose target is gone throws
abbrev pub KindPasses : ℕ → ℕ → Thing → Kind → Method → Graph → Outcome → Graph → Type 0
KindPasses s n t (Proxy target handler shape) m before q after =
    PassesBetween (owner_or s t.owner) target m before q after
KindPasses s n t (Gone shape) m before q after = (v : Val) × (q ≡ Throw v)
KindPasses s n t _ m before q after = PassesAtMoment s (Object n) m t before q after

-- the entry at this place says what a method gave that a side performed by its own view, under the same policy: as it
-- began, so many entries were complete; as it ended, those that stand before the place
pub record IsOfMethod (g : Graph) (place : ℕ) (e : Entry) : Type 0 where
  pub method : Method
  pub outcome : Outcome
  pub before : Graph
  pub fuel : ℕ
  pub after : Graph
  pub left : ℕ
  pub thing : Thing
  pub says : e ≡ method_entry e.began e.side (Object e.object) method outcome
  pub gave : Means (Perform e.side method (Object e.object) e.side false) before fuel ≡ Gives outcome after left
  pub began : entries before.log ≡ take e.began (entries g.log)
  pub ended : entries after.log ≡ take place (entries g.log)
  pub rules : before.rules ≡ g.rules
  pub evolves : EachEvolves before after
  pub later : EachEvolves after g
  pub there : slice_get before.objects e.object ≡ Some thing
  pub passes : KindPasses e.side e.object thing thing.kind method before outcome after

-- an access of a collection tells nothing
abbrev pub IsOfAccess : Entry → Type 0
IsOfAccess e = (p : ℕ) × (e.op ≡ Collect p)

-- each entry is of the one or of the other
abbrev pub ArePerformed : Graph → Type 0
ArePerformed g = (place : ℕ) (e : Entry) → slice_get (entries g.log) place ≡ Some e
    → IsOfMethod g place e ⊎ IsOfAccess e
