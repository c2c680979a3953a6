-- What a method's entry answers, against what its side sees of the object (ECMA-262, 6.1.7.3).
use Rattle.std.specs.Prelude.{◌≡◌, ℕ, Bool, true, false, Some, slice_get}
use Rattle.mb_desc.specs.View.{View}
use Rattle.mb_view.specs.Passing.{Passes}
use Rattle.mb_world.specs.declared.cell.Shape.{Shape}
use Rattle.mb_world.specs.declared.entry.Op.{Op}
use Rattle.mb_world.specs.declared.entry.Op.TheVariants.{Has, Get as GetOp, Set as SetOp}
use Rattle.mb_world.specs.Value.{Val, Undefined, Object, same_value}
use Rattle.mb_world.specs.Key.{PropertyKey, same_key}
use Rattle.mb_world.specs.Graph.{Graph, Thing, Proxy, Entry}
use Rattle.mb_world.specs.Objects.{thing_at, is_proxy_kind}
use Rattle.mb_world.specs.View.{Shown, owner_or}
use Rattle.mb_model.specs.Engine.{Gives, Spent}
use Rattle.mb_model.specs.Task.{Method, HasProperty, Get, Set, Perform, Outcome}
use Rattle.mb_model.specs.Fitting.{FitsMethod}
use Rattle.mb_model.specs.Meaning.{Ends, Means}
use Rattle.mb_model.specs.Trace.Ops.{op_of}
use Rattle.mb_model.specs.Trace.Entries.{key_of_method, given_of, said_outcome}
use Rattle.mb_model.specs.Trace.Lawful.{deed_by, deed_of}
use Rattle.mb_model.specs.Trace.Answers.{passes}
use Rattle.mb_growth.specs.Later.{AreFormed, EachEvolves}
use Rattle.mb_growth.specs.Targets.{HasTargets}

-- the entry of a method that ended so passes against a view
abbrev pub EntryPasses : Method → Outcome → View PropertyKey Val → Type 0
EntryPasses m q view = Passes same_key same_value Undefined
    (deed_by (op_of m) (key_of_method m) (given_of m) (said_outcome q)) view

-- against what the side sees as the method ends
abbrev pub PassesAsItEnds : ℕ → Val → Method → Outcome → Graph → Type 0
PassesAsItEnds v o m q after = (u : Thing) → thing_at after o ≡ Some u → EntryPasses m q (Shown after v u)

-- `has`, `get` and `set` read the own property first, and what follows may change the object: they pass against what
-- the side sees as they begin. A call, a construction and a throw tell nothing
abbrev pub PassesAtMoment : ℕ → Val → Method → Thing → Graph → Outcome → Graph → Type 0
PassesAtMoment v o (HasProperty k) t before q after = EntryPasses (HasProperty k) q (Shown before v t)
PassesAtMoment v o (Get k r) t before q after = EntryPasses (Get k r) q (Shown before v t)
PassesAtMoment v o (Set k x r) t before q after = EntryPasses (Set k x r) q (Shown before v t)
PassesAtMoment v o m t before q after = PassesAsItEnds v o m q after

-- a spent method makes no entry
abbrev pub EndPasses : ℕ → Val → Method → Thing → Graph → Ends → Type 0
EndPasses v o m t before (Gives q after fuel) = PassesAtMoment v o m t before q after
EndPasses v o m t before (Spent after fuel) = Unit {0}

-- a method of an object that is no script-made Proxy, done by side s with the view of v, which is its own where it
-- makes an entry
abbrev pub OrdinaryEntriesPass : Type 0
OrdinaryEntriesPass = (s v : ℕ) (o : Val) (m : Method) (enters : Bool) (t : Thing) (graph : Graph) (fuel : ℕ)
    → thing_at graph o ≡ Some t → is_proxy_kind t.kind ≡ false → FitsMethod m → AreFormed graph
    → EndPasses v o m t graph (Means (Perform s m o v enters) graph fuel)

-- a moment between two graphs at which an answer passes, against what side p sees of the object then
pub record PassesBetween (p : ℕ) (o : Val) (m : Method) (before : Graph) (q : Outcome) (after : Graph) : Type 0 where
  pub moment : Graph
  pub begun : EachEvolves before moment
  pub ended : EachEvolves moment after
  pub rules : moment.rules ≡ before.rules
  pub passes : (u : Thing) → thing_at moment o ≡ Some u → EntryPasses m q (Shown moment p u)

abbrev pub EndBetween : ℕ → Val → Method → Graph → Ends → Type 0
EndBetween p o m before (Gives q after fuel) = PassesBetween p o m before q after
EndBetween p o m before (Spent after fuel) = Unit {0}

-- a method of a script-made Proxy passes against what the Proxy's owner sees of the target at some moment before it
-- ends, where the target is there and is no script-made Proxy
abbrev pub ProxyEntriesPass : Type 0
ProxyEntriesPass = (s v n : ℕ) (target handler : Val) (shape : Shape) (m : Method) (enters : Bool) (t u : Thing)
    (graph : Graph) (fuel : ℕ) → slice_get graph.objects n ≡ Some t → t.kind ≡ Proxy target handler shape
    → thing_at graph target ≡ Some u → is_proxy_kind u.kind ≡ false → FitsMethod m → AreFormed graph
    → EndBetween (owner_or s t.owner) target m graph (Means (Perform s m (Object n) v enters) graph fuel)

-- so it is of each Proxy of a graph in which all targets are so, as they are wherever a run comes
abbrev pub ProxiesPass : Type 0
ProxiesPass = (s v n : ℕ) (target handler : Val) (shape : Shape) (m : Method) (enters : Bool) (t : Thing)
    (graph : Graph) (fuel : ℕ) → slice_get graph.objects n ≡ Some t → t.kind ≡ Proxy target handler shape
    → HasTargets graph → FitsMethod m → AreFormed graph
    → EndBetween (owner_or s t.owner) target m graph (Means (Perform s m (Object n) v enters) graph fuel)

-- ---- the checks of a Proxy's traps

-- `has`, `get` and `set` are checked apart
abbrev pub is_checked : Op → Bool
is_checked Has = false
is_checked GetOp = false
is_checked SetOp = false
is_checked _ = true

-- an entry that the rules of traps let pass does so
abbrev pub ChecksTell : Type 0
ChecksTell = (view : View PropertyKey Val) (e : Entry) → is_checked e.op ≡ true → passes view e ≡ true
    → Passes same_key same_value Undefined (deed_of e).deed view
