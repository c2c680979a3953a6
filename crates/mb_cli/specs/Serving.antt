-- What the contract of `serve` says of a call.
use Rattle.std.specs.Prelude.{◌≡◌, ◌≢◌, ℕ, ◌<◌, ◌≤◌, ◌⊎◌, ◌++◌, true, false, List, length, Option, Some, None, ⊤}
use Rattle.mb_outer.specs.Causes.{IsRaised}
use Rattle.mb_engine.specs.declared.drivers.Ran.{Ran}
use Rattle.mb_model.specs.Story.{Stage}
use Rattle.mb_story.specs.Running.{StandsAt, with_turns}
use Rattle.mb_world.specs.Data.{Data, fresh}
use Rattle.mb_cli.specs.Sharing.{HasStory}
use Rattle.mb_cli.specs.Tasks.{Task, running, sharing, checking, Ends, IsEnd, Writes}
use Rattle.mb_cli.specs.declared.status.Status.{Status}
use Rattle.mb_cli.specs.declared.status.Status.TheVariants.{Done, Uncaught, BadWords, ReadFault, WriteFault, BadScript, Spent, TooLong, NoMemory}

-- the status, and no other, is one of these
pub record IsOnly (these : Status → Type 0) (status : Status) : Type 0 where
  pub one : these status
  pub only : (other : Status) → these other → other ≡ status

-- a status that comes with the whole text, and no other, is one of these
pub record IsSomeEnd (these : Status → Type 0) : Type 0 where
  pub end : Status
  pub whole : IsEnd end
  pub only : IsOnly these end

-- The answer is the one that the scripts give, unless a fault or want of memory is answered. After `WriteFault` it
-- would have been one that comes with the whole text.
abbrev pub IsAnswer : Task → Status → Type 0
IsAnswer task Done = IsOnly (Ends task) Done
IsAnswer task Uncaught = IsOnly (Ends task) Uncaught
IsAnswer task Spent = IsOnly (Ends task) Spent
IsAnswer task WriteFault = IsSomeEnd (Ends task)
IsAnswer task (BadScript side kind) = IsOnly (Ends task) (BadScript side kind)
IsAnswer task (TooLong which) = IsOnly (Ends task) (TooLong which)
IsAnswer task (BadWords kind) = ⊥
IsAnswer task ReadFault = ⊤
IsAnswer task NoMemory = ⊤

-- each script is accepted, and a prefix of the text was put
pub record PutsFront (task : Task) (receives : List ℕ → Type 0) : Type 0 where
  pub front : List ℕ
  pub rest : List ℕ
  pub writes : Writes task (front ++ rest)
  pub put : receives front

-- each script is accepted, and the text was put
abbrev pub PutsAll : Task → (List ℕ → Type 0) → Type 0
PutsAll task receives = (text : List ℕ) × Writes task text × receives text

-- What was put, where a sink that is as before has `untouched`: the text, a prefix of it, or nothing.
abbrev pub IsPut : Task → Status → Type 0 → (List ℕ → Type 0) → Type 0
IsPut task Done untouched receives = PutsAll task receives
IsPut task Uncaught untouched receives = PutsAll task receives
IsPut task Spent untouched receives = PutsAll task receives
IsPut task WriteFault untouched receives = PutsFront task receives
IsPut task NoMemory untouched receives = untouched ⊎ PutsFront task receives
IsPut task status untouched receives = untouched

-- Before the run begins world and sink are as they were. A run that is spent or broke off leaves the world halted.
abbrev pub Leaves : Status → Data → Type 0 → Type 0
Leaves Done world untouched = world.halted ≡ false
Leaves Uncaught world untouched = world.halted ≡ false
Leaves Spent world untouched = world.halted ≡ true
Leaves WriteFault world untouched = world.halted ≡ true
Leaves NoMemory world untouched = (world.halted ≡ true) ⊎ ((world ≡ fresh) × untouched)
Leaves status world untouched = (world ≡ fresh) × untouched

-- the world is the story's last one on one graph, and this driver's list got the story's turns
pub record TellsStory (left right : Option (List ℕ)) (schedule : List ℕ) (budget : ℕ)
    (world : Data) (before now : Option (List Ran)) : Type 0 where
  pub stage : Stage
  pub has : HasStory left right schedule budget stage
  pub stands : StandsAt world stage.left stage
  pub joined : world.joined ≡ true
  pub turns : now ≡ with_turns true stage.ran before

-- a fact of a run that came to its end, and one of a call in which none began
abbrev pub OnRun : Status → (over unbegun : Type 0) → Type 0
OnRun Done over unbegun = over
OnRun Uncaught over unbegun = over
OnRun Spent over unbegun = over
OnRun WriteFault over unbegun = ⊤
OnRun NoMemory over unbegun = ⊤
OnRun status over unbegun = unbegun

-- The world after a call, and the turns that its driver tells. Where no run began it tells none.
abbrev pub IsTold : Task → Status → Data → (before now : Option (List Ran)) → Type 0
IsTold (sharing left right schedule budget traced) status world before now =
    OnRun status (TellsStory left right schedule budget world before now) (now ≡ before)
IsTold (running left right) status world before now = now ≡ before
IsTold (checking script) status world before now = now ≡ before

-- A count of faults over the call: it doesn't fall, the fault is answered only where it rose, and where it became
-- greater nothing else is answered but want of memory.
pub record TellsFaults (fault status : Status) (before now : ℕ) : Type 0 where
  pub later : before ≤ now
  pub cause : status ≡ fault → IsRaised before now
  pub told : before < now → (status ≡ fault) ⊎ (status ≡ NoMemory)

-- no fault came
pub record IsFaultless (fault status : Status) (before now : ℕ) : Type 0 where
  pub count : now ≡ before
  pub answer : status ≢ fault

-- the sink tells room enough for the text
abbrev pub HasRoom : Task → Option ℕ → Type 0
HasRoom task None = ⊥
HasRoom task (Some room) = (text : List ℕ) × Writes task text × (length text ≤ room)

-- the fact, where all was read that is asked for
abbrev pub OnRead : Status → Type 0 → Type 0
OnRead (BadWords kind) fact = ⊤
OnRead ReadFault fact = ⊤
OnRead NoMemory fact = ⊤
OnRead status fact = fact
