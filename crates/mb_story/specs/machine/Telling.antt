-- How far a run was told.
use Rattle.std.specs.Prelude.{Err, List, None, Ok, Option, Result, Some, Vec, [], false, length, map, true, ⊤, ℕ, ◌+◌, ◌++◌, ◌-◌, ◌<◌, ◌≡◌, ◌≤◌, ◌⊎◌}
use Rattle.std.specs.declared.alloc.Global.{Global}
use Rattle.mb_base.specs.declared.value.Side.{Side}
use Rattle.mb_engine.specs.declared.drivers.Ran.{Ran}
use Rattle.mb_engine.specs.declared.turns.TurnEnd.{TurnEnd}
use Rattle.mb_engine.specs.declared.turns.TurnEnd.TheVariants as end
use Rattle.mb_model.proofs.Kept.Queues.{scripts}
use Rattle.mb_model.specs.Story.{Stage, is_over, is_spent, rounds}
use Rattle.mb_model.specs.Text.{Text_of, log_lines, with_feeds}
use Rattle.mb_story.specs.Running.{HasRoom, Receives, StandsAt, ending_of, with_turns}
use Rattle.mb_story.specs.declared.ending.Ending.{Ending}
use Rattle.mb_story.specs.declared.ending.Ending.TheVariants.{Spent, Uncaught}
use Rattle.mb_story.specs.declared.ending.RunFault.{RunFault}
use Rattle.mb_story.specs.declared.ending.RunFault.TheVariants.{Write}
use Rattle.mb_story.specs.declared.style.Style.{Style}
use Rattle.mb_world.specs.Data.{Data, queue_of}
use Rattle.mb_world.specs.Image.{Image}

abbrev pub contents_of : List (Vec ℕ Global) → List (List ℕ)
contents_of = map (λ line. line.items)

-- after one more turn
abbrev pub ended_by : Ending → TurnEnd → Option Ending
ended_by ending end.Idle = Some ending
ended_by ending end.Ended = Some ending
ended_by ending end.Uncaught = Some Uncaught
ended_by ending end.Spent = Some Spent
ended_by ending end.NoMemory = None

-- ---- what a sink took

-- the bytes so far and the room, as a sink tells them
pub record Sunk : Type 0 where
  pub taken : Option (List ℕ)
  pub room : Option ℕ

abbrev pub sunk : Option (List ℕ) → Option ℕ → Sunk
sunk taken room = record { taken = taken; room = room }

-- a room that is told and suffices for the text is lower by it
abbrev pub LowersRoom : Option ℕ → Option ℕ → List ℕ → Type 0
LowersRoom None now text = ⊤
LowersRoom (Some room) now text = length text ≤ room → now ≡ Some (room - length text)

-- since `start` it took this text
pub record Took (start now : Sunk) (text : List ℕ) : Type 0 where
  pub bytes : Receives start.taken now.taken text
  pub room : LowersRoom start.room now.room text

-- it took a prefix of it, and no put failed where there was room for the whole
pub record TookPart (start now : Sunk) (fault : RunFault) (text : List ℕ) : Type 0 where
  pub front : List ℕ
  pub rest : List ℕ
  pub parts : text ≡ front ++ rest
  pub bytes : Receives start.taken now.taken front
  pub fits : HasRoom start.room text → fault ≡ Write → ⊥

abbrev pub Takes : {T : Type 0} → Result T RunFault → Sunk → Sunk → List ℕ → Type 0
Takes (Ok x) start now text = Took start now text
Takes (Err fault) start now text = TookPart start now fault text

-- ---- where a run stands

-- a world, the units left, what the sink tells, and the turns that the driver tells
pub record Scene : Type 0 where
  pub world : Data
  pub left : ℕ
  pub sink : Sunk
  pub ran : Option (List Ran)

abbrev pub scene : Data → ℕ → Option (List ℕ) → Option ℕ → Option (List Ran) → Scene
scene d f taken room ran = record { world = d; left = f; sink = sunk taken room; ran = ran }

-- the lines of a stage so far
abbrev pub so_far : Style → Stage → List ℕ
so_far style t = with_feeds (log_lines style.traced style.lettered t.graph.log)

-- a run that began at `start` has been told up to that stage, which has a queue for each side
pub record Stands (style : Style) (start now : Scene) (ending : Ending) (t : Stage) : Type 0 where
  pub here : StandsAt now.world now.left t
  pub queues : length (t.graph.queues) ≡ now.world.sides
  pub ended : t.ending ≡ ending_of ending
  pub ran : now.ran ≡ with_turns now.world.joined t.ran start.ran
  pub took : Took start.sink now.sink (so_far style t)

-- it came there, or broke off before
abbrev pub Gets : Style → Result Ending RunFault → Scene → Scene → Stage → Type 0
Gets style (Ok ending) start now t = Stands style start now ending t
Gets style (Err fault) start now t = TookPart start.sink now.sink fault (so_far style t)

-- turns that went round lead from side s at stage t to side s' at stage u
pub record Leads (t : Stage) (s : ℕ) (u : Stage) (s' : ℕ) : Type 0 where
  pub turns : ℕ
  pub leads : (n : ℕ) → rounds (turns + n) s t ≡ rounds n s' u

-- turns that went round came to a stage: to the last turn, or to one from which rounds go on
abbrev pub Gone : Style → Ending → Scene → Scene → Stage → Type 0
Gone style Spent start now t = (n : ℕ) × Stands style start now Spent (rounds n 0 t)
Gone style ending start now t = (u : Stage) × Leads t 0 u 0 × Stands style start now ending u

abbrev pub Rounds : Style → Result Ending RunFault → Scene → Scene → Stage → Type 0
Rounds style (Ok ending) start now t = Gone style ending start now t
Rounds style (Err fault) start now t = (n : ℕ) × TookPart start.sink now.sink fault (so_far style (rounds n 0 t))

-- rounds came to their end
abbrev pub RoundsOver : Style → Result Ending RunFault → Scene → Scene → Stage → Type 0
RoundsOver style (Ok ending) start now t =
    (n : ℕ) × (is_over (rounds n 0 t) ≡ true) × Stands style start now ending (rounds n 0 t)
RoundsOver style (Err fault) start now t =
    (n : ℕ) × TookPart start.sink now.sink fault (so_far style (rounds n 0 t))

-- the whole text is told
pub record TellsAll (style : Style) (start now : Scene) (ending : Ending) (t : Stage) : Type 0 where
  pub here : StandsAt now.world now.left t
  pub ended : t.ending ≡ ending_of ending
  pub ran : now.ran ≡ with_turns now.world.joined t.ran start.ran
  pub took : Took start.sink now.sink (Text_of style.traced style.lettered t)

abbrev pub Ends : Style → Result Ending RunFault → Scene → Scene → Stage → Type 0
Ends style (Ok ending) start now t = TellsAll style start now ending t
Ends style (Err fault) start now t =
    TookPart start.sink now.sink fault (Text_of style.traced style.lettered t)

-- ---- what is still to come

abbrev pub HasJob : Data → Type 0
HasJob d = (side : Side) × (side.0 < d.sides) × (queue_of d side ≡ [] → ⊥)

-- the first so many sides have no job
abbrev pub HasNoJobs : Data → ℕ → Type 0
HasNoJobs d count = (side : Side) → side.0 < count → queue_of d side ≡ []

-- no turn is to come, or one is
abbrev pub IsOver : Ending → Data → Type 0
IsOver ending d = (is_spent (ending_of ending) ≡ true) ⊎ HasNoJobs d d.sides

abbrev pub IsUnderWay : Ending → Data → Type 0
IsUnderWay ending d = (is_spent (ending_of ending) ≡ false) × HasJob d

-- the units that are left, and the scripts that wait
abbrev pub to_come : Data → ℕ → ℕ
to_come d f = f + scripts (Image d []).queues

-- a turn of a side without a job changed nothing; after any other less is to come, or it was spent
abbrev pub Falls : Side → Ending → Data → ℕ → Data → ℕ → Type 0
Falls side Spent d f d' f' = Unit {0}
Falls side ending d f d' f' =
    ((queue_of d side ≡ []) × (d' ≡ d) × (f' ≡ f)) ⊎ (to_come d' f' < to_come d f)

abbrev pub FallsBehind : Ending → Data → ℕ → Data → ℕ → Type 0
FallsBehind Spent d f d' f' = Unit {0}
FallsBehind ending d f d' f' = to_come d' f' < to_come d f

-- a run that is spent has nothing to come
abbrev pub still_to_come : Ending → Data → ℕ → ℕ
still_to_come Spent d f = 0
still_to_come ending d f = to_come d f + 1
