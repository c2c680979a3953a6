-- What a run leaves: the story of a world that has begun is told to a sink.
use Rattle.std.specs.Prelude.{All, Bool, Err, List, None, Ok, Option, Result, Some, [], false, length, map, option_map, true, ⊤, ℕ, ◌++◌, ◌<◌, ◌≡◌, ◌≤◌}
use Rattle.mb_engine.specs.Begun.{IsBegun}
use Rattle.mb_engine.specs.declared.drivers.Ran.{Ran}
use Rattle.mb_frames.specs.Standing.{Logged}
use Rattle.mb_model.specs.Story as story
use Rattle.mb_model.specs.Story.{Stage, Story, first_graph}
use Rattle.mb_outer.specs.Causes.{IsRaised}
use Rattle.mb_story.specs.declared.ending.Ending.{Ending}
use Rattle.mb_story.specs.declared.ending.Ending.TheVariants.{Done, Spent, Uncaught}
use Rattle.mb_story.specs.declared.ending.RunFault.{RunFault}
use Rattle.mb_story.specs.declared.ending.RunFault.TheVariants.{NoMemory, Write}
use Rattle.mb_story.specs.declared.schedule.Letter.{Letter}
use Rattle.mb_story.specs.declared.schedule.Letter.TheVariants.{Turn}
use Rattle.mb_world.specs.Data.{Data}
use Rattle.mb_world.specs.Graph.{Program, Rule}
use Rattle.mb_world.specs.Image.{Image}

-- ---- the schedule

abbrev pub letter_of : Letter → story.Letter
letter_of (Turn side) = story.Side side.0

-- the side of a letter takes part
abbrev pub NamesItsSide : ℕ → Letter → Type 0
NamesItsSide sides (Turn side) = side.0 < sides

abbrev pub NamesItsSides : ℕ → List Letter → Type 0
NamesItsSides sides word = All (NamesItsSide sides) word

-- ---- the story

-- the world stands for the first graph of these scripts and rules, and has no entry
pub record IsFirst (d : Data) (programs : List Program) (rules : List Rule) : Type 0 where
  pub image : Image d [] ≡ first_graph programs rules
  pub entries : d.entries ≡ []

-- where the world is the first one of some scripts and rules, the fact holds of their story
abbrev pub OnStory : Data → List Letter → ℕ → (Stage → Type 0) → Type 0
OnStory d word f fact = (programs : List Program) (rules : List Rule) → IsFirst d programs rules
    → fact (Story programs rules (map letter_of word) f)

abbrev pub ending_of : Ending → story.Ending
ending_of Done = story.Done
ending_of Uncaught = story.WithThrow
ending_of Spent = story.OutOfFuel

-- the world stands for the stage's graph, and has its entries, and so many units are left
pub record StandsAt (d : Data) (f : ℕ) (t : Stage) : Type 0 where
  pub image : t.graph ≡ Image d t.graph.log
  pub logged : Logged d t.graph.log
  pub left : t.left ≡ f

-- ---- the turns that a driver tells

abbrev pub told_as : Bool → story.Ran → Ran
told_as joined r = record {
  side = record { 0 = r.side };
  joined = joined;
  entries = r.entries;
  objects = r.objects;
  left = r.left;
}

-- where they are told, these turns came behind those of before
abbrev pub with_turns : Bool → List story.Ran → Option (List Ran) → Option (List Ran)
with_turns joined turns told = option_map (λ rs. rs ++ map (told_as joined) turns) told

-- ---- the sink

-- where the bytes so far are told, these came behind them
abbrev pub Receives : Option (List ℕ) → Option (List ℕ) → List ℕ → Type 0
Receives None now bytes = ⊤
Receives (Some taken) now bytes = now ≡ Some (taken ++ bytes)

-- the text was put, or, where the run broke off, a prefix of it
abbrev pub IsPut : Result Ending RunFault → (List ℕ → Type 0) → List ℕ → Type 0
IsPut (Ok ending) receives text = receives text
IsPut (Err fault) receives text = (front : List ℕ) × (rest : List ℕ) × (text ≡ front ++ rest) × receives front

-- room for the text is told
abbrev pub HasRoom : Option ℕ → List ℕ → Type 0
HasRoom None text = ⊥
HasRoom (Some room) text = length text ≤ room

-- a failed put raised the count of faults, and nothing else did
abbrev pub CountsFaults : {T : Type 0} → Result T RunFault → (before now : ℕ) → Type 0
CountsFaults (Ok x) before now = now ≡ before
CountsFaults (Err Write) before now = (before ≤ now) × IsRaised before now
CountsFaults (Err NoMemory) before now = now ≡ before

-- ---- the world

-- a spent turn and a run that broke off leave it halted
abbrev pub halts : Result Ending RunFault → Bool
halts (Ok Done) = false
halts (Ok Uncaught) = false
halts (Ok Spent) = true
halts (Err fault) = true

-- turns go on in a begun world that isn't halted
abbrev pub Leaves : Ending → Data → Type 0
Leaves Done d = IsBegun d × (d.halted ≡ false)
Leaves Uncaught d = IsBegun d × (d.halted ≡ false)
Leaves Spent d = d.halted ≡ true
