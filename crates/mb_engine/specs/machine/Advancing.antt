-- What steps leave of a machine's rest, by the rows of the meaning.
use Rattle.std.specs.Prelude.{Err, List, Ok, Result, ◌++◌, ◌<◌, ◌≡◌, ℕ}
use Rattle.mb_engine.specs.Turns.{IsTold}
use Rattle.mb_frames.specs.Standing.{Logged, RestBy, Tasks}
use Rattle.mb_frames.specs.Stepping.{Added, Written, weight}
use Rattle.mb_frames.specs.declared.machine.Halt.{Halt}
use Rattle.mb_frames.specs.declared.machine.Halt.TheVariants.{NoMemory, Spent as SpentHalt}
use Rattle.mb_frames.specs.declared.machine.Machine.{Machine}
use Rattle.mb_model.specs.Engine.{Spent, meaning}
use Rattle.mb_model.specs.Meaning.{Ends, row}
use Rattle.mb_world.specs.Data.{Data}
use Rattle.mb_world.specs.Graph.{Item}
use Rattle.mb_world.specs.Image.{Image, entries_in}

-- what tasks do, by the meaning
abbrev pub meant : Tasks
meant = meaning row

-- ---- one step

-- a step left the rest, but for what it added to the log, and its machine weighs less
pub record Advanced (m m' : Machine) (d d' : Data) (f f' : ℕ) (l l' : Written) : Type 0 where
  pub added : List Item
  pub logged : Added d d' l l' added
  pub rest : (log : List Item) → Logged d log → RestBy meant m' d' f' (log ++ added) ≡ RestBy meant m d f log
  pub lighter : weight m' f' < weight m f

-- it couldn't pay, so the rest is spent
pub record Halted (m : Machine) (d d' : Data) (f f' : ℕ) (l l' : Written) : Type 0 where
  pub rest : (log : List Item) → Logged d log → RestBy meant m d f log ≡ Spent (Image d' log) f'
  pub trace : entries_in d' ≡ entries_in d
  pub told : l' ≡ l

abbrev pub Advances : Result (Unit {0}) Halt → Machine → Machine → Data → Data → ℕ → ℕ → Written → Written → Type 0
Advances (Ok u) m m' d d' f f' l l' = Advanced m m' d d' f f' l l'
Advances (Err SpentHalt) m m' d d' f f' l l' = Halted m d d' f f' l l'
Advances (Err NoMemory) m m' d d' f f' l l' = Unit {0}

-- ---- steps

-- where the rest was e it still is
pub record Reached (m' : Machine) (d' : Data) (f' : ℕ) (l l' : Written) (log : List Item) (e : Ends) : Type 0 where
  pub added : List Item
  pub told : IsTold d' l l' log added
  pub rest : RestBy meant m' d' f' (log ++ added) ≡ e

pub record Stuck (d' : Data) (f' : ℕ) (l l' : Written) (log : List Item) (e : Ends) : Type 0 where
  pub added : List Item
  pub told : IsTold d' l l' log added
  pub rest : e ≡ Spent (Image d' (log ++ added)) f'

abbrev pub Reaches : Result (Unit {0}) Halt → Machine → Data → ℕ → Written → Written → List Item → Ends → Type 0
Reaches (Ok u) m' d' f' l l' log e = Reached m' d' f' l l' log e
Reaches (Err SpentHalt) m' d' f' l l' log e = Stuck d' f' l l' log e
Reaches (Err NoMemory) m' d' f' l l' log e = Unit {0}
