-- Parts of rows that go over to other parts, before any task and any end; and parts that steps do, whether their rows
-- were under way or not.
use Rattle.std.specs.Prelude.{◌+◌, Bool, List, Result, ℕ, ◌≡◌, ◌≤◌}
use Rattle.mb_base.specs.declared.value.Side.{Side}
use Rattle.mb_frames.specs.Standing.{Logged, Tasks}
use Rattle.mb_frames.specs.Stepping.{Grew, Step, Written}
use Rattle.mb_frames.specs.declared.frame.Move.{Move}
use Rattle.mb_frames.specs.declared.machine.Halt.{Halt}
use Rattle.mb_model.specs.Engine.{exec, leading}
use Rattle.mb_model.specs.Writing.{Row}
use Rattle.mb_world.specs.Data.{Data, with_texts}
use Rattle.mb_world.specs.Graph.{Graph, Item}
use Rattle.mb_world.specs.Ids.{HasItsIds}
use Rattle.mb_world.specs.Image.{Image, entries_in}
use Rattle.mb_world.specs.Laws.{Becomes, same_graph}

-- The part p, from a world d with f units, goes on as q does from a world d' with f' units, whatever tasks do. What is
-- charged between them was paid, and nothing was added to the log.
pub record Passes (d d' : Data) (f f' : ℕ) (p q : Graph → Row) : Type 0 where
  pub same : (w : Tasks) (begun : Bool) (log : List Item) → Logged d log →
      exec w begun (p (Image d log)) f ≡ exec w begun (q (Image d' log)) f'
  pub cost : (log : List Item) → Logged d log → f' + leading (p (Image d log)) ≡ f + leading (q (Image d' log))
  pub paid : f' ≤ f
  pub trace : entries_in d' ≡ entries_in d
  pub grew : Grew d d'

-- what a function that does a part of a row at a home answers, where it writes no line
abbrev pub Part : Side → Result Move Halt → Data → Data → ℕ → ℕ → (Graph → Row) → Type 0
Part home r d d' f f' p = (begun : Bool) (l : Written) → Step home begun r d d' f f' l l p

-- texts may be added, and nothing else happens
pub record TextsGrew (d d' : Data) : Type 0 where
  pub texts : d' ≡ with_texts d d'.texts
  pub becomes : Becomes d d' same_graph
  pub trace : entries_in d' ≡ entries_in d
  pub ids : HasItsIds d'
