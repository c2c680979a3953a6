-- What a part leaves may be held, and is of the sort that is wanted.
use Rattle.mb_base.specs.declared.value.Side.{Side}
use Rattle.mb_frames.proofs.Giving.{gives-outcome}
use Rattle.mb_frames.specs.Holding.{outcome_held}
use Rattle.mb_frames.specs.Ready.{Holds, Leaves}
use Rattle.mb_frames.specs.Sorts.{IsOfSort, Sort}
use Rattle.mb_frames.specs.declared.frame.Move.TheVariants as move
use Rattle.mb_frames.specs.declared.task.Outcome.{Outcome}
use Rattle.mb_world.specs.Data.{Data}

pub ends : (d : Data) (home : Side) (wanted : Sort) (y : Outcome) → IsOfSort wanted y → Holds d home (outcome_held y)
    → Leaves d home wanted (move.Done y)
ends d home wanted y s h = record { holds = h; fit = tt; gives = gives-outcome d home wanted y s }
