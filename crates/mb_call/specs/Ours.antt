-- Which frames are those of calls, and what their parts need.
use Rattle.std.specs.Prelude.{Bool, IsSomeAnd, List, false, true, ◌<◌, ◌≡◌}
use Rattle.mb_base.specs.declared.value.Side.{Side}
use Rattle.mb_frames.specs.Held.{Held}
use Rattle.mb_frames.specs.Ready.{Holds, IsReady}
use Rattle.mb_frames.specs.declared.frame.Frame.{Frame}
use Rattle.mb_frames.specs.declared.frame.Frame.TheVariants as x
use Rattle.mb_frames.specs.declared.task.Task.{Task}
use Rattle.mb_frames.specs.declared.task.Task.TheVariants as t
use Rattle.mb_ordinary.specs.Objects.{IsOrdinary}
use Rattle.mb_world.specs.Data.{Data, cell_at}
use Rattle.mb_world.specs.declared.cell.CellKind.{CellKind}
use Rattle.mb_world.specs.declared.cell.CellKind.TheVariants.{Membrane, Revoker}

-- entering it is no matter of Proxies, nor of the membrane
abbrev pub is_entered : CellKind → Bool
is_entered (Revoker proxy) = false
is_entered (Membrane behind shadow) = false
is_entered kind = true

-- a method of an object that is neither a script-made Proxy nor a membrane proxy, the walk of setPrototypeOf, and the
-- entering of a function
abbrev pub IsCallTask : Data → Task → Type 0
IsCallTask d (t.Perform method object viewer enters) = IsOrdinary (cell_at d object)
IsCallTask d (t.Walk object given next) = Unit {0}
IsCallTask d (t.Enter function this arguments) = IsSomeAnd (cell_at d function) (λ c. is_entered c.kind ≡ true)
IsCallTask d task = ⊥

-- in a world that isn't joined the membrane makes the entries
abbrev pub IsCallFrame : Data → Frame → Type 0
IsCallFrame d (x.Begin task) = IsCallTask d task
IsCallFrame d (x.Begun task) = IsCallTask d task
IsCallFrame d (x.Anew task) = IsCallTask d task
IsCallFrame d (x.Call frame) = Unit {0}
IsCallFrame d (x.Entry entering) = d.joined ≡ true
IsCallFrame d frame = ⊥

-- what a part of a row needs that acts for a home, and holds these
pub record Acts (d : Data) (home : Side) (held : List Held) : Type 0 where
  pub ready : IsReady d
  pub side : home.0 < d.sides
  pub holds : Holds d home held
