-- Who acts in a step: it takes part, and in a world that isn't joined it is the home.
use Rattle.std.proofs.Common.{◌<◌, ◌≡◌, Bool, None, Option, Some, false, refl, true}
use Rattle.std.specs.Prelude.{if◌then◌else◌}
use Rattle.mb_base.specs.declared.value.ObjId.{ObjId}
use Rattle.mb_base.specs.declared.value.Side.{Side}
use Rattle.mb_call.specs.Due.{is_due}
use Rattle.mb_frames.proofs.HeldCells.{reads-home}
use Rattle.mb_frames.specs.Held.{HeldObject}
use Rattle.mb_frames.specs.Holding.{frame_held, proxy_held, task_held}
use Rattle.mb_frames.specs.Ready.{Holds, IsReady, MayHold}
use Rattle.mb_frames.specs.declared.frame.Frame.{Frame}
use Rattle.mb_frames.specs.declared.frame.Frame.TheVariants as x
use Rattle.mb_frames.specs.declared.proxies.ProxyFrame.{ProxyFrame}
use Rattle.mb_frames.specs.declared.proxies.ProxyFrame.TheVariants as p
use Rattle.mb_frames.specs.declared.task.Answer.TheVariants as a
use Rattle.mb_frames.specs.declared.task.Outcome.{Outcome}
use Rattle.mb_frames.specs.declared.task.Outcome.TheVariants as o
use Rattle.mb_frames.specs.declared.task.Task.{Task}
use Rattle.mb_frames.specs.declared.task.Task.TheVariants as task
use Rattle.mb_scriptproxy.specs.machine.Acting.{acting_side, begun_side, handed_side, home_or, is_cut_off, is_none}
use Rattle.mb_scriptproxy.specs.machine.Acting.{task_side, waiting_side}
use Rattle.mb_world.proofs.Grow.{All-at}
use Rattle.mb_world.specs.Data.{Data, cell_at}
use Rattle.mb_world.specs.Formed.{FormedCell}
use Rattle.mb_world.specs.declared.cell.Cell.{Cell}

-- one of two sides
either-home : (b : Bool) (one other home : Side) → one ≡ home → other ≡ home → (if b then one else other) ≡ home
either-home true one other home h k = h
either-home false one other home h k = k

module _ (d : Data) where
  either-in : (b : Bool) (one other : Side) → one.0 < d.sides → other.0 < d.sides
      → (let s : Side = if b then one else other in s.0 < d.sides)
  either-in true one other h k = h
  either-in false one other h k = k

module _ (d : Data) (home : Side) (r : IsReady d) where
  -- ---- methods

  cell-home : (id : ObjId) → MayHold d home (HeldObject id) → d.joined ≡ false → home_or home (cell_at d id) ≡ home
  cell-home id h u = by (cell_at d id) refl
    where
      by : (z : Option Cell) → cell_at d id ≡ z → home_or home z ≡ home
      by None e = refl
      by (Some c) e = reads-home d home id c h e u

  cell-in : (id : ObjId) → home.0 < d.sides → (home_or home (cell_at d id)).0 < d.sides
  cell-in id i = by (cell_at d id) refl
    where
      by : (z : Option Cell) → cell_at d id ≡ z → (home_or home z).0 < d.sides
      by None e = i
      by (Some c) e = (All-at (FormedCell d) d.cells id.0 c e r.formed.cells).home

  task-home : (t : Task) → Holds d home (task_held t) → d.joined ≡ false → task_side d home t ≡ home
  task-home (task.Perform m id viewer enters) h u =
      either-home (is_cut_off d viewer id) home (home_or home (cell_at d id)) home refl (cell-home id h.0 u)
  task-home t h u = refl

  task-in : (t : Task) → home.0 < d.sides → (task_side d home t).0 < d.sides
  task-in (task.Perform m id viewer enters) i =
      either-in d (is_cut_off d viewer id) home (home_or home (cell_at d id)) i (cell-in id i)
  task-in t i = i

  begun-home : (b : Bool) (t : Task) → Holds d home (task_held t) → d.joined ≡ false → begun_side b d home t ≡ home
  begun-home true t h u = refl
  begun-home false t h u = task-home t h u

  begun-in : (b : Bool) (t : Task) → home.0 < d.sides → (begun_side b d home t).0 < d.sides
  begun-in true t i = i
  begun-in false t i = task-in t i

  -- ---- traps

  handed-home : (asked : Side) (given : Option Outcome) → asked ≡ home → handed_side home asked given ≡ home
  handed-home asked (Some (o.Normal (a.Value trap))) e = either-home (is_none trap) asked home home e refl
  handed-home asked given e = refl

  handed-in : (asked : Side) (given : Option Outcome) → asked.0 < d.sides → home.0 < d.sides
      → (handed_side home asked given).0 < d.sides
  handed-in asked (Some (o.Normal (a.Value trap))) k i = either-in d (is_none trap) asked home k i
  handed-in asked given k i = i

  waiting-home : (y : ProxyFrame) (given : Option Outcome) → Holds d home (proxy_held y) → d.joined ≡ false
      → waiting_side home y given ≡ home
  waiting-home (p.TrapGot side target handler method) given h u = handed-home side given (h.0.sound.1 u)
  waiting-home y given h u = refl

  waiting-in : (y : ProxyFrame) (given : Option Outcome) → Holds d home (proxy_held y) → home.0 < d.sides
      → (waiting_side home y given).0 < d.sides
  waiting-in (p.TrapGot side target handler method) given h i = handed-in side given h.0.sound.0 i
  waiting-in y given h i = i

  -- ---- frames

  pub frame-home : (y : Frame) (given : Option Outcome) → Holds d home (frame_held y) → d.joined ≡ false
      → acting_side d home y given ≡ home
  frame-home (x.Begin t) given h u = begun-home (is_due d home t) t h u
  frame-home (x.Begun t) given h u = task-home t h u
  frame-home (x.Anew t) given h u = task-home t h u
  frame-home (x.Proxy y) given h u = waiting-home y given h u
  frame-home y given h u = refl

  pub frame-in : (y : Frame) (given : Option Outcome) → Holds d home (frame_held y) → home.0 < d.sides
      → (acting_side d home y given).0 < d.sides
  frame-in (x.Begin t) given h i = begun-in (is_due d home t) t i
  frame-in (x.Begun t) given h i = task-in t i
  frame-in (x.Anew t) given h i = task-in t i
  frame-in (x.Proxy y) given h i = waiting-in y given h i
  frame-in y given h i = i
