-- Who acts in a function: its owner, which is the home in a world that isn't joined.
use Rattle.std.proofs.Common.{◌<◌, ◌≡◌, ◌∙◌, ap, subst, sym, Bool, List, None, Option, Some, false, refl, true}
use Rattle.std.specs.List.{AllByRecursion}
use Rattle.mb_base.specs.declared.value.ObjId.{ObjId}
use Rattle.mb_base.specs.declared.value.Side.{Side}
use Rattle.mb_base.specs.declared.value.Value.{Value}
use Rattle.mb_call.specs.Ours.{Acts}
use Rattle.mb_call.specs.Owners.{owner_by, owner_of}
use Rattle.mb_call.specs.machine.Acting.{acting_side, begun_side, method_side, task_side}
use Rattle.mb_call.specs.Due.{is_due}
use Rattle.mb_frames.proofs.HeldCells.{code-held, reads-home}
use Rattle.mb_frames.proofs.HeldLess.{all-anywhere, function-object, is_of_no_home}
use Rattle.mb_frames.specs.Held.{Held, HeldObject}
use Rattle.mb_frames.specs.Holding.{frame_held, task_held}
use Rattle.mb_frames.specs.Ready.{Holds, IsReady, MayHold}
use Rattle.mb_frames.specs.declared.frame.Frame.{Frame}
use Rattle.mb_frames.specs.declared.frame.Frame.TheVariants as x
use Rattle.mb_frames.specs.declared.task.Method.{Method}
use Rattle.mb_frames.specs.declared.task.Method.TheVariants as method
use Rattle.mb_frames.specs.declared.task.Task.{Task}
use Rattle.mb_frames.specs.declared.task.Task.TheVariants as task
use Rattle.mb_world.proofs.Grow.{All-at}
use Rattle.mb_world.specs.Data.{Data, cell_at}
use Rattle.mb_world.specs.Formed.{FormedCell}
use Rattle.mb_world.specs.declared.cell.Cell.{Cell}
use Rattle.mb_world.specs.declared.cell.CellKind.{CellKind}
use Rattle.mb_world.specs.declared.cell.CellKind.TheVariants as kind
use Rattle.mb_world.specs.declared.cell.Code.{Code}

-- what says nothing of a home
abbrev pub AreOfNoHome : List Held → Type 0
AreOfNoHome ys = AllByRecursion (λ y. is_of_no_home y ≡ true) ys

module _ (d : Data) (home : Side) (id : ObjId) (c : Cell) (r : IsReady d) (there : cell_at d id ≡ Some c)
    (own : d.joined ≡ false → c.home ≡ home) where
  pub code-owner : (code : Code) → c.kind ≡ kind.Function code → code.side ≡ c.home
  code-owner code k = (code-held d r id c there code k).side

  pub owner-is : d.joined ≡ false → owner_by home c.kind ≡ home
  owner-is u = by c.kind refl
    where
      by : (k : CellKind) → c.kind ≡ k → owner_by home k ≡ home
      by (kind.Function code) e = code-owner code e ∙ own u
      by k e = refl

  pub owner-inside : home.0 < d.sides → (owner_by home c.kind).0 < d.sides
  owner-inside h = by c.kind refl
    where
      by : (k : CellKind) → c.kind ≡ k → (owner_by home k).0 < d.sides
      by (kind.Function code) e =
          subst (λ (s : Side). s.0 < d.sides) (sym (code-owner code e))
          (All-at (FormedCell d) d.cells id.0 c there r.formed.cells).home
      by k e = h

  pub holds-owner : (ys : List Held) → AreOfNoHome ys → Holds d home ys → Holds d (owner_by home c.kind) ys
  holds-owner ys e h = by d.joined refl
    where
      by : (b : Bool) → d.joined ≡ b → Holds d (owner_by home c.kind) ys
      by true u = all-anywhere d home (owner_by home c.kind) u ys e h
      by false u = subst (λ (s : Side). Holds d s ys) (sym (owner-is u)) h

  pub side-is : (side : Side) → side ≡ owner_of home (cell_at d id) → side ≡ owner_by home c.kind
  side-is side s = s ∙ ap (owner_of home) there

  -- the owner acts
  pub acts-owner : (side : Side) (ys : List Held) → side ≡ owner_of home (cell_at d id) → AreOfNoHome ys
      → Acts d home ys → Acts d side ys
  acts-owner side ys s e a =
      subst (λ (x : Side). Acts d x ys) (sym (side-is side s))
      (record { ready = r; side = owner-inside a.side; holds = holds-owner ys e a.holds })

-- ---- where a task and a frame go on

module _ (d : Data) (home : Side) (r : IsReady d) where
  owner-home : (id : ObjId) → MayHold d home (HeldObject id) → d.joined ≡ false → owner_of home (cell_at d id) ≡ home
  owner-home id h u = by (cell_at d id) refl
    where
      by : (o : Option Cell) → cell_at d id ≡ o → owner_of home o ≡ home
      by None e = refl
      by (Some c) e = owner-is d home id c r e (reads-home d home id c h e) u

  owner-in : (id : ObjId) → MayHold d home (HeldObject id) → home.0 < d.sides
      → (owner_of home (cell_at d id)).0 < d.sides
  owner-in id h i = by (cell_at d id) refl
    where
      by : (o : Option Cell) → cell_at d id ≡ o → (owner_of home o).0 < d.sides
      by None e = i
      by (Some c) e = owner-inside d home id c r e (reads-home d home id c h e) i

  method-home : (m : Method) (id : ObjId) → MayHold d home (HeldObject id) → d.joined ≡ false
      → method_side home m (cell_at d id) ≡ home
  method-home (method.Construct arguments target) id h u = owner-home id h u
  method-home m id h u = refl

  method-in : (m : Method) (id : ObjId) → MayHold d home (HeldObject id) → home.0 < d.sides
      → (method_side home m (cell_at d id)).0 < d.sides
  method-in (method.Construct arguments target) id h i = owner-in id h i
  method-in m id h i = i

  pub task-home : (t : Task) → Holds d home (task_held t) → d.joined ≡ false → task_side d home t ≡ home
  task-home (task.Perform m object viewer enters) h u = method-home m object h.0 u
  task-home (task.Enter function this arguments) h u =
      owner-home function (function-object d home function h.1.1.1.0) u
  task-home t h u = refl

  pub task-in : (t : Task) → Holds d home (task_held t) → home.0 < d.sides → (task_side d home t).0 < d.sides
  task-in (task.Perform m object viewer enters) h i = method-in m object h.0 i
  task-in (task.Enter function this arguments) h i = owner-in function (function-object d home function h.1.1.1.0) i
  task-in t h i = i

  begun-home : (b : Bool) (t : Task) → Holds d home (task_held t) → d.joined ≡ false → begun_side b d home t ≡ home
  begun-home true t h u = refl
  begun-home false t h u = task-home t h u

  begun-in : (b : Bool) (t : Task) → Holds d home (task_held t) → home.0 < d.sides
      → (begun_side b d home t).0 < d.sides
  begun-in true t h i = i
  begun-in false t h i = task-in t h i

  pub frame-home : (y : Frame) → Holds d home (frame_held y) → d.joined ≡ false → acting_side d home y ≡ home
  frame-home (x.Begin t) h u = begun-home (is_due d home t) t h u
  frame-home (x.Begun t) h u = task-home t h u
  frame-home (x.Anew t) h u = task-home t h u
  frame-home y h u = refl

  pub frame-in : (y : Frame) → Holds d home (frame_held y) → home.0 < d.sides → (acting_side d home y).0 < d.sides
  frame-in (x.Begin t) h i = begun-in (is_due d home t) t h i
  frame-in (x.Begun t) h i = task-in t h i
  frame-in (x.Anew t) h i = task-in t h i
  frame-in y h i = i

-- the owner of the function acts where it is entered
pub enter-acts : (d : Data) (home side : Side) (function : ObjId) (this : Value) (arguments : List Value)
    → Acts d home (task_held (task.Enter function this arguments)) → side ≡ owner_of home (cell_at d function)
    → Acts d side (task_held (task.Enter function this arguments))
enter-acts d home side function this arguments a s = by (cell_at d function) refl
  where
    ys : List Held
    ys = task_held (task.Enter function this arguments)

    by : (o : Option Cell) → cell_at d function ≡ o → Acts d side ys
    by None e = subst (λ (z : Side). Acts d z ys) (sym (s ∙ ap (owner_of home) e)) a
    by (Some c) e =
        acts-owner d home function c a.ready e
        (reads-home d home function c (function-object d home function a.holds.1.1.1.0) e) side ys s
        (refl, (refl, (refl, (refl, tt)))) a

kind-twice : (home : Side) (k : CellKind) → owner_by (owner_by home k) k ≡ owner_by home k
kind-twice home (kind.Function code) = refl
kind-twice home k = refl

-- an owner is its own side
pub owner-twice : (home side : Side) (o : Option Cell) → side ≡ owner_of home o → side ≡ owner_of side o
owner-twice home side None s = refl
owner-twice home side (Some c) s = s ∙ sym (kind-twice home c.kind) ∙ ap (λ (z : Side). owner_by z c.kind) (sym s)
