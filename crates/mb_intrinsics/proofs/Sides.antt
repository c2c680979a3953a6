-- What a side that acts has, and what it keeps after a change.
use Rattle.std.proofs.Common.{Err, List, Ok, Result, [], ◌<◌, ◌∷◌}
use Rattle.mb_base.specs.declared.value.Side.{Side}
use Rattle.mb_base.specs.declared.value.Value.{Value}
use Rattle.mb_frames.proofs.Apartness.{value-real}
use Rattle.mb_frames.proofs.Keeping.{inside-still, keeps-halted, keeps-left, keeps-then, leaves-value}
use Rattle.mb_frames.proofs.Leaving.{holds-still}
use Rattle.mb_frames.proofs.Readying.{changed-same}
use Rattle.mb_frames.specs.Held.{Held, HeldValue}
use Rattle.mb_frames.specs.Ready.{Changed, IsReady, Keeps, KeepsBy, MayHold}
use Rattle.mb_frames.specs.Real.{IsReal}
use Rattle.mb_frames.specs.Sorts.{AValue}
use Rattle.mb_frames.specs.declared.frame.Move.{Move}
use Rattle.mb_frames.specs.declared.frame.Move.TheVariants as move
use Rattle.mb_frames.specs.declared.machine.Halt.{Halt}
use Rattle.mb_frames.specs.declared.task.Answer.TheVariants as a
use Rattle.mb_frames.specs.declared.task.Outcome.TheVariants as o
use Rattle.mb_intrinsics.specs.machine.Acting.{Acting}
use Rattle.mb_parts.proofs.Acting.{ready-acts}
use Rattle.mb_parts.specs.Standing.{Acts}
use Rattle.mb_world.specs.Data.{Data}

module _ (d : Data) (home : Side) (held : List Held) (act : Acting d home held) where
  pub acts : Acts d home
  acts = ready-acts d home act.ready act.takes_part

  module _ (d1 : Data) (k : Changed home d d1) where
    pub acts-after : Acts d1 home
    acts-after = ready-acts d1 home k.ready (inside-still home d d1 k act.takes_part)

    pub acting-after : Acting d1 home held
    acting-after = record {
      ready = k.ready;
      takes_part = inside-still home d d1 k act.takes_part;
      holds = holds-still home d d1 act.ready k held act.holds;
    }

    -- an error that is thrown then
    pub thrown-after : (r : Result Move Halt) (d2 : Data) → Keeps home AValue [] r d1 d2 → KeepsBy home AValue r d d2
    thrown-after r d2 h = keeps-then home AValue r d d1 d2 k (h k.ready (inside-still home d d1 k act.takes_part) tt)

    -- a value that is given then
    pub given-after : (x : Value) → MayHold d1 home (HeldValue x)
        → KeepsBy home AValue (Ok (move.Done (o.Normal (a.Value x)))) d d1
    given-after x h = keeps-left home AValue (move.Done (o.Normal (a.Value x))) d d1 k (leaves-value d1 home x h)

    pub halted-after : (halt : Halt) → KeepsBy home AValue (Err halt) d d1
    halted-after halt = keeps-halted home AValue halt d d1 k

  pub thrown : (r : Result Move Halt) (d2 : Data) → Keeps home AValue [] r d d2 → KeepsBy home AValue r d d2
  thrown r d2 h = h act.ready act.takes_part tt

  pub halted : (halt : Halt) → KeepsBy home AValue (Err halt) d d
  halted halt = keeps-halted home AValue halt d d (changed-same home d act.ready)

  pub given : (x : Value) → MayHold d home (HeldValue x)
      → KeepsBy home AValue (Ok (move.Done (o.Normal (a.Value x)))) d d
  given x h = given-after d (changed-same home d act.ready) x h

pub real-of : (d : Data) (home : Side) (x : Value) → IsReady d → MayHold d home (HeldValue x) → IsReal d x
real-of d home x r h = value-real d r home x h
