-- Entries: what one is given, and what the step keeps that makes one.
use Rattle.std.specs.Prelude.{None, Option, Result, Some}
use Rattle.mb_base.specs.declared.value.Key.{Key}
use Rattle.mb_base.specs.declared.value.Side.{Side}
use Rattle.mb_frames.specs.Ready.{IsReady, KeepsBy, LeavesBy}
use Rattle.mb_frames.specs.Sorts.{Sort, frame_sort}
use Rattle.mb_frames.specs.Standing.{forms_at}
use Rattle.mb_frames.specs.Wholeness.{StaysFound}
use Rattle.mb_frames.specs.declared.frame.Frame.{Frame}
use Rattle.mb_frames.specs.declared.frame.Frame.TheVariants as x
use Rattle.mb_frames.specs.declared.frame.Given.{Given}
use Rattle.mb_frames.specs.declared.frame.Given.TheVariants as given
use Rattle.mb_frames.specs.declared.frame.Move.{Move}
use Rattle.mb_frames.specs.declared.machine.Halt.{Halt}
use Rattle.mb_frames.specs.declared.task.Method.{Method}
use Rattle.mb_frames.specs.declared.task.Method.TheVariants as m
use Rattle.mb_world.specs.Data.{Data}

-- the key of a method's entry
abbrev pub key_given : Method → Option Key
key_given (m.GetOwnProperty key) = Some key
key_given (m.DefineOwnProperty key desc) = Some key
key_given (m.HasProperty key) = Some key
key_given (m.Get key receiver) = Some key
key_given (m.Set key value receiver) = Some key
key_given (m.Delete key) = Some key
key_given method = None

-- what a method's entry gives
abbrev pub method_given : Method → Given
method_given (m.SetPrototypeOf proto) = given.Value proto
method_given (m.DefineOwnProperty key desc) = given.Desc desc
method_given (m.Set key value receiver) = given.Value value
method_given method = given.Nothing

-- an entry was added: the world is ready, and what was found stays found
pub record KeepsNoting (home : Side) (wanted : Sort) (result : Result Move Halt) (d d' : Data) : Type 0 where
  pub ready : IsReady d'
  pub found : StaysFound d d'
  pub leaves : LeavesBy d' home wanted result

-- what a frame of a home keeps that goes on at the home of the side that acts
abbrev pub KeepsFrame : (home acts : Side) → Frame → Sort → Result Move Halt → Data → Data → Type 0
KeepsFrame home acts (x.Entry y) sort result d d' =
    KeepsNoting acts (frame_sort (forms_at d home) (x.Entry y) sort) result d d'
KeepsFrame home acts frame sort result d d' =
    KeepsBy acts (frame_sort (forms_at d home) frame sort) result d d'
