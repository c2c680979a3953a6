use Rattle.std.proofs.Common.{Err, Ok, Result, ◌≡◌}
use Rattle.std.specs.Prelude.{IfOk}
use Rattle.mb_base.specs.declared.value.Value.{Value}
use Rattle.mb_call.specs.machine.Throwing.{Throws}
use Rattle.mb_frames.proofs.Forming.{has-errors}
use Rattle.mb_call.proofs.errors.throws.Goals as goal
use Rattle.mb_frames.specs.declared.frame.Move.{Move}
use Rattle.mb_frames.specs.declared.frame.Move.TheVariants as move
use Rattle.mb_frames.specs.declared.machine.Halt.{Halt}
use Rattle.mb_frames.specs.declared.task.Outcome.TheVariants as o

thrown : (r : Result Move Halt) (x : Value) → IfOk r (λ m. m ≡ move.Done (o.Throw x)) → IfOk r Throws
thrown (Ok m) x h = (x, h)
thrown (Err halt) x h = tt

pub fail-requires-clause-prototype : goal.fail-requires-clause-prototype
fail-requires-clause-prototype c =
    has-errors c.args.w.now c.requires.ready.formed.built_ins c.args.home c.requires.side c.args.kind

pub returns-clause-keeps : goal.returns-clause-keeps
returns-clause-keeps c = λ wanted. c.fail.ensures.keeps wanted c.requires.ready c.requires.side tt

pub returns-clause-throws : goal.returns-clause-throws
returns-clause-throws c = thrown c.fail.result _ c.fail.ensures.thrown
