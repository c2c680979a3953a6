use Rattle.mb_frames.specs.Sorts.{AValue}
use Rattle.mb_frames.specs.declared.task.Answer.TheVariants as a
use Rattle.mb_frames.specs.declared.task.Outcome.TheVariants as o
use Rattle.mb_call.proofs.Leaving.{ends}
use Rattle.mb_call.proofs.giving.value.Goals as goal

pub returns-clause-leaves : goal.returns-clause-leaves
returns-clause-leaves c = λ home d h. ends d home AValue (o.Normal (a.Value c.args.x)) tt h

pub returns-clause-leaves_as : goal.returns-clause-leaves_as
returns-clause-leaves_as c = λ home d wanted s h. ends d home wanted (o.Normal (a.Value c.args.x)) s h
