use Rattle.mb_frames.specs.Sorts.{SomeKeys}
use Rattle.mb_frames.specs.declared.task.Answer.TheVariants as a
use Rattle.mb_frames.specs.declared.task.Outcome.TheVariants as o
use Rattle.mb_call.proofs.Leaving.{ends}
use Rattle.mb_call.proofs.giving.keys.Goals as goal

pub returns-clause-leaves : goal.returns-clause-leaves
returns-clause-leaves c = λ home d h. ends d home SomeKeys (o.Normal (a.Keys c.from.result)) tt (rw c.from.ensures h)
