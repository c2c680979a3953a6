use Rattle.mb_frames.specs.Sorts.{AProperty}
use Rattle.mb_frames.specs.declared.task.Answer.TheVariants as a
use Rattle.mb_frames.specs.declared.task.Outcome.TheVariants as o
use Rattle.mb_call.proofs.Leaving.{ends}
use Rattle.mb_call.proofs.giving.property.Goals as goal

pub returns-clause-leaves : goal.returns-clause-leaves
returns-clause-leaves c = λ home d h. ends d home AProperty (o.Normal (a.Prop c.args.found)) tt h
