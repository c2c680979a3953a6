use Rattle.mb_frames.specs.Sorts.{AFlag}
use Rattle.mb_frames.specs.declared.task.Answer.TheVariants as a
use Rattle.mb_frames.specs.declared.task.Outcome.TheVariants as o
use Rattle.mb_call.proofs.Leaving.{ends}
use Rattle.mb_call.proofs.giving.yes_or_no.Goals as goal

pub returns-clause-leaves : goal.returns-clause-leaves
returns-clause-leaves c = λ home d. ends d home AFlag (o.Normal (a.Flag c.args.b)) tt tt
