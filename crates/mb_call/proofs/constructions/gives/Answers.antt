use Rattle.mb_base.specs.declared.value.Value.TheVariants as v
use Rattle.mb_call.proofs.Leaving.{ends}
use Rattle.mb_call.proofs.constructions.gives.Goals as goal
use Rattle.mb_frames.proofs.HeldLess.{object-value}
use Rattle.mb_frames.proofs.Steps.{Sure-value}
use Rattle.mb_frames.specs.Sorts.{AnObject}
use Rattle.mb_frames.specs.declared.task.Answer.TheVariants as a
use Rattle.mb_frames.specs.declared.task.Outcome.TheVariants as o

pub returns-clause-sure : goal.returns-clause-sure
returns-clause-sure c = λ home d h. Sure-value home d (v.Object c.args.object) h

pub returns-clause-leaves : goal.returns-clause-leaves
returns-clause-leaves c = λ home d h.
    ends d home AnObject (o.Normal (a.Value (v.Object c.args.object))) tt
    (object-value d home c.args.object h.0, tt)
