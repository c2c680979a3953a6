use Rattle.mb_frames.specs.Sorts.{AFlag}
use Rattle.mb_scriptproxy.proofs.giving.yes_or_no.Goals as goal

pub returns-clause-sure : goal.returns-clause-sure
returns-clause-sure c = λ home d. c.gives.ensures.sure home d tt

pub returns-clause-leaves : goal.returns-clause-leaves
returns-clause-leaves c = λ home d. c.gives.ensures.leaves home d AFlag tt tt
