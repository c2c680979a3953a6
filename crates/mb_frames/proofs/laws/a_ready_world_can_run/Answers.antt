use Rattle.mb_frames.proofs.Constructing.{ready-prototypes}
use Rattle.mb_frames.proofs.Forms.{ready-runs}
use Rattle.mb_frames.proofs.laws.a_ready_world_can_run.Goals as goal

pub returns-clause-runs : goal.returns-clause-runs
returns-clause-runs c d home r h = ready-runs d home r h

pub returns-clause-prototypes : goal.returns-clause-prototypes
returns-clause-prototypes c d home r h = ready-prototypes d home r h
