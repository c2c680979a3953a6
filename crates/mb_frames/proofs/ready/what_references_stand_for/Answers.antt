use Rattle.mb_frames.proofs.Apartness.{names-real, value-real, values-apart}
use Rattle.mb_frames.proofs.ready.what_references_stand_for.Goals as goal

pub returns-clause-real : goal.returns-clause-real
returns-clause-real c home d x r h = value-real d r home x h

pub returns-clause-names : goal.returns-clause-names
returns-clause-names c d r = names-real d r

pub returns-clause-apart : goal.returns-clause-apart
returns-clause-apart c home d x y r h k = values-apart d r home x y h k
