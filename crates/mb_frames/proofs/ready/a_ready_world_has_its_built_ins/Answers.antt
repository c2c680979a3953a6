use Rattle.mb_frames.proofs.Forming.{has-errors}
use Rattle.mb_frames.proofs.ready.a_ready_world_has_its_built_ins.Goals as goal

pub returns-clause-built_ins : goal.returns-clause-built_ins
returns-clause-built_ins c d h = h.formed.built_ins

pub returns-clause-errors : goal.returns-clause-errors
returns-clause-errors c d h side i kind = has-errors d h.formed.built_ins side i kind
