use Rattle.mb_frames.proofs.Leaving.{holds-in, holds-own, leaves-formed}
use Rattle.mb_frames.proofs.ready.what_a_part_leaves.Goals as goal

pub returns-clause-formed : goal.returns-clause-formed
returns-clause-formed c d home wanted m i h = leaves-formed d home wanted i m h

pub returns-clause-ids : goal.returns-clause-ids
returns-clause-ids c d home held h = holds-in d home held h

pub returns-clause-own : goal.returns-clause-own
returns-clause-own c d home held u h = holds-own d home held u h
