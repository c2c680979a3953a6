use Rattle.mb_frames.proofs.Noting.{noted-found, noted-world}
use Rattle.mb_frames.proofs.ready.an_entry_leaves_a_world_ready.Goals as goal

pub returns-clause-ready : goal.returns-clause-ready
returns-clause-ready c d e r j h side began = noted-world d e r j h side began

pub returns-clause-found : goal.returns-clause-found
returns-clause-found c d e r = noted-found d e r.ids
