use Rattle.mb_intrinsics.proofs.FirstGraph.{first-image}
use Rattle.mb_intrinsics.proofs.laws.a_furnished_world_shows_the_first_graph.Goals as goal

pub returns : goal.returns
returns c d d' n i u cells symbols revoked queues f = first-image d d' n i u cells symbols revoked queues f
