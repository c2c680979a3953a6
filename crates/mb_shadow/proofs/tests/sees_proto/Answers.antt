use Rattle.mb_shadow.proofs.tests.sees_proto.Goals as goal

pub returns : goal.returns
returns g c = c.seen_proto.ensures.world
