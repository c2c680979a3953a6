use Rattle.mb_shadow.proofs.tests.follow_whole.Goals as goal

pub returns : goal.returns
returns g c = c.follow.ensures.stays.can_see
