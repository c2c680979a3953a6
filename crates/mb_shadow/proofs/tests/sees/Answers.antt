use Rattle.mb_shadow.proofs.tests.sees.Goals as goal

pub returns : goal.returns
returns g c = c.seen.ensures.world
