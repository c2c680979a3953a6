use Rattle.mb_shadow.proofs.Sees.{can-see-crossed}
use Rattle.mb_shadow.proofs.tests.crosses.Goals as goal

pub returns : goal.returns
returns g c = can-see-crossed c.args.w.now c.cross.new.w c.requires c.cross.ensures.stays
