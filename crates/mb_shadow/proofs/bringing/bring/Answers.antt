use Rattle.mb_shadow.proofs.Sees.{can-see-crossed}
use Rattle.mb_shadow.proofs.bringing.bring.Goals as goal

pub returns-clause-world : goal.returns-clause-world
returns-clause-world c = can-see-crossed c.args.w.now c.cross.new.w c.requires.world c.cross.ensures.stays
