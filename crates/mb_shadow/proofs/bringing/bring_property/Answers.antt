use Rattle.mb_shadow.proofs.Sees.{can-see-crossed}
use Rattle.mb_shadow.proofs.Brought.{property-brought}
use Rattle.mb_shadow.proofs.bringing.bring_property.Goals as goal

pub returns-clause-own : goal.returns-clause-own
returns-clause-own c = property-brought c.args.w.now c.cross_full.new.w c.cross_full.ensures.stays.becomes c.args.from c.args.to c.args.property
    c.cross_full.result c.requires.property c.cross_full.ensures.within (c.cross_full.ensures.own c.requires.world.apart) c.cross_full.ensures.meaning

pub returns-clause-world : goal.returns-clause-world
returns-clause-world c = can-see-crossed c.args.w.now c.cross_full.new.w c.requires.world c.cross_full.ensures.stays
