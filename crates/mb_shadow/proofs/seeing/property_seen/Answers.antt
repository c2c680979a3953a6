use Rattle.mb_maps.proofs.Worlds.{crossed-same}
use Rattle.mb_shadow.proofs.Owned.{seen-of}
use Rattle.mb_shadow.proofs.seeing.property_seen.Goals as goal

pub bring_property-requires-clause-property : goal.bring_property-requires-clause-property
bring_property-requires-clause-property c = seen-of c.args.w.now c.requires.world c.args.sight c.requires.sight c.home-from.result
    c.home-from.ensures.value c.args.key c.in-Some.property c.in-Some.ensures.meant c.in-Some.ensures.own c.in-Some.ensures.within

pub returns-in-None-clause-stays : goal.returns-in-None-clause-stays
returns-in-None-clause-stays c = crossed-same c.args.w.now
