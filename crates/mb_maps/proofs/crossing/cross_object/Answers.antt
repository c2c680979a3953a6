use Rattle.std.proofs.Common.{◌∙◌, sym, ap}
use Rattle.mb_maps.specs.Crossing.{object_for}
use Rattle.mb_maps.proofs.Worlds.{crossed-same}
use Rattle.mb_maps.proofs.Calls.{crossed-some, object-by, value-by, crossed-by, stays-by}
use Rattle.mb_maps.proofs.crossing.cross_object.Goals as goal

pub make_proxy-requires-clause-object : goal.make_proxy-requires-clause-object
make_proxy-requires-clause-object c =
    object-by c.args.w.now c.args.to c.args.id c.requires.side c.requires.apart c.requires.world c.requires.foreign c.meant-object.ensures.ids
    c.meant-object.result c.meant-object.ensures.value c.in-None.ensures.value

pub returns-in-Some-clause-crossed : goal.returns-in-Some-clause-crossed
returns-in-Some-clause-crossed c =
    sym (crossed-some c.args.w.now c.args.to c.args.id c.requires.side c.requires.apart c.requires.world c.requires.foreign c.in-Some.own
    (ap (object_for c.args.w.now c.args.to) (sym c.meant-object.ensures.value) ∙ sym c.in-Some.ensures.value))

pub returns-in-Some-clause-stays : goal.returns-in-Some-clause-stays
returns-in-Some-clause-stays c = crossed-same c.args.w.now

pub returns-in-None-clause-value : goal.returns-in-None-clause-value
returns-in-None-clause-value c =
    value-by c.args.w.now c.args.to c.args.id c.requires.side c.requires.apart c.requires.world c.requires.foreign c.meant-object.ensures.ids
    c.meant-object.result c.meant-object.ensures.value c.in-None.ensures.value c.make_proxy.new.w c.make_proxy.result c.make_proxy.ensures.made c.make_proxy.ensures.id

pub returns-in-None-clause-crossed : goal.returns-in-None-clause-crossed
returns-in-None-clause-crossed c =
    crossed-by c.args.w.now c.args.to c.args.id c.requires.side c.requires.apart c.requires.world c.requires.foreign c.meant-object.ensures.ids
    c.meant-object.result c.meant-object.ensures.value c.in-None.ensures.value c.make_proxy.new.w c.make_proxy.result c.make_proxy.ensures.made

pub returns-in-None-clause-stays : goal.returns-in-None-clause-stays
returns-in-None-clause-stays c =
    stays-by c.args.w.now c.args.to c.args.id c.requires.side c.requires.apart c.requires.world c.requires.foreign c.meant-object.ensures.ids
    c.meant-object.result c.meant-object.ensures.value c.in-None.ensures.value c.make_proxy.new.w c.make_proxy.result c.make_proxy.ensures.made c.make_proxy.ensures.refused
