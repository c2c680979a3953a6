use Rattle.std.proofs.Common.{ap}
use Rattle.mb_engine.proofs.Desk.{can-cross, crosses, desk-foreign, desk-in, first-held, held-by, stands-by, stays}
use Rattle.mb_intrinsics.proofs.Homes.{on-ok}
use Rattle.mb_world.specs.Data.{Data}
use Rattle.mb_engine.proofs.beginning.own_desk.Goals as goal

pub cross-own-requires-clause-world : goal.cross-own-requires-clause-world
cross-own-requires-clause-world c e = can-cross c.args.w.now e c.requires.ready

pub returns-clause-crosses : goal.returns-clause-crosses
returns-clause-crosses c =
    on-ok c.cross-own.result
    (crosses c.args.w.now c.cross-own.new.w c.args.desk c.requires.ready c.requires.desk
    (λ e. (c.cross-own.ensures.joined e).1) c.cross-own.ensures.stays c.cross-own.ensures.paired
    c.texts-texts.ensures.ids) c.cross-own.ensures.runs

pub returns-clause-held : goal.returns-clause-held
returns-clause-held c =
    held-by c.args.w.now c.cross-own.new.w c.args.side c.args.desk c.cross-own.result (returns-clause-crosses c)
    c.cross-own.ensures.within c.cross-own.ensures.own c.cross-own.ensures.value

pub returns-clause-stands : goal.returns-clause-stands
returns-clause-stands c =
    stands-by c.args.w.now c.cross-own.new.w c.args.desk c.cross-own.result c.requires.desk c.cross-own.ensures.meaning

pub returns-clause-joined : goal.returns-clause-joined
returns-clause-joined c = ap (λ (d : Data). d.joined) c.cross-own.ensures.stays.rest
