use Rattle.std.proofs.Common.{◌≡◌, false, true}
use Rattle.mb_maps.proofs.Worlds.{crossed-then}
use Rattle.mb_maps.proofs.Fulls.{setter-foreign, setter-known, accessor-value, accessor-own, accessor-back}
use Rattle.mb_maps.proofs.crossing.cross_full.Goals as goal

pub cross-requires-in-Accessor-2-clause-foreign : goal.cross-requires-in-Accessor-2-clause-foreign
cross-requires-in-Accessor-2-clause-foreign c =
    setter-foreign c.args.w.now c.cross-in-Accessor.new.w c.args.full c.in-Accessor.get c.in-Accessor.set c.in-Accessor.enumerable c.in-Accessor.configurable c.in-Accessor.is
    c.args.to c.in_ok-get-in-Accessor.ensures.stays c.requires.world c.requires.value c.requires.foreign

pub returns-in_err-set-in-Accessor-clause-known : goal.returns-in_err-set-in-Accessor-clause-known
returns-in_err-set-in-Accessor-clause-known c = λ h.
    let refused : false ≡ true = c.in_err-set-in-Accessor.ensures.known
    (setter-known c.args.w.now c.cross-in-Accessor.new.w c.args.full c.in-Accessor.get c.in-Accessor.set c.in-Accessor.enumerable c.in-Accessor.configurable c.in-Accessor.is
    c.args.to c.in_ok-get-in-Accessor.ensures.stays c.requires.world c.requires.value h) in
    cc

pub returns-in_err-set-in-Accessor-clause-stays : goal.returns-in_err-set-in-Accessor-clause-stays
returns-in_err-set-in-Accessor-clause-stays c =
    crossed-then c.args.w.now c.cross-in-Accessor.new.w c.cross-in-Accessor-2.new.w c.in_ok-get-in-Accessor.ensures.stays c.in_err-set-in-Accessor.ensures.stays

pub returns-in_ok-set-in-Accessor-clause-value : goal.returns-in_ok-set-in-Accessor-clause-value
returns-in_ok-set-in-Accessor-clause-value c =
    accessor-value c.args.w.now c.cross-in-Accessor.new.w c.args.full c.in-Accessor.get c.in-Accessor.set c.in-Accessor.enumerable c.in-Accessor.configurable c.in-Accessor.is
    c.args.to c.in_ok-get-in-Accessor.ensures.stays c.requires.world c.requires.value
    c.cross-in-Accessor-2.new.w c.in_ok-set-in-Accessor.ensures.stays c.in_ok-get-in-Accessor.get c.in_ok-set-in-Accessor.set
    c.in_ok-get-in-Accessor.ensures.value c.in_ok-set-in-Accessor.ensures.value

pub returns-in_ok-set-in-Accessor-clause-stays : goal.returns-in_ok-set-in-Accessor-clause-stays
returns-in_ok-set-in-Accessor-clause-stays c =
    crossed-then c.args.w.now c.cross-in-Accessor.new.w c.cross-in-Accessor-2.new.w c.in_ok-get-in-Accessor.ensures.stays c.in_ok-set-in-Accessor.ensures.stays

pub returns-in_ok-set-in-Accessor-clause-own : goal.returns-in_ok-set-in-Accessor-clause-own
returns-in_ok-set-in-Accessor-clause-own c =
    accessor-own c.args.w.now c.cross-in-Accessor.new.w c.args.full c.in-Accessor.get c.in-Accessor.set c.in-Accessor.enumerable c.in-Accessor.configurable c.in-Accessor.is
    c.args.to c.in_ok-get-in-Accessor.ensures.stays c.requires.world c.requires.value
    c.cross-in-Accessor-2.new.w c.in_ok-set-in-Accessor.ensures.stays c.in_ok-get-in-Accessor.get c.in_ok-set-in-Accessor.set
    c.in_ok-get-in-Accessor.ensures.own c.in_ok-set-in-Accessor.ensures.own

pub returns-in_ok-set-in-Accessor-clause-back : goal.returns-in_ok-set-in-Accessor-clause-back
returns-in_ok-set-in-Accessor-clause-back c =
    accessor-back c.args.w.now c.cross-in-Accessor.new.w c.args.full c.in-Accessor.get c.in-Accessor.set c.in-Accessor.enumerable c.in-Accessor.configurable c.in-Accessor.is
    c.args.to c.in_ok-get-in-Accessor.ensures.stays c.requires.world c.requires.value
    c.cross-in-Accessor-2.new.w c.in_ok-set-in-Accessor.ensures.stays c.in_ok-get-in-Accessor.get c.in_ok-set-in-Accessor.set
    c.in_ok-get-in-Accessor.ensures.within c.in_ok-get-in-Accessor.ensures.back c.in_ok-set-in-Accessor.ensures.back
