use Rattle.std.proofs.Common.{Some, None, ap, sym, ◌∙◌, option_map, [], ◌∷◌}
use Rattle.mb_world.specs.Image.{names_of, key_in, full_in}
use Rattle.mb_shadow.specs.machine.Sights.{Held, Replaced}
use Rattle.mb_shadow.proofs.Steps.{crossed-followed}
use Rattle.mb_shadow.proofs.Stable.{shadow-in}
use Rattle.mb_shadow.proofs.Replacing.{on-ok, replaced-one}
use Rattle.mb_shadow.proofs.following.replace.Goals as goal

pub returns-in-Some-clause-replaced : goal.returns-in-Some-clause-replaced
returns-in-Some-clause-replaced c = on-ok
    (Held c.property_seen.new.w c.put.new.w c.args.sight.shadow (key_in (names_of c.property_seen.new.w) c.args.key)
    (Some (full_in (names_of c.property_seen.new.w) c.in-Some.property)))
    (Replaced c.args.w.now c.put.new.w c.args.sight (key_in (names_of c.args.w.now) c.args.key ∷ []))
    (λ held. replaced-one c.args.w.now c.property_seen.new.w c.args.sight c.requires.world c.requires.sight c.property_seen.ensures.stays c.args.key
    c.requires.key (Some (full_in (names_of c.property_seen.new.w) c.in-Some.property))
    (ap (option_map (full_in (names_of c.property_seen.new.w))) (sym c.in-Some.is) ∙ c.in_ok-seen.ensures.meaning) c.put.new.w held)
    c.put.result c.put.ensures.put

pub returns-in-Some-clause-stays : goal.returns-in-Some-clause-stays
returns-in-Some-clause-stays c = crossed-followed c.args.w.now c.property_seen.new.w c.put.new.w c.args.sight.shadow
    (shadow-in c.args.w.now c.args.sight c.requires.sight) c.requires.world c.property_seen.ensures.stays c.put.ensures.stays

pub returns-in-None-clause-replaced : goal.returns-in-None-clause-replaced
returns-in-None-clause-replaced c = replaced-one c.args.w.now c.property_seen.new.w c.args.sight c.requires.world c.requires.sight
    c.property_seen.ensures.stays c.args.key c.requires.key None
    (ap (option_map (full_in (names_of c.property_seen.new.w))) (sym c.in-None.is) ∙ c.in_ok-seen.ensures.meaning) c.remove.new.w
    c.remove.ensures.removed

pub returns-in-None-clause-stays : goal.returns-in-None-clause-stays
returns-in-None-clause-stays c = crossed-followed c.args.w.now c.property_seen.new.w c.remove.new.w c.args.sight.shadow
    (shadow-in c.args.w.now c.args.sight c.requires.sight) c.requires.world c.property_seen.ensures.stays c.remove.ensures.stays
