use Rattle.mb_intrinsics.proofs.Homes.{furnished, same-texts}
use Rattle.mb_intrinsics.proofs.furnishing.add_all.Goals as goal

pub add_desk-requires-clause-texts : goal.add_desk-requires-clause-texts
add_desk-requires-clause-texts c =
    same-texts c.intern_all.new.w c.add_each.new.w _ c.in_ok-add_each.ensures.added
    c.in_ok-intern_all.ensures.gains.there

pub returns-clause-furnished : goal.returns-clause-furnished
returns-clause-furnished c sides =
    furnished c.args.w.now c.intern_all.new.w c.add_each.new.w c.add_desk.new.w c.args.sides sides
    c.in_ok-intern_all.ensures.gains c.in_ok-add_each.ensures.added c.in_ok-add_desk.ensures.added
