use Rattle.mb_parts.proofs.Writing.{TextsGrew-text}
use Rattle.mb_parts.proofs.conversions.word.Goals as goal

pub returns-clause-grew : goal.returns-clause-grew
returns-clause-grew c =
    TextsGrew-text c.args.w.now c.intern.new.self c.args.units.now c.texts-before.ensures.ids c.texts-after.ensures.ids
    c.in-Ok.ensures.texts
