use Rattle.std.proofs.Common.{sym, ◌∙◌}
use Rattle.mb_world.proofs.Values.{same-as}
use Rattle.mb_arrayapi.proofs.finding.equal.Goals as goal

pub returns : goal.returns
returns c =
    c.eq.ensures
    ∙ sym (same-as c.args.w.now c.texts-texts.ensures.distinct c.args.a c.args.b c.requires.left c.requires.right
    c.requires.apart)
