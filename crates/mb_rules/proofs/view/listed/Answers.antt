use Rattle.mb_rules.proofs.Views.{listed-is}
use Rattle.mb_rules.proofs.view.listed.Goals as goal

pub returns : goal.returns
returns c = listed-is c.args.w.now c.args.id c.args.viewer c.args.key c.shown.result c.is_some.result c.is_some.ensures c.shown.ensures.meant
