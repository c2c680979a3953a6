use Rattle.mb_shadow.proofs.Changed.{closed-sees}
use Rattle.mb_shadow.proofs.tests.close.Goals as goal

pub returns : goal.returns
returns g c = closed-sees c.args.w.now c.requires c.args.id c.plain.ensures.plain c.close.new.self c.close.ensures
