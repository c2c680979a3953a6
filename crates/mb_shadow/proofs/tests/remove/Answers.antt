use Rattle.mb_shadow.proofs.Changed.{remove-sees}
use Rattle.mb_shadow.proofs.tests.remove.Goals as goal

pub returns : goal.returns
returns g c = remove-sees c.args.w.now c.requires c.args.id c.plain.ensures.plain c.key-key.result c.remove.new.self c.remove.ensures.removed
