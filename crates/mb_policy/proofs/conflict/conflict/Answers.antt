use Rattle.mb_policy.proofs.Pairs.{conflict-by-ids}
use Rattle.mb_policy.proofs.conflict.conflict.Goals as goal

pub returns : goal.returns
returns c = rw (conflict-by-ids c.args.texts.now c.has_each_once.ensures c.args.rules.now c.requires.ids) c.first_conflict.ensures
