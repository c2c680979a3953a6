use Rattle.std.proofs.Common.{ap, is_some}
use Rattle.mb_shadow.proofs.Stable.{seen-there}
use Rattle.mb_shadow.proofs.tests.asked.is_seen.Goals as goal

pub returns : goal.returns
returns g c = seen-there c.args.w.now c.args.proxy c.sight_of.result c.sight_of.ensures.view c.sight_of.ensures.sight (ap (λ o. is_some o) c.in-Some.is)
