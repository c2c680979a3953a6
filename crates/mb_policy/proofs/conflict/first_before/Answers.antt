use Rattle.std.proofs.Common.{sym}
use Rattle.mb_policy.proofs.Links.{none-at}
use Rattle.mb_policy.proofs.conflict.first_before.Goals as goal

pub returns-else-has_clash-clause-first : goal.returns-else-has_clash-clause-first
returns-else-has_clash-clause-first c = sym (none-at c.args.rules.now c.args.place (c.has_clash.ensures c.if-has_clash.false))
