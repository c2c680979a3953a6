use Rattle.mb_scriptproxy.proofs.Resumed.{no-other-keys}
use Rattle.mb_scriptproxy.proofs.resuming.with_keys.Goals as goal

pub keys_read-requires : goal.keys_read-requires
keys_read-requires c =
    let a = rw c.in-KeysListed.is at c.requires.acts in
    record { acts = record { ready = a.ready; side = a.side; holds = (a.holds.1.0, (a.holds.1.1.0, (a.holds.0, tt))) } }

pub returns-clause-part : goal.returns-clause-part
returns-clause-part c = λ f. rw c.in-KeysListed.is (c.keys_read.ensures.part f)

pub returns-clause-keeps : goal.returns-clause-keeps
returns-clause-keeps c = rw c.in-KeysListed.is c.keys_read.ensures.keeps

pub unreachable-requires : goal.unreachable-requires
unreachable-requires c =
    let u = c.in_default in
    no-other-keys c.args.frame c.requires.waits u.not-KeysListed
