use Rattle.mb_call.proofs.Reality.{desc-told}
use Rattle.mb_call.proofs.saying.said_given.Goals as goal

pub seen_desc-requires-clause-real : goal.seen_desc-requires-clause-real
seen_desc-requires-clause-real c = desc-told c.args.w.now c.in-Desc.desc (rw c.in-Desc.is at c.requires.real)
