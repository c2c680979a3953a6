use Rattle.mb_call.proofs.Reality.{desc-told}
use Rattle.mb_call.proofs.saying.said_answer.Goals as goal

pub seen_desc-requires-clause-real : goal.seen_desc-requires-clause-real
seen_desc-requires-clause-real c = desc-told c.args.w.now c.in-Given.desc (rw c.in-Given.is at c.requires.real)
