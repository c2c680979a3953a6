use Rattle.mb_call.proofs.Reality.{getter-told, setter-told}
use Rattle.mb_call.proofs.saying.seen_desc.Goals as goal

pub seen_if-requires-2-clause-real : goal.seen_if-requires-2-clause-real
seen_if-requires-2-clause-real c = getter-told c.args.w.now c.args.desc c.requires.real

pub seen_if-requires-3-clause-real : goal.seen_if-requires-3-clause-real
seen_if-requires-3-clause-real c = setter-told c.args.w.now c.args.desc c.requires.real
