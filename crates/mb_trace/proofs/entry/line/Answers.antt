use Rattle.mb_trace.proofs.Told.{entry-told, side-in}
use Rattle.mb_trace.proofs.entry.line.Goals as goal

pub whole_line-requires-clause-side : goal.whole_line-requires-clause-side
whole_line-requires-clause-side c = side-in c.args.w.now c.texts-texts.ensures.ids c.args.entry.now c.requires.entry

pub whole_line-requires-clause-told : goal.whole_line-requires-clause-told
whole_line-requires-clause-told c = entry-told c.args.w.now c.texts-texts.ensures.ids c.texts-texts.ensures.distinct c.args.entry.now c.requires.entry
