use Rattle.std.proofs.Common.{arith}
use Rattle.mb_engine.proofs.Ending.{outcome-ends, throw-ends}
use Rattle.mb_frames.specs.Stepping.{written}
use Rattle.mb_parts.proofs.Writing.{TextsGrew-same}
use Rattle.mb_engine.proofs.turns.ended.Goals as goal

pub note_uncaught-requires-clause-side : goal.note_uncaught-requires-clause-side
note_uncaught-requires-clause-side c = omega (arith, c.requires.side, c.requires.ready.formed.sides.1)

pub note_uncaught-requires-clause-value : goal.note_uncaught-requires-clause-value
note_uncaught-requires-clause-value c = (rw c.in-Throw.is at c.requires.thrown).0

pub note_uncaught-requires-clause-real : goal.note_uncaught-requires-clause-real
note_uncaught-requires-clause-real c = (rw c.in-Throw.is at c.requires.thrown).1

pub returns-in-Ok-clause-turns : goal.returns-in-Ok-clause-turns
returns-in-Ok-clause-turns c = λ log e.
    rw c.in-Throw.is
    (throw-ends c.args.w.now c.note_uncaught.new.w (written c.args.lines.now) (written c.note_uncaught.new.lines) log
    c.args.side.0 c.in-Throw.thrown e c.note_uncaught.ensures.grew (c.in-Ok.ensures.line log))

pub returns-in_default-clause-turns : goal.returns-in_default-clause-turns
returns-in_default-clause-turns c = λ log e.
    outcome-ends c.args.w.now (written c.args.lines.now) log c.args.side.0 c.args.outcome.now e c.in_default.not-Throw

pub returns-in_default-clause-grew : goal.returns-in_default-clause-grew
returns-in_default-clause-grew c = TextsGrew-same c.args.w.now c.requires.ready.ids
