use Rattle.std.proofs.Common.{ap, ◌∙◌}
use Rattle.mb_engine.proofs.Ending.{turn-follows, turn-stuck}
use Rattle.mb_frames.proofs.Forming.{Found-then}
use Rattle.mb_frames.specs.Stepping.{written}
use Rattle.mb_parts.proofs.Texting.{texts-changed}
use Rattle.mb_world.specs.Data.{Data}
use Rattle.mb_engine.proofs.turns.end_of.Goals as goal

pub ended-requires-clause-side : goal.ended-requires-clause-side
ended-requires-clause-side c = rw c.outcome_of.ensures.found.grew.sides c.requires.side

pub ended-requires-clause-thrown : goal.ended-requires-clause-thrown
ended-requires-clause-thrown c = c.in-Ok.ensures.thrown

pub returns-in-Ok-clause-turns : goal.returns-in-Ok-clause-turns
returns-in-Ok-clause-turns c = λ log e.
    turn-follows c.ended.result c.outcome_of.new.w c.ended.new.w c.outcome_of.new.fuel (written c.args.lines.now)
    (written c.outcome_of.new.lines) (written c.ended.new.lines) log c.args.side.0 c.in-Ok.outcome _
    (c.in-Ok.ensures.ends log e) c.ended.ensures.turns

pub returns-in-Ok-clause-ready : goal.returns-in-Ok-clause-ready
returns-in-Ok-clause-ready c =
    (texts-changed c.args.side c.outcome_of.new.w c.ended.new.w c.ended.ensures.grew c.outcome_of.ensures.ready).ready

pub returns-in-Ok-clause-found : goal.returns-in-Ok-clause-found
returns-in-Ok-clause-found c =
    Found-then c.args.w.now c.outcome_of.new.w c.ended.new.w c.outcome_of.ensures.found
    (texts-changed c.args.side c.outcome_of.new.w c.ended.new.w c.ended.ensures.grew c.outcome_of.ensures.ready).found

pub returns-in-Ok-clause-running : goal.returns-in-Ok-clause-running
returns-in-Ok-clause-running c = λ h.
    ap (λ (d : Data). d.halted) c.ended.ensures.grew.texts ∙ c.in-Ok.ensures.running

pub returns-in-Err-Spent-clause-turns : goal.returns-in-Err-Spent-clause-turns
returns-in-Err-Spent-clause-turns c = λ log e.
    turn-stuck c.outcome_of.new.w c.outcome_of.new.fuel (written c.args.lines.now) (written c.outcome_of.new.lines) log
    c.args.side.0 _ (rw c.in-Err-Spent.field-0-is at (c.in-Err-Spent.ensures.ends log e))
