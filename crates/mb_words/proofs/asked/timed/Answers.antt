use Rattle.std.proofs.Common.{string_bytes}
use Rattle.mb_words.specs.machine.Scanning.{slots_of}
use Rattle.mb_words.proofs.Timed.{bad_schedule, bad_budget, both_good}
use Rattle.mb_words.proofs.asked.timed.Goals as goal

pub returns-in-Some : goal.returns-in-Some
returns-in-Some c = bad_schedule c.args.command c.args.sides (slots_of c.args.slots) c.schedule-schedule.result.now c.in-Some.at
    c.schedule-schedule.ensures c.in-Some.ensures

pub returns-in-None : goal.returns-in-None
returns-in-None c = bad_budget c.args.command c.args.sides (slots_of c.args.slots) c.schedule-schedule.result.now
    c.schedule-schedule.ensures c.in_default.ensures c.in-None.ensures

pub returns : goal.returns
returns c = both_good c.args.command c.args.sides (slots_of c.args.slots) c.schedule-schedule.result.now
    (string_bytes c.in_ok-from_str.field-0) c.in-Some-budget.budget
    c.schedule-schedule.ensures c.in_default.ensures c.in-Some-budget.ensures c.in_ok-from_str.ensures.ok
