use Rattle.std.proofs.Common.{ap}
use Rattle.std.specs.Prelude.{Err}
use Rattle.mb_cli.proofs.Endings.{passes, passed_answer, faulty_answer}
use Rattle.mb_cli.proofs.check.lines_judged.Goals as goal

pub returns-in_ok-lines_of_a_right_script-in-Ok-clause-answer : goal.returns-in_ok-lines_of_a_right_script-in-Ok-clause-answer
returns-in_ok-lines_of_a_right_script-in-Ok-clause-answer c held scanned = passed_answer held (passes _ held _ (rw c.in-Some.is at scanned) c.in-Ok.ensures.tree)

pub returns-in-Err-clause-answer : goal.returns-in-Err-clause-answer
returns-in-Err-clause-answer c held scanned =
    faulty_answer _ held _ c.in-Err.fault c.refuse.result (rw c.in-Some.is at scanned) (λ bytes kind fed e. c.in-Err.ensures.fault bytes kind fed (ap Err e)) c.refuse.ensures
