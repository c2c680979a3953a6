use Rattle.mb_engine.proofs.Ending.{finishes-real, finishes-running, has-outcome, job-finishes, ready-after}
use Rattle.mb_frames.specs.Stepping.{written}
use Rattle.mb_engine.proofs.turns.outcome_of.Goals as goal

pub finished-requires : goal.finished-requires
finished-requires c =
    rw c.done_of-done.ensures
    (has-outcome c.run-ran.result c.run-ran.new.m c.run-ran.new.w c.run-ran.ensures.ready c.run-ran.ensures.over)

pub returns-clause-ends : goal.returns-clause-ends
returns-clause-ends c = λ log e.
    job-finishes c.run-ran.result c.run-ran.new.w.halted c.finished.result c.run-ran.new.m c.run-ran.new.w
    c.run-ran.new.fuel (written c.args.lines.now) (written c.run-ran.new.lines) log _ _
    (rw (c.done_of-done.ensures, c.halted.ensures) at c.finished.ensures) c.run-ran.ensures.over
    (c.run-ran.ensures.rest log e) (c.in_ok-m.ensures.rest c.args.fuel.now log)

pub returns-clause-ready : goal.returns-clause-ready
returns-clause-ready c = ready-after c.run-ran.result c.run-ran.new.m c.run-ran.new.w c.run-ran.ensures.ready

pub returns-clause-found : goal.returns-clause-found
returns-clause-found c = c.run-ran.ensures.found

pub returns-clause-running : goal.returns-clause-running
returns-clause-running c =
    finishes-running c.run-ran.result c.run-ran.new.w c.finished.result c.done_of-done.result
    (rw c.halted.ensures at c.finished.ensures)

pub returns-clause-thrown : goal.returns-clause-thrown
returns-clause-thrown c =
    finishes-real c.run-ran.result c.halted.result c.finished.result c.run-ran.new.m c.run-ran.new.w
    (rw c.done_of-done.ensures at c.finished.ensures) c.run-ran.ensures.ready
