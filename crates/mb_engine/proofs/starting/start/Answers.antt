use Rattle.std.proofs.Common.{◌∙◌}
use Rattle.mb_engine.proofs.Jobs.{job-gives, job-held, job-starts, starting-ready, starting-rest}
use Rattle.mb_engine.proofs.starting.start.Goals as goal

pub returns-clause-ready : goal.returns-clause-ready
returns-clause-ready c =
    let d = c.args.w.now in
    let side = c.args.side in
    let y = c.begin_job-frame.result in
    let b = c.requires.begun in
    let i = c.requires.side in
    let s = job-starts d side b i c.args.job y c.begin_job-frame.ensures in
    starting-ready d side y c.push.new.self (rw c.new-2.ensures.items at c.in_ok-push.ensures.pushed)
    c.in_ok-push.ensures.done b.ready i s.0 s.1
    (job-held d side b i c.args.job y c.requires.job c.begin_job-frame.ensures) c.in_ok-push.ensures.now

pub returns-clause-rest : goal.returns-clause-rest
returns-clause-rest c = λ f log.
    let d = c.args.w.now in
    let side = c.args.side in
    let y = c.begin_job-frame.result in
    starting-rest d side y c.push.new.self (rw c.new-2.ensures.items at c.in_ok-push.ensures.pushed)
    c.in_ok-push.ensures.done f log
    ∙ job-gives d side c.requires.begun c.requires.side c.args.job y c.begin_job-frame.ensures f log
