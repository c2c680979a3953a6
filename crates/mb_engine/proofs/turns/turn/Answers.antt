use Rattle.std.proofs.Common.{[], append-nil, arith, refl, sym, ◌∙◌}
use Rattle.mb_engine.proofs.Ending.{goes-on, idle-same, idle-turn, is-halted, job-taken, none-first, same-sides}
use Rattle.mb_engine.proofs.Ending.{some-first, turn-halts}
use Rattle.mb_engine.specs.Begun.{IsBegun}
use Rattle.mb_engine.proofs.Globals.{turn-globals}
use Rattle.mb_engine.proofs.Stepping.{its-log, its-own}
use Rattle.mb_engine.proofs.Jobs.{begun-stays, first-held, taken-begun}
use Rattle.mb_world.specs.Image.{job_in, names_of}
use Rattle.mb_frames.specs.Stepping.{written}
use Rattle.mb_world.specs.Data.{queue_of}
use Rattle.mb_engine.proofs.turns.turn.Goals as goal

pub take_job-requires : goal.take_job-requires
take_job-requires c = omega (arith, c.requires.side, c.requires.begun.ready.formed.sides.1)

pub do_job-end-requires-clause-begun : goal.do_job-end-requires-clause-begun
do_job-end-requires-clause-begun c =
    rw c.take_job.ensures.taken (taken-begun c.args.w.now c.args.side c.requires.begun
    (omega (arith, c.requires.side, c.requires.begun.ready.formed.sides.1)))

pub do_job-end-requires-clause-running : goal.do_job-end-requires-clause-running
do_job-end-requires-clause-running c = rw c.take_job.ensures.taken c.requires.running

pub do_job-end-requires-clause-side : goal.do_job-end-requires-clause-side
do_job-end-requires-clause-side c = rw c.take_job.ensures.taken c.requires.side

pub do_job-end-requires-clause-job : goal.do_job-end-requires-clause-job
do_job-end-requires-clause-job c =
    rw c.take_job.ensures.taken (first-held c.args.w.now c.args.side c.in-Some.job c.requires.begun.ready
    (omega (arith, c.requires.side, c.requires.begun.ready.formed.sides.1)) (sym c.in-Some.ensures.job))

pub returns-in-Some-clause-turns : goal.returns-in-Some-clause-turns
returns-in-Some-clause-turns c = λ log e.
    turn-halts c.do_job-end.result c.do_job-end.new.w c.halt_after.new.w c.do_job-end.new.fuel
    (written c.args.lines.now)
    (written c.do_job-end.new.lines) log _ c.halt_after.ensures
    (rw (job-taken c.args.w.now c.args.side c.in-Some.job c.args.fuel.now log c.requires.side
    (sym c.in-Some.ensures.job))
    ((rw c.take_job.ensures.taken at (c.do_job-end.ensures.turns log)) e))

pub returns-in-Some-clause-idle : goal.returns-in-Some-clause-idle
returns-in-Some-clause-idle c = (
  λ h. absurd (c.do_job-end.ensures.worked h),
  λ h. absurd (some-first (queue_of c.args.w.now c.args.side) c.in-Some.job (sym c.in-Some.ensures.job) h),
)

pub returns-in-Some-clause-rests : goal.returns-in-Some-clause-rests
returns-in-Some-clause-rests c = λ h. absurd (c.do_job-end.ensures.worked h)

pub returns-in-Some-clause-begun : goal.returns-in-Some-clause-begun
returns-in-Some-clause-begun c = λ h.
    let b : IsBegun c.take_job.new.self
    = rw c.take_job.ensures.taken (taken-begun c.args.w.now c.args.side c.requires.begun
    (omega (arith, c.requires.side, c.requires.begun.ready.formed.sides.1))) in
    rw (goes-on c.do_job-end.result c.do_job-end.new.w c.halt_after.new.w c.halt_after.ensures h)
    (begun-stays c.take_job.new.self c.do_job-end.new.w b c.do_job-end.ensures.ready c.do_job-end.ensures.found
    (turn-globals c.take_job.new.self.sides c.args.side.0 (job_in (names_of c.take_job.new.self) c.in-Some.job)
    c.take_job.new.self c.do_job-end.new.w c.args.fuel.now c.do_job-end.new.fuel (written c.args.lines.now)
    (written c.do_job-end.new.lines) (its-log c.take_job.new.self) c.do_job-end.result b.globals
    (c.do_job-end.ensures.turns (its-log c.take_job.new.self) (its-own c.take_job.new.self))
    c.do_job-end.ensures.worked h))

pub returns-in-Some-clause-halted : goal.returns-in-Some-clause-halted
returns-in-Some-clause-halted c =
    is-halted c.do_job-end.result c.do_job-end.new.w c.halt_after.new.w c.halt_after.ensures
    c.do_job-end.ensures.running

pub returns-in-Some-clause-same : goal.returns-in-Some-clause-same
returns-in-Some-clause-same c =
    let s = same-sides c.do_job-end.result c.do_job-end.new.w c.halt_after.new.w c.halt_after.ensures in
    let g = c.do_job-end.ensures.found.grew in
    (s.0 ∙ g.joined ∙ rw c.take_job.ensures.taken refl, s.1 ∙ g.sides ∙ rw c.take_job.ensures.taken refl)

pub returns-in-Some-clause-adds : goal.returns-in-Some-clause-adds
returns-in-Some-clause-adds c = c.do_job-end.ensures.adds

pub returns-in-None-clause-turns : goal.returns-in-None-clause-turns
returns-in-None-clause-turns c = λ log e.
    idle-turn c.args.w.now c.args.side c.args.fuel.now log
    (none-first (queue_of c.args.w.now c.args.side) (sym c.in-None.ensures.job))

pub returns-in-None-clause-idle : goal.returns-in-None-clause-idle
returns-in-None-clause-idle c =
    (λ h. none-first (queue_of c.args.w.now c.args.side) (sym c.in-None.ensures.job), λ h. refl)

pub returns-in-None-clause-rests : goal.returns-in-None-clause-rests
returns-in-None-clause-rests c = λ h.
    let q = none-first (queue_of c.args.w.now c.args.side) (sym c.in-None.ensures.job) in
    (c.take_job.ensures.taken ∙ idle-same c.args.w.now c.args.side q, refl, refl)

pub returns-in-None-clause-begun : goal.returns-in-None-clause-begun
returns-in-None-clause-begun c = λ h.
    let q = none-first (queue_of c.args.w.now c.args.side) (sym c.in-None.ensures.job) in
    rw (c.take_job.ensures.taken ∙ idle-same c.args.w.now c.args.side q) c.requires.begun

pub returns-in-None-clause-halted : goal.returns-in-None-clause-halted
returns-in-None-clause-halted c =
    let q = none-first (queue_of c.args.w.now c.args.side) (sym c.in-None.ensures.job) in
    rw (c.take_job.ensures.taken ∙ idle-same c.args.w.now c.args.side q) c.requires.running

pub returns-in-None-clause-same : goal.returns-in-None-clause-same
returns-in-None-clause-same c =
    let q = none-first (queue_of c.args.w.now c.args.side) (sym c.in-None.ensures.job) in
    rw (c.take_job.ensures.taken ∙ idle-same c.args.w.now c.args.side q) (refl, refl)

pub returns-in-None-clause-adds : goal.returns-in-None-clause-adds
returns-in-None-clause-adds c =
    record { traced = refl; lettered = refl; more = []; lines = sym (append-nil (written c.args.lines.now).lines) }
