use Rattle.std.proofs.Common.{arith, false, true, ◌-◌, ◌≡◌, ◌≤◌}
use Rattle.std.proofs.lemmas.Result.{err_from_is_err_and}
use Rattle.mb_call.specs.machine.Resuming.{IsAwaited}
use Rattle.mb_frames.proofs.Passed.{no-lines, puts-none}
use Rattle.mb_frames.proofs.Steps.{Step-paid}
use Rattle.mb_frames.specs.Resolved.{outcome_in, task_in}
use Rattle.mb_frames.specs.Rest.Parts.{with_answer}
use Rattle.mb_frames.specs.Rest.Reflecting.{reflect_rest}
use Rattle.mb_frames.specs.Sorts.{reflect_waits, task_gives}
use Rattle.mb_model.specs.Meaning.{finished, row}
use Rattle.mb_reflect.proofs.Doing.{halted}
use Rattle.mb_reflect.proofs.Stepped.{is-there}
use Rattle.mb_reflect.proofs.step.take.Goals as goal
use Rattle.mb_world.specs.Image.{names_of}

pub start-requires : goal.start-requires
start-requires c = record {
  acts = rw c.in-Begin.is at c.requires.acts;
  ours = rw c.in-Begin.is at c.requires.ours;
}

pub start-requires-in-Anew : goal.start-requires-in-Anew
start-requires-in-Anew c = record {
  acts = rw c.in-Anew.is at c.requires.acts;
  ours = rw c.in-Anew.is at c.requires.ours;
}

pub returns-in_err-charge-in-Begin-clause-keeps : goal.returns-in_err-charge-in-Begin-clause-keeps
returns-in_err-charge-in-Begin-clause-keeps c = λ fs sort.
    let p = err_from_is_err_and c.from_residual.result c.from_residual.ensures.1 in
    rw (p.1, c.in-Begin.is)
    (halted c.args.home (task_gives fs c.in-Begin.task) p.0 c.args.w.now c.requires.acts.ready)

pub returns-in_ok-charge-in-Begin-clause-step : goal.returns-in_ok-charge-in-Begin-clause-step
returns-in_ok-charge-in-Begin-clause-step c = λ l.
    let d = c.args.w.now in
    let p = row (task_in (names_of d) c.args.home.0 c.in-Begin.task) in
    let f = c.args.fuel.now in
    let k = c.charge.new.self in
    let u : 1 ≤ f = omega (arith, c.in_ok-charge-in-Begin.ensures.paid) in
    let e : k ≡ f - 1 = omega (arith, c.in_ok-charge-in-Begin.ensures.paid) in
    rw c.in-Begin.is
    (Step-paid c.args.home false c.start.result d c.start.new.w 1 f k k l l p u e
    (puts-none c.args.home c.start.result d c.start.new.w k k l l p (c.start.ensures.step true k l))
    (c.start.ensures.step false k l))

pub returns-in_ok-charge-in-Begin-clause-puts_none : goal.returns-in_ok-charge-in-Begin-clause-puts_none
returns-in_ok-charge-in-Begin-clause-puts_none c =
    let d = c.args.w.now in
    puts-none c.args.home c.start.result d c.start.new.w 0 0 no-lines no-lines
    (row (task_in (names_of d) c.args.home.0 c.in-Begin.task)) (c.start.ensures.step true 0 no-lines)

pub returns-in_ok-charge-in-Begin-clause-keeps : goal.returns-in_ok-charge-in-Begin-clause-keeps
returns-in_ok-charge-in-Begin-clause-keeps c = λ fs sort. rw c.in-Begin.is (c.start.ensures.keeps fs)

pub returns-in-Anew-clause-step : goal.returns-in-Anew-clause-step
returns-in-Anew-clause-step c = λ l. rw c.in-Anew.is (c.start-in-Anew.ensures.step false c.args.fuel.now l)

pub returns-in-Anew-clause-puts_none : goal.returns-in-Anew-clause-puts_none
returns-in-Anew-clause-puts_none c =
    let d = c.args.w.now in
    puts-none c.args.home c.start-in-Anew.result d c.start-in-Anew.new.w 0 0 no-lines no-lines
    (row (task_in (names_of d) c.args.home.0 c.in-Anew.task)) (c.start-in-Anew.ensures.step true 0 no-lines)

pub returns-in-Anew-clause-keeps : goal.returns-in-Anew-clause-keeps
returns-in-Anew-clause-keeps c = λ fs sort. rw c.in-Anew.is (c.start-in-Anew.ensures.keeps fs)

pub ended-requires : goal.ended-requires
ended-requires c =
    is-there (IsAwaited (reflect_waits c.in-Reflect.frame)) c.args.done (rw c.in-Reflect.is at c.requires.handed)

pub resume-requires-clause-acts : goal.resume-requires-clause-acts
resume-requires-clause-acts c = rw c.in-Reflect.is at c.requires.acts

pub resume-requires-clause-outcome : goal.resume-requires-clause-outcome
resume-requires-clause-outcome c = rw c.ended.ensures at c.requires.done

pub resume-requires-clause-sort : goal.resume-requires-clause-sort
resume-requires-clause-sort c = rw (c.in-Reflect.is, c.ended.ensures) at c.requires.handed

pub returns-in-Reflect-clause-step : goal.returns-in-Reflect-clause-step
returns-in-Reflect-clause-step c = λ l.
    rw (c.in-Reflect.is, c.ended.ensures) (c.resume.ensures.part true l)

pub returns-in-Reflect-clause-puts_none : goal.returns-in-Reflect-clause-puts_none
returns-in-Reflect-clause-puts_none c =
    let d = c.args.w.now in
    let n = names_of d in
    puts-none c.args.home c.resume.result d c.resume.new.w c.args.fuel.now c.resume.new.fuel no-lines no-lines
    (with_answer (outcome_in n c.ended.result) (reflect_rest n c.args.home.0 c.in-Reflect.frame) finished)
    (c.resume.ensures.part true no-lines)

pub returns-in-Reflect-clause-keeps : goal.returns-in-Reflect-clause-keeps
returns-in-Reflect-clause-keeps c = λ fs sort. rw c.in-Reflect.is c.resume.ensures.keeps
