use Rattle.std.proofs.Common.{◌-◌, ◌≡◌, ◌≤◌, arith, false, true}
use Rattle.std.proofs.lemmas.Result.{err_from_is_err_and}
use Rattle.mb_arrayapi.proofs.Acting.{halts}
use Rattle.mb_arrayapi.proofs.Stepped.{is-there}
use Rattle.mb_arrayapi.proofs.step.take.Goals as goal
use Rattle.mb_call.specs.machine.Resuming.{IsAwaited}
use Rattle.mb_frames.proofs.Passed.{no-lines, puts-none}
use Rattle.mb_frames.proofs.Steps.{Step-paid}
use Rattle.mb_frames.specs.Holding.{task_held}
use Rattle.mb_frames.specs.Resolved.{outcome_in, task_in}
use Rattle.mb_frames.specs.Rest.Arraying.{array_rest}
use Rattle.mb_frames.specs.Rest.Parts.{with_answer}
use Rattle.mb_frames.specs.Sorts.{array_waits, task_gives}
use Rattle.mb_frames.specs.Standing.{forms_at}
use Rattle.mb_model.specs.Meaning.{finished, row}
use Rattle.mb_world.specs.Image.{names_of}

-- ---- a task that begins

pub start-requires-clause-acts : goal.start-requires-clause-acts
start-requires-clause-acts c = rw c.in-Begin.is at c.requires.acts

pub start-requires-clause-ours : goal.start-requires-clause-ours
start-requires-clause-ours c = rw c.in-Begin.is at c.requires.ours

pub returns-in_ok-charge-in-Begin-clause-step : goal.returns-in_ok-charge-in-Begin-clause-step
returns-in_ok-charge-in-Begin-clause-step c = λ l.
    let d = c.args.w.now in
    let home = c.args.home in
    let p = row (task_in (names_of d) home.0 c.in-Begin.task) in
    let f = c.args.fuel.now in
    let k = c.charge.new.self in
    let u : 1 ≤ f = omega (arith, c.in_ok-charge-in-Begin.ensures.paid) in
    let e : k ≡ f - 1 = omega (arith, c.in_ok-charge-in-Begin.ensures.paid) in
    rw c.in-Begin.is
    (Step-paid home false c.start.result d c.start.new.w 1 f k k l l p u e
    (puts-none home c.start.result d c.start.new.w k k l l p (c.start.ensures.row k true l))
    (c.start.ensures.row k false l))

pub returns-in_ok-charge-in-Begin-clause-puts_none : goal.returns-in_ok-charge-in-Begin-clause-puts_none
returns-in_ok-charge-in-Begin-clause-puts_none c =
    let d = c.args.w.now in
    let k = c.charge.new.self in
    puts-none c.args.home c.start.result d c.start.new.w k k no-lines no-lines
    (row (task_in (names_of d) c.args.home.0 c.in-Begin.task)) (c.start.ensures.row k true no-lines)

pub returns-in_ok-charge-in-Begin-clause-keeps : goal.returns-in_ok-charge-in-Begin-clause-keeps
returns-in_ok-charge-in-Begin-clause-keeps c = λ sort. rw c.in-Begin.is c.start.ensures.keeps

pub returns-in_err-charge-in-Begin-clause-keeps : goal.returns-in_err-charge-in-Begin-clause-keeps
returns-in_err-charge-in-Begin-clause-keeps c = λ sort.
    let d = c.args.w.now in
    let p = err_from_is_err_and c.from_residual.result c.from_residual.ensures.1 in
    rw (p.1, c.in-Begin.is)
    (halts d c.args.home (task_held c.in-Begin.task) (rw c.in-Begin.is at c.requires.acts)
    (task_gives (forms_at d c.args.home) c.in-Begin.task) p.0)

-- ---- a row that starts anew

pub start-requires-in-Anew-clause-acts : goal.start-requires-in-Anew-clause-acts
start-requires-in-Anew-clause-acts c = rw c.in-Anew.is at c.requires.acts

pub start-requires-in-Anew-clause-ours : goal.start-requires-in-Anew-clause-ours
start-requires-in-Anew-clause-ours c = rw c.in-Anew.is at c.requires.ours

pub returns-in-Anew-clause-step : goal.returns-in-Anew-clause-step
returns-in-Anew-clause-step c = λ l. rw c.in-Anew.is (c.start-in-Anew.ensures.row c.args.fuel.now false l)

pub returns-in-Anew-clause-puts_none : goal.returns-in-Anew-clause-puts_none
returns-in-Anew-clause-puts_none c =
    let d = c.args.w.now in
    let k = c.args.fuel.now in
    puts-none c.args.home c.start-in-Anew.result d c.start-in-Anew.new.w k k no-lines no-lines
    (row (task_in (names_of d) c.args.home.0 c.in-Anew.task)) (c.start-in-Anew.ensures.row k true no-lines)

pub returns-in-Anew-clause-keeps : goal.returns-in-Anew-clause-keeps
returns-in-Anew-clause-keeps c = λ sort. rw c.in-Anew.is c.start-in-Anew.ensures.keeps

-- ---- a member that waits

pub ended-requires : goal.ended-requires
ended-requires c =
    is-there (IsAwaited (array_waits c.in-Array.frame)) c.args.done (rw c.in-Array.is at c.requires.handed)

pub resume-requires-clause-acts : goal.resume-requires-clause-acts
resume-requires-clause-acts c = rw c.in-Array.is at c.requires.acts

pub resume-requires-clause-outcome : goal.resume-requires-clause-outcome
resume-requires-clause-outcome c = rw c.ended.ensures at c.requires.done.holds

pub resume-requires-clause-sort : goal.resume-requires-clause-sort
resume-requires-clause-sort c = rw (c.in-Array.is, c.ended.ensures) at c.requires.handed

pub returns-in-Array-clause-step : goal.returns-in-Array-clause-step
returns-in-Array-clause-step c = λ l. rw (c.in-Array.is, c.ended.ensures) (c.resume.ensures.part true l)

pub returns-in-Array-clause-puts_none : goal.returns-in-Array-clause-puts_none
returns-in-Array-clause-puts_none c =
    let d = c.args.w.now in
    let n = names_of d in
    puts-none c.args.home c.resume.result d c.resume.new.w c.args.fuel.now c.resume.new.fuel no-lines no-lines
    (with_answer (outcome_in n c.ended.result) (array_rest n c.args.home.0 c.in-Array.frame) finished)
    (c.resume.ensures.part true no-lines)

pub returns-in-Array-clause-keeps : goal.returns-in-Array-clause-keeps
returns-in-Array-clause-keeps c = λ sort. rw c.in-Array.is c.resume.ensures.keeps
