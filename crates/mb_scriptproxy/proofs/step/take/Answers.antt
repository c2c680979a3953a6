use Rattle.std.proofs.Common.{◌-◌, ◌≡◌, ◌≤◌, Some, arith, false, subst, sym, true}
use Rattle.std.proofs.lemmas.Result.{err_from_is_err_and}
use Rattle.mb_base.specs.declared.value.Side.{Side}
use Rattle.mb_frames.proofs.Keeping.{keeps-halted}
use Rattle.mb_frames.proofs.Passed.{no-lines, puts-none}
use Rattle.mb_frames.proofs.Readying.{changed-same}
use Rattle.mb_frames.proofs.Steps.{Step-paid}
use Rattle.mb_frames.specs.Ready.{KeepsBy}
use Rattle.mb_frames.specs.Resolved.{outcome_in, task_in}
use Rattle.mb_frames.specs.Rest.Parts.{with_answer}
use Rattle.mb_frames.specs.Rest.Proxying.{proxy_rest}
use Rattle.mb_frames.specs.Sorts.{proxy_gives, proxy_waits, task_gives}
use Rattle.mb_frames.specs.Standing.{forms_at}
use Rattle.mb_frames.specs.Stepping.{Step}
use Rattle.mb_model.specs.Meaning.{finished, row}
use Rattle.mb_scriptproxy.proofs.Handed.{is-there}
use Rattle.mb_scriptproxy.proofs.Methods.{begun-free}
use Rattle.mb_scriptproxy.proofs.Readied.{enters-begin, enters-none}
use Rattle.mb_scriptproxy.proofs.step.take.Goals as goal
use Rattle.mb_scriptproxy.specs.machine.Acting.{waiting_side}
use Rattle.mb_scriptproxy.specs.machine.Resuming.{IsAwaited}
use Rattle.mb_world.specs.Image.{names_of}

-- ---- a task that begins

pub begin-requires-clause-acts : goal.begin-requires-clause-acts
begin-requires-clause-acts c = rw c.in-Begin.is at c.requires.acts

pub begin-requires-clause-ours : goal.begin-requires-clause-ours
begin-requires-clause-ours c = rw c.in-Begin.is at c.requires.ours

pub begin-requires-clause-side : goal.begin-requires-clause-side
begin-requires-clause-side c = rw c.in-Begin.is at c.requires.side

pub returns-in-Begin-clause-step : goal.returns-in-Begin-clause-step
returns-in-Begin-clause-step c = λ l. rw c.in-Begin.is (c.begin.ensures.step l)

pub returns-in-Begin-clause-enters : goal.returns-in-Begin-clause-enters
returns-in-Begin-clause-enters c = rw c.in-Begin.is (enters-begin c.begin.result c.in-Begin.task)

pub returns-in-Begin-clause-keeps : goal.returns-in-Begin-clause-keeps
returns-in-Begin-clause-keeps c = λ sort. rw c.in-Begin.is c.begin.ensures.keeps

-- ---- one that has begun

pub start-requires-clause-acts : goal.start-requires-clause-acts
start-requires-clause-acts c = rw c.in-Begun.is at c.requires.acts

pub start-requires-clause-ours : goal.start-requires-clause-ours
start-requires-clause-ours c = rw c.in-Begun.is at c.requires.ours

pub start-requires-clause-free : goal.start-requires-clause-free
start-requires-clause-free c =
    begun-free c.args.w.now c.args.home c.in-Begun.task (rw c.in-Begun.is at c.requires.fit)

pub start-requires-clause-side : goal.start-requires-clause-side
start-requires-clause-side c = rw c.in-Begun.is at c.requires.side

pub returns-in_ok-charge-in-Begun-clause-step : goal.returns-in_ok-charge-in-Begun-clause-step
returns-in_ok-charge-in-Begun-clause-step c = λ l.
    let d = c.args.w.now in
    let p = row (task_in (names_of d) c.args.home.0 c.in-Begun.task) in
    let f = c.args.fuel.now in
    let k = c.charge.new.self in
    let u : 1 ≤ f = omega (arith, c.in_ok-charge-in-Begun.ensures.paid) in
    let e : k ≡ f - 1 = omega (arith, c.in_ok-charge-in-Begun.ensures.paid) in
    rw c.in-Begun.is
    (Step-paid c.args.side false c.start.result d c.start.new.w 1 f k k l l p u e
    (puts-none c.args.side c.start.result d c.start.new.w k k l l p (c.start.ensures.part k true l))
    (c.start.ensures.part k false l))

pub returns-in_ok-charge-in-Begun-clause-enters : goal.returns-in_ok-charge-in-Begun-clause-enters
returns-in_ok-charge-in-Begun-clause-enters c =
    let d = c.args.w.now in
    let k = c.charge.new.self in
    enters-none c.start.result c.args.frame
    (puts-none c.args.side c.start.result d c.start.new.w k k no-lines no-lines
    (row (task_in (names_of d) c.args.home.0 c.in-Begun.task)) (c.start.ensures.part k true no-lines))

pub returns-in_ok-charge-in-Begun-clause-keeps : goal.returns-in_ok-charge-in-Begun-clause-keeps
returns-in_ok-charge-in-Begun-clause-keeps c = λ sort. rw c.in-Begun.is c.start.ensures.keeps

pub returns-in_err-charge-in-Begun-clause-keeps : goal.returns-in_err-charge-in-Begun-clause-keeps
returns-in_err-charge-in-Begun-clause-keeps c = λ sort.
    let d = c.args.w.now in
    let p = err_from_is_err_and c.from_residual.result c.from_residual.ensures.1 in
    rw (p.1, c.in-Begun.is)
    (keeps-halted c.args.side (task_gives (forms_at d c.args.home) c.in-Begun.task) p.0 d d
    (changed-same c.args.side d c.requires.acts.ready))

-- ---- a row that starts anew

pub start-requires-in-Anew-clause-acts : goal.start-requires-in-Anew-clause-acts
start-requires-in-Anew-clause-acts c = rw c.in-Anew.is at c.requires.acts

pub start-requires-in-Anew-clause-ours : goal.start-requires-in-Anew-clause-ours
start-requires-in-Anew-clause-ours c = rw c.in-Anew.is at c.requires.ours

pub start-requires-in-Anew-clause-free : goal.start-requires-in-Anew-clause-free
start-requires-in-Anew-clause-free c =
    begun-free c.args.w.now c.args.home c.in-Anew.task (rw c.in-Anew.is at c.requires.fit)

pub start-requires-in-Anew-clause-side : goal.start-requires-in-Anew-clause-side
start-requires-in-Anew-clause-side c = rw c.in-Anew.is at c.requires.side

pub returns-in-Anew-clause-step : goal.returns-in-Anew-clause-step
returns-in-Anew-clause-step c = λ l. rw c.in-Anew.is (c.start-in-Anew.ensures.part c.args.fuel.now false l)

pub returns-in-Anew-clause-enters : goal.returns-in-Anew-clause-enters
returns-in-Anew-clause-enters c =
    let d = c.args.w.now in
    let f = c.args.fuel.now in
    enters-none c.start-in-Anew.result c.args.frame
    (puts-none c.args.side c.start-in-Anew.result d c.start-in-Anew.new.w f f no-lines no-lines
    (row (task_in (names_of d) c.args.home.0 c.in-Anew.task)) (c.start-in-Anew.ensures.part f true no-lines))

pub returns-in-Anew-clause-keeps : goal.returns-in-Anew-clause-keeps
returns-in-Anew-clause-keeps c = λ sort. rw c.in-Anew.is c.start-in-Anew.ensures.keeps

-- ---- a method that waits

pub ended-requires : goal.ended-requires
ended-requires c = is-there (IsAwaited (proxy_waits c.in-Proxy.frame)) c.args.done (rw c.in-Proxy.is at
    c.requires.handed)

pub resume-requires-clause-acts : goal.resume-requires-clause-acts
resume-requires-clause-acts c = rw c.in-Proxy.is at c.requires.acts

pub resume-requires-clause-outcome : goal.resume-requires-clause-outcome
resume-requires-clause-outcome c = rw c.ended.ensures at c.requires.done.holds

pub resume-requires-clause-sort : goal.resume-requires-clause-sort
resume-requires-clause-sort c = rw (c.in-Proxy.is, c.ended.ensures) at c.requires.handed

pub returns-in-Proxy-clause-step : goal.returns-in-Proxy-clause-step
returns-in-Proxy-clause-step c = λ l.
    let d = c.args.w.now in
    let f = c.args.fuel.now in
    let s : c.args.side ≡ waiting_side c.args.home c.in-Proxy.frame (Some c.ended.result)
    = rw (c.in-Proxy.is, c.ended.ensures) at c.requires.side in
    rw (c.in-Proxy.is, c.ended.ensures)
    (subst (λ (z : Side). Step z true c.resume.result d c.resume.new.w f f l l
    (with_answer (outcome_in (names_of d) c.ended.result) (proxy_rest (names_of d) c.args.home.0 c.in-Proxy.frame)
    finished)) (sym s) (c.resume.ensures.part f true l))

pub returns-in-Proxy-clause-enters : goal.returns-in-Proxy-clause-enters
returns-in-Proxy-clause-enters c =
    let d = c.args.w.now in
    let f = c.args.fuel.now in
    enters-none c.resume.result c.args.frame
    (puts-none (waiting_side c.args.home c.in-Proxy.frame (Some c.ended.result)) c.resume.result d c.resume.new.w f f
    no-lines no-lines
    (with_answer (outcome_in (names_of d) c.ended.result) (proxy_rest (names_of d) c.args.home.0 c.in-Proxy.frame)
    finished)
    (c.resume.ensures.part f true no-lines))

pub returns-in-Proxy-clause-keeps : goal.returns-in-Proxy-clause-keeps
returns-in-Proxy-clause-keeps c = λ sort.
    let s : c.args.side ≡ waiting_side c.args.home c.in-Proxy.frame (Some c.ended.result)
    = rw (c.in-Proxy.is, c.ended.ensures) at c.requires.side in
    rw c.in-Proxy.is
    (subst (λ (z : Side). KeepsBy z (proxy_gives c.in-Proxy.frame) c.resume.result c.args.w.now c.resume.new.w) (sym s)
    c.resume.ensures.keeps)
