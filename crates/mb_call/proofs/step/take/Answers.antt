use Rattle.std.proofs.Common.{◌-◌, ◌≡◌, ◌≤◌, arith, false, subst, sym, true}
use Rattle.std.proofs.lemmas.Result.{err_from_is_err_and}
use Rattle.mb_base.specs.declared.value.Side.{Side}
use Rattle.mb_call.proofs.Due.{begun-fit, begun-free}
use Rattle.mb_call.proofs.Handed.{is-there}
use Rattle.mb_call.proofs.Readied.{enters-begin, enters-none}
use Rattle.mb_call.proofs.step.take.Goals as goal
use Rattle.mb_call.specs.machine.Noting.{KeepsNoting}
use Rattle.mb_call.specs.machine.Resuming.{IsAwaited}
use Rattle.mb_frames.proofs.Keeping.{keeps-halted}
use Rattle.mb_frames.proofs.Passed.{no-lines, puts-none}
use Rattle.mb_frames.proofs.Readying.{changed-same}
use Rattle.mb_frames.proofs.Steps.{Step-paid}
use Rattle.mb_frames.specs.Ready.{KeepsBy}
use Rattle.mb_frames.specs.Resolved.{outcome_in, task_in}
use Rattle.mb_frames.specs.Rest.Calls.{call_rest}
use Rattle.mb_frames.specs.Sorts.{call_gives, call_waits, op_gives, task_gives}
use Rattle.mb_frames.specs.Standing.{entry_by, forms_at}
use Rattle.mb_frames.specs.Stepping.{Step, written}
use Rattle.mb_model.specs.Engine.{Ret}
use Rattle.mb_model.specs.Meaning.{finished, row}
use Rattle.mb_model.specs.Trace.Entries.{with_entry}
use Rattle.mb_world.specs.Image.{names_of}

-- ---- a task that begins

pub begin-requires-clause-acts : goal.begin-requires-clause-acts
begin-requires-clause-acts c = rw c.in-Begin.is at c.requires.acts

pub begin-requires-clause-ours : goal.begin-requires-clause-ours
begin-requires-clause-ours c = rw c.in-Begin.is at c.requires.ours

pub begin-requires-clause-fit : goal.begin-requires-clause-fit
begin-requires-clause-fit c = rw c.in-Begin.is at c.requires.fit

pub begin-requires-clause-side : goal.begin-requires-clause-side
begin-requires-clause-side c = rw c.in-Begin.is at c.requires.side

pub returns-in-Begin-clause-step : goal.returns-in-Begin-clause-step
returns-in-Begin-clause-step c = rw c.in-Begin.is (c.begin.ensures.step (written c.args.lines.now))

pub returns-in-Begin-clause-enters : goal.returns-in-Begin-clause-enters
returns-in-Begin-clause-enters c = rw c.in-Begin.is (enters-begin c.begin.result c.in-Begin.task)

pub returns-in-Begin-clause-keeps : goal.returns-in-Begin-clause-keeps
returns-in-Begin-clause-keeps c = λ sort. rw c.in-Begin.is c.begin.ensures.keeps

-- ---- one that has begun

pub start-requires-clause-acts : goal.start-requires-clause-acts
start-requires-clause-acts c = rw c.in-Begun.is at c.requires.acts

pub start-requires-clause-ours : goal.start-requires-clause-ours
start-requires-clause-ours c = rw c.in-Begun.is at c.requires.ours

pub start-requires-clause-fit : goal.start-requires-clause-fit
start-requires-clause-fit c = begun-fit c.args.w.now c.in-Begun.task (rw c.in-Begun.is at c.requires.fit)

pub start-requires-clause-free : goal.start-requires-clause-free
start-requires-clause-free c =
    begun-free c.args.w.now c.args.home c.in-Begun.task (rw c.in-Begun.is at c.requires.fit)

pub start-requires-clause-side : goal.start-requires-clause-side
start-requires-clause-side c = rw c.in-Begun.is at c.requires.side

pub returns-in_ok-charge-in-Begun-clause-step : goal.returns-in_ok-charge-in-Begun-clause-step
returns-in_ok-charge-in-Begun-clause-step c =
    let d = c.args.w.now in
    let p = row (task_in (names_of d) c.args.home.0 c.in-Begun.task) in
    let l = written c.args.lines.now in
    let f = c.args.fuel.now in
    let k = c.charge.new.self in
    let u : 1 ≤ f = omega (arith, c.in_ok-charge-in-Begun.ensures.paid) in
    let e : k ≡ f - 1 = omega (arith, c.in_ok-charge-in-Begun.ensures.paid) in
    rw c.in-Begun.is
    (Step-paid c.args.side false c.start.result d c.start.new.w 1 f k c.start.new.fuel l l p u e
    (puts-none c.args.side c.start.result d c.start.new.w k c.start.new.fuel l l p (c.start.ensures.step true l))
    (c.start.ensures.step false l))

pub returns-in_ok-charge-in-Begun-clause-enters : goal.returns-in_ok-charge-in-Begun-clause-enters
returns-in_ok-charge-in-Begun-clause-enters c =
    let d = c.args.w.now in
    enters-none c.start.result c.args.frame
    (puts-none c.args.side c.start.result d c.start.new.w c.charge.new.self c.start.new.fuel no-lines no-lines
    (row (task_in (names_of d) c.args.home.0 c.in-Begun.task)) (c.start.ensures.step true no-lines))

pub returns-in_ok-charge-in-Begun-clause-keeps : goal.returns-in_ok-charge-in-Begun-clause-keeps
returns-in_ok-charge-in-Begun-clause-keeps c = λ sort. rw c.in-Begun.is c.start.ensures.keeps

pub returns-in_err-charge-in-Begun-clause-keeps : goal.returns-in_err-charge-in-Begun-clause-keeps
returns-in_err-charge-in-Begun-clause-keeps c = λ sort.
    let d = c.args.w.now in
    let p = err_from_is_err_and c.from_residual.result c.from_residual.ensures.1 in
    rw (p.1, c.in-Begun.is)
    (keeps-halted c.args.side (task_gives (forms_at d c.args.home) c.in-Begun.task) p.0 d d
    (changed-same c.args.side d c.requires.acts.ready))

-- ---- a row that starts anew

pub start-requires-in-Anew-clause-acts : goal.start-requires-in-Anew-clause-acts
start-requires-in-Anew-clause-acts c = rw c.in-Anew.is at c.requires.acts

pub start-requires-in-Anew-clause-ours : goal.start-requires-in-Anew-clause-ours
start-requires-in-Anew-clause-ours c = rw c.in-Anew.is at c.requires.ours

pub start-requires-in-Anew-clause-fit : goal.start-requires-in-Anew-clause-fit
start-requires-in-Anew-clause-fit c = begun-fit c.args.w.now c.in-Anew.task (rw c.in-Anew.is at c.requires.fit)

pub start-requires-in-Anew-clause-free : goal.start-requires-in-Anew-clause-free
start-requires-in-Anew-clause-free c =
    begun-free c.args.w.now c.args.home c.in-Anew.task (rw c.in-Anew.is at c.requires.fit)

pub start-requires-in-Anew-clause-side : goal.start-requires-in-Anew-clause-side
start-requires-in-Anew-clause-side c = rw c.in-Anew.is at c.requires.side

pub returns-in-Anew-clause-step : goal.returns-in-Anew-clause-step
returns-in-Anew-clause-step c = rw c.in-Anew.is (c.start-in-Anew.ensures.step false (written c.args.lines.now))

pub returns-in-Anew-clause-enters : goal.returns-in-Anew-clause-enters
returns-in-Anew-clause-enters c =
    let d = c.args.w.now in
    enters-none c.start-in-Anew.result c.args.frame
    (puts-none c.args.side c.start-in-Anew.result d c.start-in-Anew.new.w c.args.fuel.now c.start-in-Anew.new.fuel
    no-lines
    no-lines (row (task_in (names_of d) c.args.home.0 c.in-Anew.task)) (c.start-in-Anew.ensures.step true no-lines))

pub returns-in-Anew-clause-keeps : goal.returns-in-Anew-clause-keeps
returns-in-Anew-clause-keeps c = λ sort. rw c.in-Anew.is c.start-in-Anew.ensures.keeps

-- ---- a call that waits

pub ended-requires : goal.ended-requires
ended-requires c = is-there (IsAwaited (call_waits c.in-Call.frame)) c.args.done (rw c.in-Call.is at c.requires.handed)

pub resume-requires-clause-acts : goal.resume-requires-clause-acts
resume-requires-clause-acts c = rw c.in-Call.is at c.requires.acts

pub resume-requires-clause-outcome : goal.resume-requires-clause-outcome
resume-requires-clause-outcome c = rw c.ended.ensures at c.requires.done.holds

pub resume-requires-clause-sort : goal.resume-requires-clause-sort
resume-requires-clause-sort c = rw (c.in-Call.is, c.ended.ensures) at c.requires.handed

pub returns-in-Call-clause-step : goal.returns-in-Call-clause-step
returns-in-Call-clause-step c =
    let d = c.args.w.now in
    let l = written c.args.lines.now in
    let s : c.args.side ≡ c.args.home = rw c.in-Call.is at c.requires.side in
    rw (c.in-Call.is, c.ended.ensures)
    (subst (λ (z : Side). Step z true c.resume.result d c.resume.new.w c.args.fuel.now c.resume.new.fuel l l
    (call_rest (names_of d) (forms_at d c.args.home) c.args.home.0 c.in-Call.frame
    (outcome_in (names_of d) c.ended.result) finished)) (sym s) (c.resume.ensures.part true l))

pub returns-in-Call-clause-enters : goal.returns-in-Call-clause-enters
returns-in-Call-clause-enters c =
    let d = c.args.w.now in
    enters-none c.resume.result c.args.frame
    (puts-none c.args.home c.resume.result d c.resume.new.w c.args.fuel.now c.resume.new.fuel no-lines no-lines
    (call_rest (names_of d) (forms_at d c.args.home) c.args.home.0 c.in-Call.frame
    (outcome_in (names_of d) c.ended.result) finished)
    (c.resume.ensures.part true no-lines))

pub returns-in-Call-clause-keeps : goal.returns-in-Call-clause-keeps
returns-in-Call-clause-keeps c = λ sort.
    let s : c.args.side ≡ c.args.home = rw c.in-Call.is at c.requires.side in
    rw c.in-Call.is
    (subst (λ (z : Side). KeepsBy z (call_gives c.in-Call.frame) c.resume.result c.args.w.now c.resume.new.w) (sym s)
    c.resume.ensures.keeps)

-- ---- an entry whose method has ended

pub ended-requires-in-Entry : goal.ended-requires-in-Entry
ended-requires-in-Entry c =
    is-there (IsAwaited (op_gives c.in-Entry.entering.op)) c.args.done (rw c.in-Entry.is at c.requires.handed)

pub note-requires-clause-acts : goal.note-requires-clause-acts
note-requires-clause-acts c = rw c.in-Entry.is at c.requires.acts

pub note-requires-clause-outcome : goal.note-requires-clause-outcome
note-requires-clause-outcome c = rw c.ended-in-Entry.ensures at c.requires.done.holds

pub note-requires-clause-joined : goal.note-requires-clause-joined
note-requires-clause-joined c = rw c.in-Entry.is at c.requires.ours

pub returns-in-Entry-clause-step : goal.returns-in-Entry-clause-step
returns-in-Entry-clause-step c =
    let d = c.args.w.now in
    let f = c.args.fuel.now in
    let l = written c.args.lines.now in
    let l' = written c.note.new.lines in
    let n = names_of d in
    let o = outcome_in n c.ended-in-Entry.result in
    let s : c.args.side ≡ c.args.home = rw c.in-Entry.is at c.requires.side in
    rw (c.in-Entry.is, c.ended-in-Entry.ensures)
    (subst (λ (z : Side). Step z true c.note.result d c.note.new.w f f l l'
    (λ g. Ret o (with_entry (entry_by n c.args.home.0 c.in-Entry.entering o) g))) (sym s) (c.note.ensures.step f))

pub returns-in-Entry-clause-enters : goal.returns-in-Entry-clause-enters
returns-in-Entry-clause-enters c =
    let d = c.args.w.now in
    let f = c.args.fuel.now in
    let n = names_of d in
    let o = outcome_in n c.ended-in-Entry.result in
    enters-none c.note.result c.args.frame
    (puts-none c.args.home c.note.result d c.note.new.w f f (written c.args.lines.now) (written c.note.new.lines)
    (λ g. Ret o (with_entry (entry_by n c.args.home.0 c.in-Entry.entering o) g)) (c.note.ensures.step f))

pub returns-in-Entry-clause-keeps : goal.returns-in-Entry-clause-keeps
returns-in-Entry-clause-keeps c = λ sort.
    let d = c.args.w.now in
    let s : c.args.side ≡ c.args.home = rw c.in-Entry.is at c.requires.side in
    let w : IsAwaited (op_gives c.in-Entry.entering.op) c.ended-in-Entry.result
    = rw (c.in-Entry.is, c.ended-in-Entry.ensures) at c.requires.handed in
    rw c.in-Entry.is
    (subst (λ (z : Side). KeepsNoting z (op_gives c.in-Entry.entering.op) c.note.result d c.note.new.w) (sym s)
    (c.note.ensures.keeps (op_gives c.in-Entry.entering.op) w.sort w.is w.fit))
