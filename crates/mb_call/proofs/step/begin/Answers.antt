use Rattle.std.proofs.Common.{◌-◌, ◌≡◌, ◌≤◌, ◌∙◌, Bool, ap, arith, false, subst, sym, true}
use Rattle.std.proofs.lemmas.Result.{err_from_is_err_and}
use Rattle.mb_base.specs.declared.value.Side.{Side}
use Rattle.mb_call.proofs.Due.{due-method}
use Rattle.mb_call.proofs.EntryRows.{due-foreign-task}
use Rattle.mb_call.proofs.step.begin.Goals as goal
use Rattle.mb_call.specs.machine.Acting.{begun_side}
use Rattle.mb_frames.proofs.Keeping.{keeps-halted, keeps-same}
use Rattle.mb_frames.proofs.Passed.{puts-none}
use Rattle.mb_frames.proofs.Readying.{changed-same}
use Rattle.mb_frames.proofs.Steps.{Step-paid}
use Rattle.mb_frames.specs.Ready.{KeepsBy}
use Rattle.mb_frames.specs.Resolved.{task_in}
use Rattle.mb_frames.specs.Sorts.{task_gives}
use Rattle.mb_frames.specs.Standing.{forms_at}
use Rattle.mb_frames.specs.Stepping.{Step}
use Rattle.mb_model.specs.Engine.{charged_row}
use Rattle.mb_model.specs.Meaning.{row}
use Rattle.mb_world.specs.Image.{names_of}

-- ---- an entry is due

pub entered-requires : goal.entered-requires
entered-requires c =
    due-method c.args.w.now c.args.home c.args.task (sym c.is_due.ensures ∙ c.if-is_due.true)

pub returns-then-is_due-clause-step : goal.returns-then-is_due-clause-step
returns-then-is_due-clause-step c = λ l.
    let d = c.args.w.now in
    let home = c.args.home in
    let f = c.args.fuel.now in
    let due = sym c.is_due.ensures ∙ c.if-is_due.true in
    let s : c.args.side ≡ home = c.requires.side ∙ ap (λ (b : Bool). begun_side b d home c.args.task) due in
    subst (λ (z : Side). Step z false c.entered.result d d f f l l
    (charged_row row (task_in (names_of d) home.0 c.args.task))) (sym s)
    (c.entered.ensures.step home f l c.requires.acts (due-foreign-task d home c.args.task c.requires.acts due))

pub returns-then-is_due-clause-keeps : goal.returns-then-is_due-clause-keeps
returns-then-is_due-clause-keeps c =
    let d = c.args.w.now in
    let home = c.args.home in
    let due = sym c.is_due.ensures ∙ c.if-is_due.true in
    let s : c.args.side ≡ home = c.requires.side ∙ ap (λ (b : Bool). begun_side b d home c.args.task) due in
    subst (λ (z : Side). KeepsBy z (task_gives (forms_at d home) c.args.task) c.entered.result d d) (sym s)
    (keeps-same home (task_gives (forms_at d home) c.args.task) c.entered.result d c.requires.acts.ready
    (c.entered.ensures.leaves home c.requires.acts (due-foreign-task d home c.args.task c.requires.acts due)))

-- ---- none is due

pub start-requires-clause-free : goal.start-requires-clause-free
start-requires-clause-free c = sym c.is_due.ensures ∙ c.if-is_due.false

pub start-requires-clause-side : goal.start-requires-clause-side
start-requires-clause-side c =
    c.requires.side
    ∙ ap (λ (b : Bool). begun_side b c.args.w.now c.args.home c.args.task) (sym c.is_due.ensures ∙ c.if-is_due.false)

pub returns-clause-step : goal.returns-clause-step
returns-clause-step c = λ l.
    let d = c.args.w.now in
    let p = row (task_in (names_of d) c.args.home.0 c.args.task) in
    let f = c.args.fuel.now in
    let k = c.charge.new.self in
    let u : 1 ≤ f = omega (arith, c.in_ok-charge.ensures.paid) in
    let e : k ≡ f - 1 = omega (arith, c.in_ok-charge.ensures.paid) in
    Step-paid c.args.side false c.start.result d c.start.new.w 1 f k c.start.new.fuel l l p u e
    (puts-none c.args.side c.start.result d c.start.new.w k c.start.new.fuel l l p (c.start.ensures.step true l))
    (c.start.ensures.step false l)

pub returns-in_err-charge-clause-keeps : goal.returns-in_err-charge-clause-keeps
returns-in_err-charge-clause-keeps c =
    let d = c.args.w.now in
    let p = err_from_is_err_and c.from_residual.result c.from_residual.ensures.1 in
    rw p.1
    (keeps-halted c.args.side (task_gives (forms_at d c.args.home) c.args.task) p.0 d d
    (changed-same c.args.side d c.requires.acts.ready))
