use Rattle.std.proofs.Common.{◌-◌, ◌∷◌, ◌≡◌, ◌≤◌, [], arith, false, true}
use Rattle.mb_eval_expr.proofs.Keeping.{kept-left}
use Rattle.mb_frames.proofs.Keeping.{leaves-throw}
use Rattle.mb_frames.proofs.Steps.{Sure-throw}
use Rattle.mb_frames.specs.Held.{HeldValue}
use Rattle.mb_frames.specs.Sorts.{AValue}
use Rattle.mb_frames.specs.declared.task.Outcome.TheVariants as o
use Rattle.mb_model.specs.Writing.{throw}
use Rattle.mb_frames.proofs.Passed.{no-lines, puts-none}
use Rattle.mb_frames.proofs.Steps.{Step-paid, Step-sure}
use Rattle.mb_frames.specs.Resolved.{answer_in, task_in}
use Rattle.mb_frames.specs.Rest.Expressions.{expr_rest}
use Rattle.mb_frames.specs.Standing.{forms_at}
use Rattle.mb_frames.specs.declared.frame.Move.TheVariants as move
use Rattle.mb_model.specs.Meaning.{finished, row}
use Rattle.mb_world.specs.Image.{Resolve, names_of}
use Rattle.std.proofs.lemmas.Result.{err_from_is_err_and}
use Rattle.mb_frames.proofs.Parts.{all-first, all-second}
use Rattle.mb_frames.proofs.Readying.{changed-same}
use Rattle.mb_frames.specs.Holding.{done_held, expr_held, task_held}
use Rattle.mb_frames.specs.Ready.{MayHold}
use Rattle.mb_eval_expr.proofs.step.take.Goals as goal

pub returns-in_ok-charge-in-Begin-clause-step : goal.returns-in_ok-charge-in-Begin-clause-step
returns-in_ok-charge-in-Begin-clause-step c = λ l.
    let d = c.args.w.now in
    let p = row (task_in (names_of d) c.args.home.0 c.in-Begin.task) in
    let f = c.args.fuel.now in
    let k = c.charge.new.self in
    let u : 1 ≤ f = omega (arith, c.in_ok-charge-in-Begin.ensures.paid) in
    let e : k ≡ f - 1 = omega (arith, c.in_ok-charge-in-Begin.ensures.paid) in
    rw c.in-Begin.is
    (Step-paid c.args.home false c.start.result d c.start.new.w 1 f k c.start.new.fuel l l p u e
    (puts-none c.args.home c.start.result d c.start.new.w k c.start.new.fuel l l p (c.start.ensures.row true l))
    (c.start.ensures.row false l))

pub returns-in_ok-charge-in-Begin-clause-puts_none : goal.returns-in_ok-charge-in-Begin-clause-puts_none
returns-in_ok-charge-in-Begin-clause-puts_none c =
    let d = c.args.w.now in
    puts-none c.args.home c.start.result d c.start.new.w c.charge.new.self c.start.new.fuel no-lines no-lines
    (row (task_in (names_of d) c.args.home.0 c.in-Begin.task)) (c.start.ensures.row true no-lines)

pub returns-in-Anew-clause-step : goal.returns-in-Anew-clause-step
returns-in-Anew-clause-step c = λ l. rw c.in-Anew.is (c.start-in-Anew.ensures.row false l)

pub returns-in-Anew-clause-puts_none : goal.returns-in-Anew-clause-puts_none
returns-in-Anew-clause-puts_none c =
    let d = c.args.w.now in
    puts-none c.args.home c.start-in-Anew.result d c.start-in-Anew.new.w c.args.fuel.now c.start-in-Anew.new.fuel
    no-lines no-lines
    (row (task_in (names_of d) c.args.home.0 c.in-Anew.task)) (c.start-in-Anew.ensures.row true no-lines)

pub returns-in-Normal-clause-step : goal.returns-in-Normal-clause-step
returns-in-Normal-clause-step c = λ l. rw (c.in-Expr.is, c.in-Some.is, c.in-Normal.is) (c.resume.ensures.row l)

pub returns-in-Normal-clause-puts_none : goal.returns-in-Normal-clause-puts_none
returns-in-Normal-clause-puts_none c =
    let d = c.args.w.now in
    puts-none c.args.home c.resume.result d c.resume.new.w c.args.fuel.now c.resume.new.fuel no-lines no-lines
    (expr_rest (names_of d) (forms_at d c.args.home) c.args.home.0 c.in-Expr.frame
    (answer_in (names_of d) c.in-Normal.answer) finished)
    (c.resume.ensures.row no-lines)

pub returns-in-Throw-clause-step : goal.returns-in-Throw-clause-step
returns-in-Throw-clause-step c = λ l.
    let d = c.args.w.now in
    let i = rw (c.in-Some.is, c.in-Throw.is) at c.requires.done in
    rw (c.in-Expr.is, c.in-Some.is, c.in-Throw.is)
    (Step-sure c.args.home true d (throw (Resolve (names_of d) c.in-Throw.x) finished)
    (move.Done (o.Throw c.in-Throw.x)) c.args.fuel.now l
    (Sure-throw c.args.home d c.in-Throw.x i.0))

pub returns-in-Throw-clause-keeps : goal.returns-in-Throw-clause-keeps
returns-in-Throw-clause-keeps c = λ r i h.
    let d = c.args.w.now in
    let home = c.args.home in
    let k = rw (c.in-Expr.is, c.in-Some.is, c.in-Throw.is) at h in
    kept-left home d r (leaves-throw d home AValue c.in-Throw.x
    (all-second (MayHold d home) (expr_held c.in-Expr.frame) (HeldValue c.in-Throw.x ∷ []) k).0)

pub returns-in_err-charge-in-Begin-clause-keeps : goal.returns-in_err-charge-in-Begin-clause-keeps
returns-in_err-charge-in-Begin-clause-keeps c = λ r i h.
    let p = err_from_is_err_and c.from_residual.result c.from_residual.ensures.1 in
    rw p.1 (record { changed = changed-same c.args.home c.args.w.now r; leaves = tt })

pub returns-in_ok-charge-in-Begin-clause-keeps : goal.returns-in_ok-charge-in-Begin-clause-keeps
returns-in_ok-charge-in-Begin-clause-keeps c = λ r i h.
    c.start.ensures.keeps r i
    (all-first (MayHold c.args.w.now c.args.home) (task_held c.in-Begin.task) (done_held c.args.done)
    (rw c.in-Begin.is at h))

pub returns-in-Anew-clause-keeps : goal.returns-in-Anew-clause-keeps
returns-in-Anew-clause-keeps c = λ r i h.
    c.start-in-Anew.ensures.keeps r i
    (all-first (MayHold c.args.w.now c.args.home) (task_held c.in-Anew.task) (done_held c.args.done)
    (rw c.in-Anew.is at h))

pub returns-in-Normal-clause-keeps : goal.returns-in-Normal-clause-keeps
returns-in-Normal-clause-keeps c = λ r i h.
    c.resume.ensures.keeps r i (rw (c.in-Expr.is, c.in-Some.is, c.in-Normal.is) at h)

pub start-requires-clause-held : goal.start-requires-clause-held
start-requires-clause-held c = rw c.in-Begin.is at c.requires.held
