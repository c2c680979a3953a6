use Rattle.std.proofs.Common.{arith, false, true, ◌-◌, ◌≡◌, ◌≤◌}
use Rattle.std.proofs.lemmas.Result.{err_from_is_err_and}
use Rattle.mb_frames.proofs.Passed.{puts-none}
use Rattle.mb_frames.proofs.Steps.{Step-paid}
use Rattle.mb_frames.specs.Holding.{task_held}
use Rattle.mb_frames.specs.Resolved.{task_in}
use Rattle.mb_frames.specs.Stepping.{written}
use Rattle.mb_intrinsics.proofs.Sides.{halted}
use Rattle.mb_model.specs.Meaning.{row}
use Rattle.mb_world.specs.Image.{names_of}
use Rattle.mb_intrinsics.proofs.step.take.Goals as goal

pub start-requires : goal.start-requires
start-requires c = record {
  acting = rw c.in-Begin.is at c.requires.acting;
  ours = rw c.in-Begin.is at c.requires.ours;
}

pub start-requires-in-Anew : goal.start-requires-in-Anew
start-requires-in-Anew c = record {
  acting = rw c.in-Anew.is at c.requires.acting;
  ours = rw c.in-Anew.is at c.requires.ours;
}

pub returns-in_err-charge-in-Begin-clause-keeps : goal.returns-in_err-charge-in-Begin-clause-keeps
returns-in_err-charge-in-Begin-clause-keeps c =
    let p = err_from_is_err_and c.from_residual.result c.from_residual.ensures.1 in
    rw p.1
    (halted c.args.w.now c.args.home (task_held c.in-Begin.task) (rw c.in-Begin.is at c.requires.acting) p.0)

pub returns-in_ok-charge-in-Begin-clause-step : goal.returns-in_ok-charge-in-Begin-clause-step
returns-in_ok-charge-in-Begin-clause-step c = λ done.
    let d = c.args.w.now in
    let p = row (task_in (names_of d) c.args.home.0 c.in-Begin.task) in
    let f = c.args.fuel.now in
    let k = c.charge.new.self in
    let l = written c.args.lines.now in
    let l1 = written c.start.new.lines in
    let u : 1 ≤ f = omega (arith, c.in_ok-charge-in-Begin.ensures.paid) in
    let e : k ≡ f - 1 = omega (arith, c.in_ok-charge-in-Begin.ensures.paid) in
    rw c.in-Begin.is
    (Step-paid c.args.home false c.start.result d c.start.new.w 1 f k c.start.new.fuel l l1 p u e
    (puts-none c.args.home c.start.result d c.start.new.w k c.start.new.fuel l l1 p (c.start.ensures.row true))
    (c.start.ensures.row false))

pub returns-in_ok-charge-in-Begin-clause-puts_none : goal.returns-in_ok-charge-in-Begin-clause-puts_none
returns-in_ok-charge-in-Begin-clause-puts_none c =
    let d = c.args.w.now in
    puts-none c.args.home c.start.result d c.start.new.w c.charge.new.self c.start.new.fuel (written c.args.lines.now)
    (written c.start.new.lines) (row (task_in (names_of d) c.args.home.0 c.in-Begin.task)) (c.start.ensures.row true)

pub returns-in-Anew-clause-step : goal.returns-in-Anew-clause-step
returns-in-Anew-clause-step c = λ done. rw c.in-Anew.is (c.start-in-Anew.ensures.row false)

pub returns-in-Anew-clause-puts_none : goal.returns-in-Anew-clause-puts_none
returns-in-Anew-clause-puts_none c =
    let d = c.args.w.now in
    puts-none c.args.home c.start-in-Anew.result d c.start-in-Anew.new.w c.args.fuel.now c.start-in-Anew.new.fuel
    (written c.args.lines.now) (written c.start-in-Anew.new.lines)
    (row (task_in (names_of d) c.args.home.0 c.in-Anew.task)) (c.start-in-Anew.ensures.row true)
