use Rattle.std.proofs.Common.{arith, ◌-◌, ◌≡◌, refl, suc}
use Rattle.std.proofs.lemmas.Result.{err_from_is_err_and}
use Rattle.mb_arrayapi.proofs.Acting.{halts}
use Rattle.mb_arrayapi.proofs.TurnRows.{Part-turn, Part-unpaid-turn, turn-kept}
use Rattle.mb_arrayapi.proofs.turns.turns_from.Goals as goal
use Rattle.mb_arrayapi.specs.machine.Turning.{elements_held}
use Rattle.mb_frames.specs.Sorts.{AValue}

pub returns-in_err-charge-clause-part : goal.returns-in_err-charge-clause-part
returns-in_err-charge-clause-part c =
    let e = c.args.at in
    let n : e.left ≡ suc (e.left - 1) = omega arith in
    let p = err_from_is_err_and c.from_residual.result c.from_residual.ensures.1 in
    rw (p.1, p.2, c.in_err-charge.ensures.kept)
    (Part-unpaid-turn c.args.home c.args.w.now e.object e.turn e.place c.args.fuel.now (e.left - 1) e.left n
    (c.in_err-charge.ensures.spent.0 refl))

pub returns-in_err-charge-clause-keeps : goal.returns-in_err-charge-clause-keeps
returns-in_err-charge-clause-keeps c =
    let p = err_from_is_err_and c.from_residual.result c.from_residual.ensures.1 in
    rw p.1 (halts c.args.w.now c.args.home (elements_held c.args.at) c.requires.acts AValue p.0)

pub returns-in_err-key-clause-keeps : goal.returns-in_err-key-clause-keeps
returns-in_err-key-clause-keeps c =
    let q = c.from_residual-in_err-key in
    let p = err_from_is_err_and q.result q.ensures.1 in
    rw (p.1, c.in_err-key.ensures.kept)
    (halts c.args.w.now c.args.home (elements_held c.args.at) c.requires.acts AValue p.0)

pub returns-clause-part : goal.returns-clause-part
returns-clause-part c =
    let e = c.args.at in
    let n : e.left ≡ suc (e.left - 1) = omega arith in
    rw c.waits.ensures
    (Part-turn c.args.home c.args.w.now e.object e.turn e.place c.element_key.new.w c.in_ok-key.ensures.grew
    c.requires.acts.ready c.in_ok-key.key c.in_ok-key.ensures.within c.requires.acts.holds c.in_ok-key.ensures.key
    (e.left - 1) c.args.fuel.now c.charge.new.self e.left n c.in_ok-charge.ensures.paid)

pub returns-clause-keeps : goal.returns-clause-keeps
returns-clause-keeps c =
    let e = c.args.at in
    rw c.waits.ensures
    (turn-kept c.args.home c.args.w.now e.object e.turn e.place c.element_key.new.w c.in_ok-key.ensures.grew
    c.requires.acts.ready c.in_ok-key.key c.in_ok-key.ensures.within c.requires.acts.holds c.in_ok-key.ensures.key
    (e.left - 1))
