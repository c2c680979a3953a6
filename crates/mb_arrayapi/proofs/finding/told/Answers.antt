use Rattle.std.proofs.lemmas.Result.{err_from_is_err_and}
use Rattle.mb_arrayapi.proofs.Acting.{halts}
use Rattle.mb_arrayapi.proofs.TurnRows.{Part-hole, Part-there, there-kept}
use Rattle.mb_arrayapi.proofs.finding.told.Goals as goal
use Rattle.mb_arrayapi.specs.machine.Turning.{elements_held}
use Rattle.mb_frames.specs.Sorts.{AValue}

pub returns-then-not-there-clause-part : goal.returns-then-not-there-clause-part
returns-then-not-there-clause-part c =
    let e = c.args.at in
    rw c.if-not-there.true
    (Part-hole c.args.home c.args.w.now e.object e.turn e.place c.goes_on.result c.goes_on.new.w c.args.fuel.now
    c.goes_on.new.fuel e.left c.goes_on.ensures.part)

pub returns-in_err-key-clause-keeps : goal.returns-in_err-key-clause-keeps
returns-in_err-key-clause-keeps c =
    let p = err_from_is_err_and c.from_residual.result c.from_residual.ensures.1 in
    rw (p.1, c.in_err-key.ensures.kept)
    (halts c.args.w.now c.args.home (elements_held c.args.at) c.requires.acts AValue p.0)

pub returns-clause-part : goal.returns-clause-part
returns-clause-part c =
    let e = c.args.at in
    rw (c.if-not-there.false, c.waits.ensures)
    (Part-there c.args.home c.args.w.now e.object e.turn e.place c.element_key.new.w c.in_ok-key.ensures.grew
    c.requires.acts.ready c.in_ok-key.key c.in_ok-key.ensures.within c.requires.acts.holds c.in_ok-key.ensures.key
    e.left c.args.fuel.now)

pub returns-clause-keeps : goal.returns-clause-keeps
returns-clause-keeps c =
    let e = c.args.at in
    rw c.waits.ensures
    (there-kept c.args.home c.args.w.now e.object e.turn e.place c.element_key.new.w c.in_ok-key.ensures.grew
    c.requires.acts.ready c.in_ok-key.key c.in_ok-key.ensures.within c.requires.acts.holds c.in_ok-key.ensures.key
    e.left)
