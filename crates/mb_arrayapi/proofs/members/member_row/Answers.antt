use Rattle.std.proofs.Common.{◌∷◌}
use Rattle.std.proofs.lemmas.Result.{err_from_is_err_and}
use Rattle.mb_arrayapi.proofs.Acting.{halts}
use Rattle.mb_arrayapi.proofs.Entered.{Part-no-object, Part-object, object-kept}
use Rattle.mb_arrayapi.proofs.members.member_row.Goals as goal
use Rattle.mb_frames.proofs.HeldLess.{value-object}
use Rattle.mb_frames.specs.Held.{HeldValue}
use Rattle.mb_frames.specs.Holding.{member_held}
use Rattle.mb_frames.specs.Sorts.{AValue}

pub returns-in_err-key-in-Object-clause-keeps : goal.returns-in_err-key-in-Object-clause-keeps
returns-in_err-key-in-Object-clause-keeps c =
    let p = err_from_is_err_and c.from_residual.result c.from_residual.ensures.1 in
    rw (p.1, c.in_err-key-in-Object.ensures.kept)
    (halts c.args.w.now c.args.home (HeldValue c.args.this ∷ member_held c.args.member) c.requires.acts AValue p.0)

pub returns-in_ok-key-in-Object-clause-part : goal.returns-in_ok-key-in-Object-clause-part
returns-in_ok-key-in-Object-clause-part c = λ f.
    let d = c.args.w.now in
    let a = c.requires.acts in
    rw (c.in-Object.is, c.waits.ensures)
    (Part-object c.args.home d c.length_key.new.w c.in_ok-key-in-Object.ensures.grew a.ready c.in-Object.object
    (value-object d c.args.home c.in-Object.object (rw c.in-Object.is at a.holds).0) c.in_ok-key-in-Object.key
    c.in_ok-key-in-Object.ensures.within c.in_ok-key-in-Object.ensures.key c.args.member a.holds.1 f)

pub returns-in_ok-key-in-Object-clause-keeps : goal.returns-in_ok-key-in-Object-clause-keeps
returns-in_ok-key-in-Object-clause-keeps c =
    let d = c.args.w.now in
    let a = c.requires.acts in
    rw c.waits.ensures
    (object-kept c.args.home d c.length_key.new.w c.in_ok-key-in-Object.ensures.grew a.ready c.in-Object.object
    (value-object d c.args.home c.in-Object.object (rw c.in-Object.is at a.holds).0) c.in_ok-key-in-Object.key
    c.in_ok-key-in-Object.ensures.within c.in_ok-key-in-Object.ensures.key c.args.member a.holds.1)

pub returns-in_default-clause-part : goal.returns-in_default-clause-part
returns-in_default-clause-part c = λ f.
    Part-no-object c.args.home c.type_error.result c.args.w.now c.type_error.new.w f c.args.this c.args.member
    c.in_default.not-Object (c.type_error.ensures.part f)

pub returns-in_default-clause-keeps : goal.returns-in_default-clause-keeps
returns-in_default-clause-keeps c = c.type_error.ensures.keeps AValue
