use Rattle.std.proofs.lemmas.Result.{err_from_is_err_and}
use Rattle.mb_call.proofs.ListRows.{Part-length, Part-no-list, keeps-length}
use Rattle.mb_call.proofs.lists.list_of.Goals as goal
use Rattle.mb_frames.proofs.HeldLess.{value-object}
use Rattle.mb_frames.proofs.Keeping.{keeps-halted}
use Rattle.mb_frames.proofs.Readying.{changed-same}
use Rattle.mb_frames.specs.Sorts.{list_gives}

pub returns-in_ok-key-in-Object-clause-part : goal.returns-in_ok-key-in-Object-clause-part
returns-in_ok-key-in-Object-clause-part c = λ f.
    let h = c.requires.held in
    rw (c.in-Object.is, c.get.ensures)
    (Part-length c.args.home c.args.w.now c.key_of_word.new.w f c.in_ok-key-in-Object.ensures.grew c.in-Object.list
    c.args.after c.in_ok-key-in-Object.key c.in_ok-key-in-Object.ensures.within
    (value-object c.args.w.now c.args.home c.in-Object.list (rw c.in-Object.is at h).0, h.1)
    c.in_ok-key-in-Object.ensures.key)

pub returns-in_ok-key-in-Object-clause-keeps : goal.returns-in_ok-key-in-Object-clause-keeps
returns-in_ok-key-in-Object-clause-keeps c =
    let h = c.requires.held in
    rw c.get.ensures
    (keeps-length c.args.home c.args.w.now c.key_of_word.new.w 0 c.in_ok-key-in-Object.ensures.grew c.in-Object.list
    c.args.after c.in_ok-key-in-Object.key c.in_ok-key-in-Object.ensures.within
    (value-object c.args.w.now c.args.home c.in-Object.list (rw c.in-Object.is at h).0, h.1) c.requires.ready)

pub returns-in_err-key-in-Object-clause-keeps : goal.returns-in_err-key-in-Object-clause-keeps
returns-in_err-key-in-Object-clause-keeps c =
    let d = c.args.w.now in
    let p = err_from_is_err_and c.from_residual.result c.from_residual.ensures.1 in
    rw (p.1, c.in_err-key-in-Object.ensures.kept)
    (keeps-halted c.args.home (list_gives c.args.after) p.0 d d (changed-same c.args.home d c.requires.ready))

pub returns-in_default-clause-part : goal.returns-in_default-clause-part
returns-in_default-clause-part c = λ f.
    Part-no-list c.args.home c.type_error.result c.args.w.now c.type_error.new.w f c.args.x c.args.after
    c.in_default.not-Object (c.type_error.ensures.part f)

pub returns-in_default-clause-keeps : goal.returns-in_default-clause-keeps
returns-in_default-clause-keeps c = c.type_error.ensures.keeps (list_gives c.args.after)
