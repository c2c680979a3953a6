use Rattle.mb_call.proofs.ListRows.{Part-element, Part-unpaid-element, keeps-element}
use Rattle.mb_call.proofs.lists.list_from.Goals as goal
use Rattle.mb_frames.proofs.Keeping.{keeps-halted}
use Rattle.mb_frames.proofs.Readying.{changed-same}
use Rattle.mb_frames.specs.Sorts.{list_gives}
use Rattle.std.proofs.Common.{arith, ◌-◌, ◌≡◌, refl, suc}
use Rattle.std.proofs.lemmas.Result.{err_from_is_err_and}

pub returns-clause-part : goal.returns-clause-part
returns-clause-part c =
    let n : c.args.left ≡ suc (c.args.left - 1) = omega arith in
    rw c.get.ensures
    (Part-element c.args.home c.args.w.now c.args.list c.args.done c.args.after c.index_key.new.w c.args.fuel.now
    c.charge.new.self (c.args.left - 1) c.in_ok-key.ensures.grew c.in_ok-key.key c.in_ok-key.ensures.within
    c.requires.acts.holds c.args.left n (rw c.len.ensures at c.in_ok-key.ensures.key) c.in_ok-charge.ensures.paid)

pub returns-clause-keeps : goal.returns-clause-keeps
returns-clause-keeps c =
    rw c.get.ensures
    (keeps-element c.args.home c.args.w.now c.args.list c.args.done c.args.after c.index_key.new.w 0 0
    (c.args.left - 1) c.in_ok-key.ensures.grew c.in_ok-key.key c.in_ok-key.ensures.within c.requires.acts.holds
    c.requires.acts.ready)

pub returns-in_err-charge-clause-part : goal.returns-in_err-charge-clause-part
returns-in_err-charge-clause-part c =
    let n : c.args.left ≡ suc (c.args.left - 1) = omega arith in
    let p = err_from_is_err_and c.from_residual.result c.from_residual.ensures.1 in
    rw (p.1, p.2, c.in_err-charge.ensures.kept)
    (Part-unpaid-element c.args.home c.args.w.now c.args.list c.args.done c.args.after c.args.fuel.now
    (c.args.left - 1) c.args.left n (c.in_err-charge.ensures.spent.0 refl))

pub returns-in_err-charge-clause-keeps : goal.returns-in_err-charge-clause-keeps
returns-in_err-charge-clause-keeps c =
    let d = c.args.w.now in
    let p = err_from_is_err_and c.from_residual.result c.from_residual.ensures.1 in
    rw p.1
    (keeps-halted c.args.home (list_gives c.args.after) p.0 d d (changed-same c.args.home d c.requires.acts.ready))

pub returns-in_err-key-clause-keeps : goal.returns-in_err-key-clause-keeps
returns-in_err-key-clause-keeps c =
    let d = c.args.w.now in
    let p = err_from_is_err_and c.from_residual-in_err-key.result c.from_residual-in_err-key.ensures.1 in
    rw (p.1, c.in_err-key.ensures.kept)
    (keeps-halted c.args.home (list_gives c.args.after) p.0 d d (changed-same c.args.home d c.requires.acts.ready))
