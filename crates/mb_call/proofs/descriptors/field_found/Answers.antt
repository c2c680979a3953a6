use Rattle.std.proofs.lemmas.Result.{err_from_is_err_and}
use Rattle.mb_call.proofs.FieldRows.{Part-got, keeps-got}
use Rattle.mb_call.proofs.descriptors.field_found.Goals as goal
use Rattle.mb_frames.proofs.Keeping.{keeps-halted}
use Rattle.mb_frames.proofs.Readying.{changed-same}
use Rattle.mb_frames.specs.Sorts.{desc_gives}

pub returns-clause-part : goal.returns-clause-part
returns-clause-part c = λ f.
    rw (c.asks.ensures, c.if-not-there.false)
    (Part-got c.args.home c.args.w.now c.field_key.new.w f c.in_ok-key.ensures.grew c.args.object c.args.field
    c.args.desc c.args.after c.in_ok-key.key c.in_ok-key.ensures.within c.in_ok-key.ensures.key c.requires.acts.holds)

pub returns-clause-keeps : goal.returns-clause-keeps
returns-clause-keeps c =
    rw c.asks.ensures
    (keeps-got c.args.home c.args.w.now c.field_key.new.w 0 c.in_ok-key.ensures.grew c.args.object c.args.field
    c.args.desc c.args.after c.in_ok-key.key c.in_ok-key.ensures.within c.in_ok-key.ensures.key c.requires.acts.holds
    c.requires.acts.ready)

pub returns-in_err-key-clause-keeps : goal.returns-in_err-key-clause-keeps
returns-in_err-key-clause-keeps c =
    let d = c.args.w.now in
    let p = err_from_is_err_and c.from_residual.result c.from_residual.ensures.1 in
    rw (p.1, c.in_err-key.ensures.kept)
    (keeps-halted c.args.home (desc_gives c.args.after) p.0 d d (changed-same c.args.home d c.requires.acts.ready))
