use Rattle.std.proofs.Common.{◌∷◌, []}
use Rattle.std.proofs.lemmas.Result.{err_from_is_err_and}
use Rattle.mb_arrayapi.proofs.Acting.{halts, halts-after, texted}
use Rattle.mb_arrayapi.proofs.Pushes.{Part-length, length-kept}
use Rattle.mb_arrayapi.proofs.pushing.push_length.Goals as goal
use Rattle.mb_frames.specs.Held.{HeldObject}
use Rattle.mb_frames.specs.Sorts.{AValue}

pub returns-in_err-key-clause-keeps : goal.returns-in_err-key-clause-keeps
returns-in_err-key-clause-keeps c =
    let p = err_from_is_err_and c.from_residual.result c.from_residual.ensures.1 in
    rw (p.1, c.in_err-key.ensures.kept)
    (halts c.args.w.now c.args.home (HeldObject c.args.object ∷ []) c.requires.acts AValue p.0)

pub returns-in_err-whole-clause-keeps : goal.returns-in_err-whole-clause-keeps
returns-in_err-whole-clause-keeps c =
    let d = c.args.w.now in
    let held = HeldObject c.args.object ∷ [] in
    let a = c.requires.acts in
    let q = c.from_residual-in_err-whole in
    let p = err_from_is_err_and q.result q.ensures.1 in
    rw p.1
    (halts-after d c.args.home held a c.length_key.new.w
    (texted d c.args.home held a c.length_key.new.w c.in_ok-key.ensures.grew) AValue p.0)

pub returns-clause-part : goal.returns-clause-part
returns-clause-part c = λ f.
    let a = c.requires.acts in
    rw c.waits.ensures
    (Part-length c.args.home c.args.w.now a.ready c.args.object a.holds.0 c.length_key.new.w c.in_ok-key.ensures.grew
    c.in_ok-key.key c.in_ok-key.ensures.within c.args.length c.in_ok-whole.whole c.in_ok-whole.ensures
    c.in_ok-key.ensures.key f)

pub returns-clause-keeps : goal.returns-clause-keeps
returns-clause-keeps c =
    let a = c.requires.acts in
    rw c.waits.ensures
    (length-kept c.args.home c.args.w.now a.ready c.args.object a.holds.0 c.length_key.new.w c.in_ok-key.ensures.grew
    c.in_ok-key.key c.in_ok-key.ensures.within c.args.length c.in_ok-whole.whole c.in_ok-whole.ensures
    c.in_ok-key.ensures.key)
