use Rattle.std.proofs.Common.{◌∷◌, []}
use Rattle.std.proofs.lemmas.Result.{err_from_is_err_and}
use Rattle.mb_arrayapi.proofs.Acting.{halts, halts-after, texted}
use Rattle.mb_arrayapi.proofs.Pops.{Part-popped, popped-kept}
use Rattle.mb_arrayapi.proofs.popping.pop_length.Goals as goal
use Rattle.mb_frames.specs.Held.{HeldObject, HeldValue}
use Rattle.mb_frames.specs.Sorts.{AValue}

pub returns-in_err-key-clause-keeps : goal.returns-in_err-key-clause-keeps
returns-in_err-key-clause-keeps c =
    let p = err_from_is_err_and c.from_residual.result c.from_residual.ensures.1 in
    rw (p.1, c.in_err-key.ensures.kept)
    (halts c.args.w.now c.args.home (HeldObject c.args.object ∷ HeldValue c.args.x ∷ []) c.requires.acts AValue p.0)

pub returns-in_err-whole-clause-keeps : goal.returns-in_err-whole-clause-keeps
returns-in_err-whole-clause-keeps c =
    let d = c.args.w.now in
    let held = HeldObject c.args.object ∷ HeldValue c.args.x ∷ [] in
    let a = c.requires.acts in
    let q = c.from_residual-in_err-whole in
    let p = err_from_is_err_and q.result q.ensures.1 in
    rw p.1
    (halts-after d c.args.home held a c.length_key.new.w
    (texted d c.args.home held a c.length_key.new.w c.in_ok-key.ensures.grew) AValue p.0)

pub returns-clause-part : goal.returns-clause-part
returns-clause-part c = λ f.
    let h = c.requires.acts.holds in
    rw c.waits.ensures
    (Part-popped c.args.home c.args.w.now c.length_key.new.w c.in_ok-key.ensures.grew c.requires.acts.ready
    c.args.object h.0 c.in_ok-key.key c.in_ok-key.ensures.within c.args.length c.in_ok-whole.whole
    c.in_ok-whole.ensures c.args.x h.1.0 c.in_ok-key.ensures.key f)

pub returns-clause-keeps : goal.returns-clause-keeps
returns-clause-keeps c =
    let h = c.requires.acts.holds in
    rw c.waits.ensures
    (popped-kept c.args.home c.args.w.now c.length_key.new.w c.in_ok-key.ensures.grew c.requires.acts.ready
    c.args.object h.0 c.in_ok-key.key c.in_ok-key.ensures.within c.args.length c.in_ok-whole.whole
    c.in_ok-whole.ensures c.args.x h.1.0 c.in_ok-key.ensures.key)
