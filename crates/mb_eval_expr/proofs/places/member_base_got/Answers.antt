use Rattle.std.proofs.Common.{refl}
use Rattle.mb_frames.proofs.HeldLess.{key-held}
use Rattle.mb_eval_expr.proofs.places.member_base_got.Goals as goal

pub returns-clause-row : goal.returns-clause-row
returns-clause-row c = λ f. rw c.key-key.ensures at (c.follow.ensures.row f)

pub returns-clause-keeps : goal.returns-clause-keeps
returns-clause-keeps c = λ r i h.
    let k = key-held c.args.w.now c.args.home c.key-key.result (rw (c.key-key.ensures, c.texts.ensures.value)
    (h.1.1.1.0.within, refl)) in
    c.follow.ensures.keeps r i (h.1.0, (h.1.1.0, (h.0, (k, h.1.1.1.1))))
