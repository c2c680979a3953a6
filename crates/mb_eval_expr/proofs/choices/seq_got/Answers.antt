use Rattle.std.proofs.Common.{refl, sym, ◌+◌}
use Rattle.mb_eval_expr.proofs.Keeping.{kept-left, kept-still, seq-part, waits-node}
use Rattle.mb_frames.proofs.Keeping.{expression-held}
use Rattle.mb_frames.specs.declared.expressions.ExprFrame.{ExprFrame}
use Rattle.mb_frames.specs.declared.expressions.ExprFrame.TheVariants as e
use Rattle.mb_eval_expr.proofs.Calling.{Part-sequence, Part-sequenced}
use Rattle.mb_eval_expr.proofs.choices.seq_got.Goals as goal

pub returns-else-next-eq4294967295-clause-row : goal.returns-else-next-eq4294967295-clause-row
returns-else-next-eq4294967295-clause-row c = λ f.
    Part-sequence c.args.home c.args.w.now f c.args.at c.args.node c.requires.at
    c.in-Some.part c.args.next c.args.x c.requires.value (sym c.in-Some.ensures.part)

pub returns-in-None-clause-row : goal.returns-in-None-clause-row
returns-in-None-clause-row c = λ f.
    Part-sequenced c.args.home c.args.w.now f c.args.at c.args.node c.requires.at
    c.args.next c.args.x c.requires.value (sym c.in-None.ensures.part) c.value.result
    (c.value.ensures.row c.args.home c.args.w.now c.requires.value)

pub returns-else-next-eq4294967295-clause-keeps : goal.returns-else-next-eq4294967295-clause-keeps
returns-else-next-eq4294967295-clause-keeps c =
    let d = c.args.w.now in
    let s : ExprFrame = e.Seq c.args.at c.args.node (c.args.next + 1) in
    λ r i h. kept-left c.args.home d r (
    waits-node d c.args.home s c.in-Some.part c.args.at refl h.1 (h.1.0, (h.1.1.0, tt))
    (expression-held d c.args.home c.in-Some.part
    (seq-part d c.args.home c.args.node c.in-Some.part h.1.1.1.0.sound c.in-Some.ensures.sort)))

pub returns-in-None-clause-keeps : goal.returns-in-None-clause-keeps
returns-in-None-clause-keeps c =
    let d = c.args.w.now in
    λ r i h. kept-left c.args.home d r (c.value.ensures.leaves c.args.home d r i (h.0, tt))

pub returns-then-next-eq4294967295-clause-keeps : goal.returns-then-next-eq4294967295-clause-keeps
returns-then-next-eq4294967295-clause-keeps c = λ r i h. kept-still c.args.home c.args.w.now r
