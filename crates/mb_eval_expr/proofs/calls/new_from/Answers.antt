use Rattle.std.proofs.Common.{refl, sym}
use Rattle.mb_eval_expr.proofs.Keeping.{kept-left, new-part, waits-node}
use Rattle.mb_frames.proofs.Keeping.{expression-held}
use Rattle.mb_frames.specs.declared.expressions.ExprFrame.{ExprFrame}
use Rattle.mb_frames.specs.declared.expressions.ExprFrame.TheVariants as e
use Rattle.mb_eval_expr.proofs.Calling.{Part-argument-new, Part-arguments-new}
use Rattle.mb_eval_expr.proofs.calls.new_from.Goals as goal

pub returns-in-Some-clause-row : goal.returns-in-Some-clause-row
returns-in-Some-clause-row c = λ f.
    Part-argument-new c.args.home c.args.w.now f c.args.at c.args.node c.args.callee c.args.done c.requires.at
    c.requires.callee c.requires.done
    c.in-Some.next (rw c.len.ensures at (sym c.in-Some.ensures.part))

pub returns-in-None-clause-row : goal.returns-in-None-clause-row
returns-in-None-clause-row c = λ f.
    Part-arguments-new c.args.home c.args.w.now f c.args.at c.args.node c.args.callee c.args.done c.requires.at
    c.requires.callee c.requires.done
    c.new_all.result c.new_all.new.w (rw c.len.ensures at (sym c.in-None.ensures.part)) (c.new_all.ensures.row f)

pub returns-in-Some-clause-keeps : goal.returns-in-Some-clause-keeps
returns-in-Some-clause-keeps c =
    let d = c.args.w.now in
    let y : ExprFrame = e.NewArgument c.args.at c.args.node c.args.callee c.args.done in
    λ r i h. kept-left c.args.home d r (
    waits-node d c.args.home y c.in-Some.next c.args.at refl h (h.0, (h.1.0, tt))
    (expression-held d c.args.home c.in-Some.next
    (new-part d c.args.home c.args.node c.in-Some.next h.1.1.0.sound c.in-Some.ensures.sort)))

pub returns-in-None-clause-keeps : goal.returns-in-None-clause-keeps
returns-in-None-clause-keeps c =
    λ r i h. c.new_all.ensures.keeps r i (h.1.1.1)
