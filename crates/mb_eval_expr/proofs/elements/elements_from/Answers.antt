use Rattle.std.proofs.Common.{refl, sym}
use Rattle.mb_eval_expr.proofs.Listing.{Part-element, Part-elements}
use Rattle.mb_eval_expr.proofs.Keeping.{kept-left, waits-node}
use Rattle.mb_eval_expr.proofs.Listing.{array-part}
use Rattle.mb_frames.proofs.HeldLess.{array-object, object-value}
use Rattle.mb_frames.proofs.Keeping.{expression-held}
use Rattle.mb_frames.specs.declared.expressions.ExprFrame.TheVariants as e
use Rattle.mb_eval_expr.proofs.elements.elements_from.Goals as goal

pub returns-in-Some-clause-row : goal.returns-in-Some-clause-row
returns-in-Some-clause-row c = λ f.
    Part-element c.args.home c.args.w.now f c.args.at c.args.node c.args.array c.args.place c.requires.at
    c.requires.array
    c.in-Some.part (sym c.in-Some.ensures.part)

pub returns-in-None-clause-row : goal.returns-in-None-clause-row
returns-in-None-clause-row c = λ f.
    Part-elements c.args.home c.args.w.now f c.args.at c.args.node c.args.array c.args.place c.requires.at
    c.requires.array
    (sym c.in-None.ensures.part) c.value.result (c.value.ensures.row c.args.home c.args.w.now c.requires.array)

pub returns-in-Some-clause-keeps : goal.returns-in-Some-clause-keeps
returns-in-Some-clause-keeps c = λ r i h.
    let d = c.args.w.now in
    let home = c.args.home in
    kept-left home d r
    (waits-node d home (e.Element c.args.at c.args.node c.args.array c.args.place) c.in-Some.part c.args.at refl h
    (h.0, (h.1.0, tt))
    (expression-held d home c.in-Some.part (array-part d home c.args.node c.in-Some.part h.1.1.0.sound
    c.in-Some.ensures.sort)))

pub returns-in-None-clause-keeps : goal.returns-in-None-clause-keeps
returns-in-None-clause-keeps c = λ r i h.
    let d = c.args.w.now in
    let home = c.args.home in
    kept-left home d r (c.value.ensures.leaves home d r i
    (object-value d home c.args.array (array-object d home c.args.array h.1.1.1.0), tt))
