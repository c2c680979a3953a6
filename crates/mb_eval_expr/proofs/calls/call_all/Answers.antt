use Rattle.std.proofs.Common.{refl}
use Rattle.mb_eval_expr.proofs.Keeping.{kept-left}
use Rattle.mb_frames.specs.Sorts.{AValue}
use Rattle.mb_eval_expr.proofs.Calling.{Part-called, Part-uncalled}
use Rattle.mb_frames.proofs.HeldLess.{value-object}
use Rattle.mb_eval_expr.proofs.calls.call_all.Goals as goal

pub returns-in-Some-clause-row : goal.returns-in-Some-clause-row
returns-in-Some-clause-row c = λ f.
    Part-called c.args.home c.args.w.now f c.args.callee c.in-Some.object c.args.this c.args.arguments c.performs.result
    c.in-Some.ensures.object c.in-Some.ensures.calls
    (c.performs.ensures.row c.args.w.now (rw c.in-Some.ensures.object at c.requires.callee)
    (c.requires.this, (c.requires.arguments, tt)))

pub returns-in-None-clause-row : goal.returns-in-None-clause-row
returns-in-None-clause-row c = λ f.
    Part-uncalled c.args.home c.args.w.now f c.type_error.result c.type_error.new.w c.args.callee c.args.this
    c.args.arguments
    c.in-None.ensures.calls (c.type_error.ensures.part f)

pub returns-in-Some-clause-keeps : goal.returns-in-Some-clause-keeps
returns-in-Some-clause-keeps c =
    let d = c.args.w.now in
    λ r i h. kept-left c.args.home d r (
    let x = rw c.in-Some.ensures.object at h.0 in
    c.performs.ensures.leaves d refl r i (value-object d c.args.home c.in-Some.object x, h.1))

pub returns-in-None-clause-keeps : goal.returns-in-None-clause-keeps
returns-in-None-clause-keeps c =
    λ r i h. c.type_error.ensures.keeps AValue r i tt
