use Rattle.std.proofs.Common.{refl}
use Rattle.mb_frames.specs.declared.task.Method.TheVariants as m
use Rattle.mb_frames.specs.declared.expressions.ExprFrame.TheVariants as e
use Rattle.mb_frames.specs.Sorts.{AValue}
use Rattle.mb_eval_expr.proofs.Keeping.{kept-left, waits-asks}
use Rattle.mb_eval_expr.proofs.Referring.{Part-deleted, Part-not-deleted}
use Rattle.mb_world.specs.Image.{key_in, names_of}
use Rattle.mb_frames.proofs.HeldLess.{value-object}
use Rattle.mb_eval_expr.proofs.using.delete_place.Goals as goal

pub returns-in-Object-clause-row : goal.returns-in-Object-clause-row
returns-in-Object-clause-row c = λ f at.
    rw c.in-Object.is (Part-deleted c.args.home c.args.w.now f at c.in-Object.object c.args.key c.asks.result
    c.asks.ensures
    (rw c.in-Object.is at c.requires.base) c.requires.key)

pub returns-in_default-clause-row : goal.returns-in_default-clause-row
returns-in_default-clause-row c = λ f at.
    Part-not-deleted c.args.home c.args.w.now f c.type_error.result c.type_error.new.w at c.args.base
    (key_in (names_of c.args.w.now) c.args.key) c.in_default.not-Object (c.type_error.ensures.part f)

pub returns-in-Object-clause-keeps : goal.returns-in-Object-clause-keeps
returns-in-Object-clause-keeps c = λ r i h.
    let d = c.args.w.now in
    rw c.asks.ensures (kept-left c.args.home d r
    (waits-asks d c.args.home e.Deleted (m.Delete c.args.key) c.in-Object.object refl tt
    (value-object d c.args.home c.in-Object.object (rw c.in-Object.is at h.0)) (h.1.0, tt)))

pub returns-in_default-clause-keeps : goal.returns-in_default-clause-keeps
returns-in_default-clause-keeps c = λ r i h. c.type_error.ensures.keeps AValue r i tt
