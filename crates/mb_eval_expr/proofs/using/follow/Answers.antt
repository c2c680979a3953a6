use Rattle.mb_frames.specs.declared.expressions.After.TheVariants as after
use Rattle.std.proofs.Common.{refl}
use Rattle.mb_frames.specs.Holding.{after_held, expr_held, reference_held}
use Rattle.mb_frames.specs.declared.expressions.ExprFrame.TheVariants as e
use Rattle.mb_frames.specs.Sorts.{AValue}
use Rattle.mb_eval_expr.proofs.Keeping.{kept-left, waits-node}
use Rattle.mb_eval_expr.proofs.Referring.{Part-assign}
use Rattle.mb_frames.proofs.Parts.{all-both, all-first, all-second}
use Rattle.mb_frames.specs.Ready.{MayHold}
use Rattle.mb_eval_expr.proofs.using.follow.Goals as goal

pub returns-in-Get-clause-row : goal.returns-in-Get-clause-row
returns-in-Get-clause-row c = λ f. rw c.in-Get.is (c.get_value.ensures.row f)

pub returns-in-Assign-clause-row : goal.returns-in-Assign-clause-row
returns-in-Assign-clause-row c = λ f.
    rw c.in-Assign.is (Part-assign c.args.home c.args.w.now f c.args.at c.args.to c.in-Assign.value c.requires.at
    c.requires.to)

pub returns-in-Compound-clause-row : goal.returns-in-Compound-clause-row
returns-in-Compound-clause-row c = λ f. rw c.in-Compound.is (c.get_value-in-Compound.ensures.row f)

pub returns-in-Update-clause-row : goal.returns-in-Update-clause-row
returns-in-Update-clause-row c = λ f. rw c.in-Update.is (c.get_value-in-Update.ensures.row f)

pub returns-in-Place-to-clause-row : goal.returns-in-Place-to-clause-row
returns-in-Place-to-clause-row c = λ f. rw (c.in-Delete.is, c.in-Place-to.is) (c.delete_place.ensures.row f c.args.at)

pub returns-in-Get-clause-keeps : goal.returns-in-Get-clause-keeps
returns-in-Get-clause-keeps c = λ r i h. c.get_value.ensures.keeps r i (h.0, (h.1.0, rw c.in-Get.is at h.1.1))

pub returns-in-Assign-clause-keeps : goal.returns-in-Assign-clause-keeps
returns-in-Assign-clause-keeps c = λ r i h.
    let d = c.args.w.now in
    let o = c.args.home in
    let k = rw c.in-Assign.is at h.1.1 in
    let a = after_held (after.Assign c.in-Assign.value) in
    kept-left o d r
    (waits-node d o (e.AssignValue c.args.at c.args.to) c.in-Assign.value c.args.at refl
    (h.0, (h.1.0, all-first (MayHold d o) (reference_held c.args.to) a k)) (h.0, (h.1.0, tt))
    (all-second (MayHold d o) (reference_held c.args.to) a k).0)

pub returns-in-Compound-clause-keeps : goal.returns-in-Compound-clause-keeps
returns-in-Compound-clause-keeps c = λ r i h.
    let d = c.args.w.now in
    let o = c.args.home in
    let k = rw c.in-Compound.is at h.1.1 in
    let a = after_held (after.Compound c.in-Compound.sign c.in-Compound.value) in
    let f = all-first (MayHold d o) (reference_held c.args.to) a k in
    let s = all-second (MayHold d o) (reference_held c.args.to) a k in
    c.get_value-in-Compound.ensures.keeps r i (
      h.0,
      (
        h.1.0,
        all-both (MayHold d o) (reference_held c.args.to)
            (expr_held (e.CompoundOld c.args.at c.in-Compound.sign c.in-Compound.value c.args.to)) f
            (h.0, (h.1.0, (s.0, (s.1.0, f)))),
      ),
    )

pub returns-in-Update-clause-keeps : goal.returns-in-Update-clause-keeps
returns-in-Update-clause-keeps c = λ r i h.
    let d = c.args.w.now in
    let o = c.args.home in
    let k = rw c.in-Update.is at h.1.1 in
    let f = all-first (MayHold d o) (reference_held c.args.to)
    (after_held (after.Update c.in-Update.plus c.in-Update.prefix)) k in
    c.get_value-in-Update.ensures.keeps r i (
      h.0,
      (
        h.1.0,
        all-both (MayHold d o) (reference_held c.args.to)
            (expr_held (e.UpdateOld c.args.at c.in-Update.plus c.in-Update.prefix c.args.to)) f (h.0, (h.1.0, f)),
      ),
    )

pub returns-in-Name-clause-keeps : goal.returns-in-Name-clause-keeps
returns-in-Name-clause-keeps c = λ r i h. c.type_error.ensures.keeps AValue r i tt

pub returns-in-Place-clause-keeps : goal.returns-in-Place-clause-keeps
returns-in-Place-clause-keeps c = λ r i h.
    let k = rw (c.in-Call.is, c.in-Place.is) at h.1.1 in
    c.get_place.ensures.keeps r i (k.0, (k.1.0, (h.0, (h.1.0, (k.1.1.0, (k.0, tt))))))

pub returns-in-Name-to-clause-keeps : goal.returns-in-Name-to-clause-keeps
returns-in-Name-to-clause-keeps c = λ r i h. c.type_error-in-Name-to.ensures.keeps AValue r i tt

pub returns-in-Place-to-clause-keeps : goal.returns-in-Place-to-clause-keeps
returns-in-Place-to-clause-keeps c = λ r i h.
    let k = rw (c.in-Delete.is, c.in-Place-to.is) at h.1.1 in
    c.delete_place.ensures.keeps r i (k.0, (k.1.0, tt))
