use Rattle.std.proofs.Common.{◌∷◌, []}
use Rattle.std.proofs.lemmas.Result.{err_from_is_err_and}
use Rattle.mb_arrayapi.proofs.Acting.{halts}
use Rattle.mb_arrayapi.proofs.pushing.push_set.Goals as goal
use Rattle.mb_frames.specs.Held.{HeldObject, HeldValues}
use Rattle.mb_frames.specs.Sorts.{AValue}

pub returns-then-not-done-clause-part : goal.returns-then-not-done-clause-part
returns-then-not-done-clause-part c = rw c.if-not-done.true (c.type_error.ensures.part c.args.fuel.now)

pub returns-then-not-done-clause-keeps : goal.returns-then-not-done-clause-keeps
returns-then-not-done-clause-keeps c = c.type_error.ensures.keeps AValue

pub returns-in_err-place-clause-keeps : goal.returns-in_err-place-clause-keeps
returns-in_err-place-clause-keeps c =
    let p = err_from_is_err_and c.from_residual.result c.from_residual.ensures.1 in
    rw p.1
    (halts c.args.w.now c.args.home (HeldObject c.args.object ∷ HeldValues c.args.arguments ∷ []) c.requires.acts
    AValue p.0)

pub returns-clause-part : goal.returns-clause-part
returns-clause-part c = rw c.if-not-done.false (rw c.in_ok-place.ensures at c.push_each.ensures.part)
