use Rattle.mb_frames.specs.Sorts.{AValue}
use Rattle.mb_eval_expr.proofs.Keeping.{kept-left}
use Rattle.std.proofs.Common.{true}
use Rattle.mb_frames.proofs.Passed.{Part-sure}
use Rattle.mb_model.specs.Meaning.{finished}
use Rattle.mb_model.specs.Writing.{truth}
use Rattle.mb_eval_expr.proofs.operators.delete_done.Goals as goal

pub returns-then-done-clause-row : goal.returns-then-done-clause-row
returns-then-done-clause-row c = λ f.
    rw c.if-done.true (Part-sure c.args.home c.args.w.now f (truth true finished) c.truth_value.result
    (c.truth_value.ensures.row c.args.home c.args.w.now))

pub returns-else-done-clause-row : goal.returns-else-done-clause-row
returns-else-done-clause-row c = λ f. rw c.if-done.false (c.type_error.ensures.part f)

pub returns-then-done-clause-keeps : goal.returns-then-done-clause-keeps
returns-then-done-clause-keeps c = λ r i h.
    kept-left c.args.home c.args.w.now r (c.truth_value.ensures.leaves c.args.home c.args.w.now r i tt)

pub returns-else-done-clause-keeps : goal.returns-else-done-clause-keeps
returns-else-done-clause-keeps c = λ r i h. c.type_error.ensures.keeps AValue r i tt
