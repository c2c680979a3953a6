use Rattle.std.proofs.Common.{true}
use Rattle.mb_frames.proofs.Steps.{Step-sure}
use Rattle.mb_frames.specs.Rest.Expressions.{expr_rest}
use Rattle.mb_frames.specs.Standing.{forms_at}
use Rattle.mb_frames.specs.declared.expressions.ExprFrame.TheVariants as e
use Rattle.mb_model.specs.Meaning.{finished}
use Rattle.mb_model.specs.Task.{Value as ValueAnswer}
use Rattle.mb_world.specs.Image.{Resolve, names_of}
use Rattle.mb_eval_expr.proofs.Resumed.{literal-is}
use Rattle.mb_eval_expr.proofs.Keeping.{kept-left}
use Rattle.mb_eval_expr.proofs.resuming.resume_assigned.Goals as goal

pub returns-in-AssignValue-clause-row : goal.returns-in-AssignValue-clause-row
returns-in-AssignValue-clause-row c = λ l. rw c.in-AssignValue.is (c.put_and_give.ensures.row c.args.fuel.now true l)

pub returns-in-CompoundOld-clause-row : goal.returns-in-CompoundOld-clause-row
returns-in-CompoundOld-clause-row c = λ l.
    let d = c.args.w.now in
    let n = names_of d in
    let h = rw c.in-CompoundOld.is at c.requires.frame in
    rw c.in-CompoundOld.is (Step-sure c.args.home true d
    (expr_rest n (forms_at d c.args.home) c.args.home.0 (e.CompoundOld c.in-CompoundOld.at c.in-CompoundOld.sign
    c.in-CompoundOld.value c.in-CompoundOld.to) (ValueAnswer (Resolve n c.args.x)) finished)
    c.compound_old.result c.args.fuel.now l (c.compound_old.ensures.row c.args.home d (h.0, h.1.0) h.1.1.1.1
    c.requires.value))

pub returns-in-CompoundValue-clause-row : goal.returns-in-CompoundValue-clause-row
returns-in-CompoundValue-clause-row c = λ l. rw c.in-CompoundValue.is (c.compound_got.ensures.row true l)

pub returns-in-UpdateOld-clause-row : goal.returns-in-UpdateOld-clause-row
returns-in-UpdateOld-clause-row c = λ l. rw c.in-UpdateOld.is (c.update_old.ensures.row c.args.fuel.now true l)

pub returns-in-Callee-clause-row : goal.returns-in-Callee-clause-row
returns-in-Callee-clause-row c = λ l. rw c.in-Callee.is (c.callee_got.ensures.row c.args.fuel.now true l)

pub returns-in-Argument-clause-row : goal.returns-in-Argument-clause-row
returns-in-Argument-clause-row c = λ l. rw c.in-Argument.is (c.call_next.ensures.row c.args.fuel.now true l)

pub returns-in-Constructor-clause-row : goal.returns-in-Constructor-clause-row
returns-in-Constructor-clause-row c = λ l. rw c.in-Constructor.is (c.constructor_got.ensures.row c.args.fuel.now true l)

pub returns-in-NewArgument-clause-row : goal.returns-in-NewArgument-clause-row
returns-in-NewArgument-clause-row c = λ l. rw c.in-NewArgument.is (c.new_next.ensures.row c.args.fuel.now true l)

pub resume_literal-requires-clause-ours : goal.resume_literal-requires-clause-ours
resume_literal-requires-clause-ours c =
    literal-is c.args.frame c.requires.ours c.in_default.not-AssignValue c.in_default.not-CompoundOld
    c.in_default.not-CompoundValue
    c.in_default.not-UpdateOld c.in_default.not-Callee c.in_default.not-Argument c.in_default.not-Constructor
    c.in_default.not-NewArgument

pub returns-in-AssignValue-clause-keeps : goal.returns-in-AssignValue-clause-keeps
returns-in-AssignValue-clause-keeps c = λ r i h.
    let g = rw c.in-AssignValue.is at h in
    c.put_and_give.ensures.keeps r i (g.0, (g.0, g.1))

pub returns-in-CompoundOld-clause-keeps : goal.returns-in-CompoundOld-clause-keeps
returns-in-CompoundOld-clause-keeps c = λ r i h.
    let g = rw c.in-CompoundOld.is at h in
    kept-left c.args.home c.args.w.now r (c.compound_old.ensures.leaves c.args.home c.args.w.now r i g)

pub returns-in-CompoundValue-clause-keeps : goal.returns-in-CompoundValue-clause-keeps
returns-in-CompoundValue-clause-keeps c = λ r i h.
    let g = rw c.in-CompoundValue.is at h in
    c.compound_got.ensures.keeps r i g

pub returns-in-UpdateOld-clause-keeps : goal.returns-in-UpdateOld-clause-keeps
returns-in-UpdateOld-clause-keeps c = λ r i h.
    let g = rw c.in-UpdateOld.is at h in
    c.update_old.ensures.keeps r i g

pub returns-in-Callee-clause-keeps : goal.returns-in-Callee-clause-keeps
returns-in-Callee-clause-keeps c = λ r i h.
    let g = rw c.in-Callee.is at h in
    c.callee_got.ensures.keeps r i g

pub returns-in-Argument-clause-keeps : goal.returns-in-Argument-clause-keeps
returns-in-Argument-clause-keeps c = λ r i h.
    let g = rw c.in-Argument.is at h in
    c.call_next.ensures.keeps r i g

pub returns-in-Constructor-clause-keeps : goal.returns-in-Constructor-clause-keeps
returns-in-Constructor-clause-keeps c = λ r i h.
    let g = rw c.in-Constructor.is at h in
    c.constructor_got.ensures.keeps r i g

pub returns-in-NewArgument-clause-keeps : goal.returns-in-NewArgument-clause-keeps
returns-in-NewArgument-clause-keeps c = λ r i h.
    let g = rw c.in-NewArgument.is at h in
    c.new_next.ensures.keeps r i g
