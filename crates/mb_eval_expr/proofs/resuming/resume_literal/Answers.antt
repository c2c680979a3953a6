use Rattle.mb_eval_expr.proofs.Resumed.{no-literal}
use Rattle.std.proofs.Common.{true}
use Rattle.mb_eval_expr.proofs.resuming.resume_literal.Goals as goal

pub returns-in-Element-clause-row : goal.returns-in-Element-clause-row
returns-in-Element-clause-row c = λ l. rw c.in-Element.is (c.element_got.ensures.row c.args.fuel.now true l)

pub returns-in-PropKey-clause-row : goal.returns-in-PropKey-clause-row
returns-in-PropKey-clause-row c = λ l. rw c.in-PropKey.is (c.prop_key_got.ensures.row true l)

pub returns-in-PropValue-clause-row : goal.returns-in-PropValue-clause-row
returns-in-PropValue-clause-row c = λ l. rw c.in-PropValue.is (c.prop_value_got.ensures.row true l)

pub unreachable-requires : goal.unreachable-requires
unreachable-requires c =
    no-literal c.args.frame c.requires.ours c.in_default.not-Element c.in_default.not-PropKey c.in_default.not-PropValue

pub returns-in-Element-clause-keeps : goal.returns-in-Element-clause-keeps
returns-in-Element-clause-keeps c = λ r i h.
    let g = rw c.in-Element.is at h in
    c.element_got.ensures.keeps r i g

pub returns-in-PropKey-clause-keeps : goal.returns-in-PropKey-clause-keeps
returns-in-PropKey-clause-keeps c = λ r i h.
    let g = rw c.in-PropKey.is at h in
    c.prop_key_got.ensures.keeps r i g

pub returns-in-PropValue-clause-keeps : goal.returns-in-PropValue-clause-keeps
returns-in-PropValue-clause-keeps c = λ r i h.
    let g = rw c.in-PropValue.is at h in
    c.prop_value_got.ensures.keeps r i g
