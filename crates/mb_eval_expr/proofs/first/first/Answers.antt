use Rattle.mb_frames.specs.Kinds.{is_new_form}
use Rattle.mb_frames.specs.declared.expressions.After.TheVariants as after
use Rattle.mb_base.specs.declared.value.Value.TheVariants as v
use Rattle.mb_frames.specs.declared.expressions.ExprFrame.TheVariants as e
use Rattle.std.proofs.Common.{refl, of_z, rules, to_z, w64, ◌≡◌}
use Rattle.mb_eval_expr.proofs.Keeping.{plain-held, waits-node}
use Rattle.mb_frames.proofs.Keeping.{expression-held, node-held}
use Rattle.mb_frames.proofs.HeldLess.{text-held}
use Rattle.mb_eval_expr.proofs.first.first.Goals as goal

pub returns-in-This-clause-row : goal.returns-in-This-clause-row
returns-in-This-clause-row c = λ home d a t q. rw c.in-This.is (c.value.ensures.row home d a.1)

pub returns-in-This-clause-leaves : goal.returns-in-This-clause-leaves
returns-in-This-clause-leaves c = λ home d t p q r i h. c.value.ensures.leaves home d r i (h.1.0, tt)

pub returns-in-Text-clause-row : goal.returns-in-Text-clause-row
returns-in-Text-clause-row c = λ home d a t q.
    rw c.in-Text.is (c.value-in-Text.ensures.row home d (rw c.in-Text.is at t))

pub returns-in-Text-clause-leaves : goal.returns-in-Text-clause-leaves
returns-in-Text-clause-leaves c = λ home d t p q r i h.
    c.value-in-Text.ensures.leaves home d r i (plain-held d home (v.Text c.in-Text.text) tt (rw c.in-Text.is at t), tt)

pub returns-in-Number-clause-row : goal.returns-in-Number-clause-row
returns-in-Number-clause-row c = λ home d a t q.
    let z = c.in-Number.whole in
    let s : to_z w64 (of_z w64 z) ≡ z = search rules in
    rw c.in-Number.is (rw s at (c.value-in-Number.ensures.row home d tt))

pub returns-in-Number-clause-leaves : goal.returns-in-Number-clause-leaves
returns-in-Number-clause-leaves c = λ home d t p q r i h.
    let z = c.in-Number.whole in
    let s : to_z w64 (of_z w64 z) ≡ z = search rules in
    c.value-in-Number.ensures.leaves home d r i
    (rw s (plain-held d home (v.Whole z) (rw c.in-Number.is at p) tt), tt)

pub returns-in-Literal-clause-row : goal.returns-in-Literal-clause-row
returns-in-Literal-clause-row c = λ home d a t q.
    rw c.in-Literal.is
    (rw (c.literal.ensures.value d) at (c.value-in-Literal.ensures.row home d (c.literal.ensures.within d)))

pub returns-in-Literal-clause-leaves : goal.returns-in-Literal-clause-leaves
returns-in-Literal-clause-leaves c = λ home d t p q r i h.
    c.value-in-Literal.ensures.leaves home d r i
    (plain-held d home c.literal.result c.literal.ensures.plain (c.literal.ensures.within d), tt)

pub returns-in-Group-clause-row : goal.returns-in-Group-clause-row
returns-in-Group-clause-row c = λ home d a t q. rw c.in-Group.is (c.evaluates.ensures.row home d a)

pub returns-in-Group-clause-leaves : goal.returns-in-Group-clause-leaves
returns-in-Group-clause-leaves c = λ home d t p q r i h.
    c.evaluates.ensures.leaves home d r i (expression-held d home c.in-Group.inner (rw c.in-Group.is at p), h)

pub returns-in-Cond-clause-leaves : goal.returns-in-Cond-clause-leaves
returns-in-Cond-clause-leaves c = λ home d t p q r i h.
    let k = rw c.in-Cond.is at p in
    rw c.waits.ensures (waits-node d home (e.Cond c.args.at c.in-Cond.then c.in-Cond.otherwise) c.in-Cond.test
    c.args.at refl
    (h.0, (h.1.0, (expression-held d home c.in-Cond.then k.1, (expression-held d home c.in-Cond.otherwise k.2, tt)))) h
    (expression-held d home c.in-Cond.test k.0))

pub returns-in-Or-clause-leaves : goal.returns-in-Or-clause-leaves
returns-in-Or-clause-leaves c = λ home d t p q r i h.
    let k = rw c.in-Or.is at p in
    rw c.waits-in-Or.ensures (waits-node d home (e.Or c.args.at c.in-Or.right) c.in-Or.left c.args.at refl
    (h.0, (h.1.0, (expression-held d home c.in-Or.right k.1, tt))) h (expression-held d home c.in-Or.left k.0))

pub returns-in-And-clause-leaves : goal.returns-in-And-clause-leaves
returns-in-And-clause-leaves c = λ home d t p q r i h.
    let k = rw c.in-And.is at p in
    rw c.waits-in-And.ensures (waits-node d home (e.And c.args.at c.in-And.right) c.in-And.left c.args.at refl
    (h.0, (h.1.0, (expression-held d home c.in-And.right k.1, tt))) h (expression-held d home c.in-And.left k.0))

pub returns-in-Binary-clause-leaves : goal.returns-in-Binary-clause-leaves
returns-in-Binary-clause-leaves c = λ home d t p q r i h.
    let k = rw c.in-Binary.is at p in
    rw c.waits-in-Binary.ensures (waits-node d home (e.Left c.args.at c.in-Binary.sign c.in-Binary.right)
    c.in-Binary.left c.args.at refl
    (h.0, (h.1.0, (expression-held d home c.in-Binary.right k.1, tt))) h (expression-held d home c.in-Binary.left k.0))

pub returns-in-Member-clause-leaves : goal.returns-in-Member-clause-leaves
returns-in-Member-clause-leaves c = λ home d t p q r i h.
    rw c.waits-in-Member.ensures (waits-node d home (e.MemberBase c.args.at c.in-Member.name after.Get)
    c.in-Member.base c.args.at refl
    (h.0, (h.1.0, (text-held d home c.in-Member.name (rw c.in-Member.is at t), tt))) h
    (expression-held d home c.in-Member.base (rw c.in-Member.is at p)))

pub returns-in-Index-clause-leaves : goal.returns-in-Index-clause-leaves
returns-in-Index-clause-leaves c = λ home d t p q r i h.
    let k = rw c.in-Index.is at p in
    rw c.waits-in-Index.ensures (waits-node d home (e.IndexBase c.args.at c.in-Index.key after.Get) c.in-Index.base
    c.args.at refl
    (h.0, (h.1.0, (expression-held d home c.in-Index.key k.1, tt))) h (expression-held d home c.in-Index.base k.0))

pub returns-in-New-clause-leaves : goal.returns-in-New-clause-leaves
returns-in-New-clause-leaves c = λ home d t p q r i h.
    let k = rw c.in-New.is at p in
    let s = rw c.in-New.is at q in
    rw c.waits-in-New.ensures (waits-node d home (e.Constructor c.args.at c.args.node) c.in-New.callee c.args.at refl
    (h.0, (h.1.0, (node-held d home is_new_form c.args.node.0 (rw s refl), tt))) h
    (expression-held d home c.in-New.callee k.0))
