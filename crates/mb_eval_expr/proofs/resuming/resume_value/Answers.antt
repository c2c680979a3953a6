use Rattle.std.proofs.Common.{true}
use Rattle.mb_frames.proofs.Steps.{Step-sure}
use Rattle.mb_frames.specs.Rest.Expressions.{expr_rest}
use Rattle.mb_frames.specs.Standing.{forms_at}
use Rattle.mb_frames.specs.declared.expressions.ExprFrame.TheVariants as e
use Rattle.mb_model.specs.Meaning.{finished}
use Rattle.mb_model.specs.Task.{Value as ValueAnswer}
use Rattle.mb_world.specs.Image.{Resolve, names_of}
use Rattle.mb_eval_expr.proofs.Resumed.{assigning-is}
use Rattle.mb_eval_expr.proofs.Keeping.{kept-left}
use Rattle.mb_eval_expr.proofs.resuming.resume_value.Goals as goal

pub returns-in-Got-clause-row : goal.returns-in-Got-clause-row
returns-in-Got-clause-row c = λ l.
    let d = c.args.w.now in
    let n = names_of d in
    let h = rw c.in-Got.is at c.requires.frame in
    rw c.in-Got.is (Step-sure c.args.home true d
    (expr_rest n (forms_at d c.args.home) c.args.home.0 e.Got (ValueAnswer (Resolve n c.args.x)) finished)
    c.value.result c.args.fuel.now l (c.value.ensures.row c.args.home d c.requires.value))

pub returns-in-MemberBase-clause-row : goal.returns-in-MemberBase-clause-row
returns-in-MemberBase-clause-row c = λ l. rw c.in-MemberBase.is (c.member_base_got.ensures.row c.args.fuel.now true l)

pub returns-in-IndexBase-clause-row : goal.returns-in-IndexBase-clause-row
returns-in-IndexBase-clause-row c = λ l.
    let d = c.args.w.now in
    let n = names_of d in
    let h = rw c.in-IndexBase.is at c.requires.frame in
    rw c.in-IndexBase.is (Step-sure c.args.home true d
    (expr_rest n (forms_at d c.args.home) c.args.home.0 (e.IndexBase c.in-IndexBase.at c.in-IndexBase.key
    c.in-IndexBase.after) (ValueAnswer (Resolve n c.args.x)) finished)
    c.index_base_got.result c.args.fuel.now l (c.index_base_got.ensures.row c.args.home d (h.0, h.1.0) h.1.1.1
    c.requires.value))

pub returns-in-IndexKey-clause-row : goal.returns-in-IndexKey-clause-row
returns-in-IndexKey-clause-row c = λ l. rw c.in-IndexKey.is (c.index_key_got.ensures.row c.args.fuel.now true l)

pub returns-in-Or-clause-row : goal.returns-in-Or-clause-row
returns-in-Or-clause-row c = λ l.
    let d = c.args.w.now in
    let n = names_of d in
    let h = rw c.in-Or.is at c.requires.frame in
    rw c.in-Or.is (Step-sure c.args.home true d
    (expr_rest n (forms_at d c.args.home) c.args.home.0 (e.Or c.in-Or.at c.in-Or.right)
    (ValueAnswer (Resolve n c.args.x)) finished)
    c.or_got.result c.args.fuel.now l (c.or_got.ensures.row))

pub returns-in-And-clause-row : goal.returns-in-And-clause-row
returns-in-And-clause-row c = λ l.
    let d = c.args.w.now in
    let n = names_of d in
    let h = rw c.in-And.is at c.requires.frame in
    rw c.in-And.is (Step-sure c.args.home true d
    (expr_rest n (forms_at d c.args.home) c.args.home.0 (e.And c.in-And.at c.in-And.right)
    (ValueAnswer (Resolve n c.args.x)) finished)
    c.and_got.result c.args.fuel.now l (c.and_got.ensures.row))

pub returns-in-Cond-clause-row : goal.returns-in-Cond-clause-row
returns-in-Cond-clause-row c = λ l.
    let d = c.args.w.now in
    let n = names_of d in
    let h = rw c.in-Cond.is at c.requires.frame in
    rw c.in-Cond.is (Step-sure c.args.home true d
    (expr_rest n (forms_at d c.args.home) c.args.home.0 (e.Cond c.in-Cond.at c.in-Cond.main c.in-Cond.other)
    (ValueAnswer (Resolve n c.args.x)) finished)
    c.cond_got.result c.args.fuel.now l (c.cond_got.ensures.row))

pub returns-in-Seq-clause-row : goal.returns-in-Seq-clause-row
returns-in-Seq-clause-row c = λ l. rw c.in-Seq.is (c.seq_got.ensures.row c.args.fuel.now true l)

pub returns-in-Not-clause-row : goal.returns-in-Not-clause-row
returns-in-Not-clause-row c = λ l.
    let d = c.args.w.now in
    let n = names_of d in
    let h = rw c.in-Not.is at c.requires.frame in
    rw c.in-Not.is (Step-sure c.args.home true d
    (expr_rest n (forms_at d c.args.home) c.args.home.0 e.Not (ValueAnswer (Resolve n c.args.x)) finished)
    c.not_got.result c.args.fuel.now l (c.not_got.ensures.row))

pub returns-in-Negate-clause-row : goal.returns-in-Negate-clause-row
returns-in-Negate-clause-row c = λ l. rw c.in-Negate.is (c.negated.ensures.row c.args.fuel.now true l)

pub returns-in-Typeof-clause-row : goal.returns-in-Typeof-clause-row
returns-in-Typeof-clause-row c = λ l. rw c.in-Typeof.is (c.typeof_value.ensures.row c.args.fuel.now true l)

pub returns-in-Left-clause-row : goal.returns-in-Left-clause-row
returns-in-Left-clause-row c = λ l.
    let d = c.args.w.now in
    let n = names_of d in
    let h = rw c.in-Left.is at c.requires.frame in
    rw c.in-Left.is (Step-sure c.args.home true d
    (expr_rest n (forms_at d c.args.home) c.args.home.0 (e.Left c.in-Left.at c.in-Left.sign c.in-Left.right)
    (ValueAnswer (Resolve n c.args.x)) finished)
    c.left_got.result c.args.fuel.now l (c.left_got.ensures.row c.args.home d (h.0, h.1.0) c.requires.value))

pub returns-in-Right-clause-row : goal.returns-in-Right-clause-row
returns-in-Right-clause-row c = λ l. rw c.in-Right.is (c.right_got.ensures.row true l)

pub returns-in-InstancePrototype-clause-row : goal.returns-in-InstancePrototype-clause-row
returns-in-InstancePrototype-clause-row c = λ l. rw c.in-InstancePrototype.is
    (c.instance_prototype.ensures.row c.args.fuel.now true l)

pub returns-in-Chain-clause-row : goal.returns-in-Chain-clause-row
returns-in-Chain-clause-row c = λ l.
    let d = c.args.w.now in
    let h = rw c.in-Chain.is at c.requires.frame in
    let k = rw c.in-Chain.is at c.requires.takes in
    rw c.in-Chain.is (c.chain_got.ensures.row c.args.home d c.args.fuel.now l h.0 c.requires.value k.1)

pub resume_assigned-requires-clause-ours : goal.resume_assigned-requires-clause-ours
resume_assigned-requires-clause-ours c =
    assigning-is c.args.frame c.requires.ours c.in_default.not-Got c.in_default.not-MemberBase
    c.in_default.not-IndexBase
    c.in_default.not-IndexKey c.in_default.not-Or c.in_default.not-And c.in_default.not-Cond c.in_default.not-Seq
    c.in_default.not-Not
    c.in_default.not-Negate c.in_default.not-Typeof c.in_default.not-Left c.in_default.not-Right
    c.in_default.not-InstancePrototype
    c.in_default.not-Chain

pub returns-in-Got-clause-keeps : goal.returns-in-Got-clause-keeps
returns-in-Got-clause-keeps c = λ r i h.
    let g = rw c.in-Got.is at h in
    kept-left c.args.home c.args.w.now r (c.value.ensures.leaves c.args.home c.args.w.now r i (g.0, tt))

pub returns-in-MemberBase-clause-keeps : goal.returns-in-MemberBase-clause-keeps
returns-in-MemberBase-clause-keeps c = λ r i h.
    let g = rw c.in-MemberBase.is at h in
    c.member_base_got.ensures.keeps r i g

pub returns-in-IndexBase-clause-keeps : goal.returns-in-IndexBase-clause-keeps
returns-in-IndexBase-clause-keeps c = λ r i h.
    let g = rw c.in-IndexBase.is at h in
    kept-left c.args.home c.args.w.now r (c.index_base_got.ensures.leaves c.args.home c.args.w.now r i g)

pub returns-in-IndexKey-clause-keeps : goal.returns-in-IndexKey-clause-keeps
returns-in-IndexKey-clause-keeps c = λ r i h.
    let g = rw c.in-IndexKey.is at h in
    c.index_key_got.ensures.keeps r i g

pub returns-in-Or-clause-keeps : goal.returns-in-Or-clause-keeps
returns-in-Or-clause-keeps c = λ r i h.
    let g = rw c.in-Or.is at h in
    kept-left c.args.home c.args.w.now r (c.or_got.ensures.leaves r i g)

pub returns-in-And-clause-keeps : goal.returns-in-And-clause-keeps
returns-in-And-clause-keeps c = λ r i h.
    let g = rw c.in-And.is at h in
    kept-left c.args.home c.args.w.now r (c.and_got.ensures.leaves r i g)

pub returns-in-Cond-clause-keeps : goal.returns-in-Cond-clause-keeps
returns-in-Cond-clause-keeps c = λ r i h.
    let g = rw c.in-Cond.is at h in
    kept-left c.args.home c.args.w.now r (c.cond_got.ensures.leaves r i g)

pub returns-in-Seq-clause-keeps : goal.returns-in-Seq-clause-keeps
returns-in-Seq-clause-keeps c = λ r i h.
    let g = rw c.in-Seq.is at h in
    c.seq_got.ensures.keeps r i g

pub returns-in-Not-clause-keeps : goal.returns-in-Not-clause-keeps
returns-in-Not-clause-keeps c = λ r i h.
    kept-left c.args.home c.args.w.now r (c.not_got.ensures.leaves r i tt)

pub returns-in-Negate-clause-keeps : goal.returns-in-Negate-clause-keeps
returns-in-Negate-clause-keeps c = λ r i h.
    c.negated.ensures.keeps r i (h.0, tt)

pub returns-in-Typeof-clause-keeps : goal.returns-in-Typeof-clause-keeps
returns-in-Typeof-clause-keeps c = λ r i h.
    c.typeof_value.ensures.keeps r i tt

pub returns-in-Left-clause-keeps : goal.returns-in-Left-clause-keeps
returns-in-Left-clause-keeps c = λ r i h.
    let g = rw c.in-Left.is at h in
    kept-left c.args.home c.args.w.now r (c.left_got.ensures.leaves c.args.home c.args.w.now r i g)

pub returns-in-Right-clause-keeps : goal.returns-in-Right-clause-keeps
returns-in-Right-clause-keeps c = λ r i h.
    let g = rw c.in-Right.is at h in
    c.right_got.ensures.keeps r i g

pub returns-in-InstancePrototype-clause-keeps : goal.returns-in-InstancePrototype-clause-keeps
returns-in-InstancePrototype-clause-keeps c = λ r i h.
    let g = rw c.in-InstancePrototype.is at h in
    c.instance_prototype.ensures.keeps r i g

pub returns-in-Chain-clause-keeps : goal.returns-in-Chain-clause-keeps
returns-in-Chain-clause-keeps c = λ r i h.
    let g = rw c.in-Chain.is at h in
    kept-left c.args.home c.args.w.now r (c.chain_got.ensures.leaves c.args.home c.args.w.now r i g)
