use Rattle.mb_frames.specs.declared.expressions.ExprFrame.TheVariants as e
use Rattle.mb_frames.specs.Sorts.{AValue}
use Rattle.mb_eval_expr.proofs.Keeping.{kept-left, waits-node}
use Rattle.std.proofs.Common.{refl}
use Rattle.mb_eval_expr.proofs.Targeting.{Part-index, Part-member, Part-other}
use Rattle.mb_eval_expr.proofs.targets.referred.Goals as goal

pub returns-in-Name-clause-row : goal.returns-in-Name-clause-row
returns-in-Name-clause-row c = λ f o q. rw (rw c.in-Name.is at q) (c.follow.ensures.row f)

pub returns-in-Member-clause-row : goal.returns-in-Member-clause-row
returns-in-Member-clause-row c = λ f o q.
    rw (rw c.in-Member.is at q) (Part-member c.args.home c.args.w.now c.args.at 0 c.args.after
    c.requires.acts.runs.takes_part f
    c.in-Member.base c.in-Member.name c.requires.at (rw c.in-Member.is at c.requires.target) c.requires.after)

pub returns-in-Index-clause-row : goal.returns-in-Index-clause-row
returns-in-Index-clause-row c = λ f o q.
    rw (rw c.in-Index.is at q) (Part-index c.args.home c.args.w.now c.args.at 0 c.args.after
    c.requires.acts.runs.takes_part f
    c.in-Index.base c.in-Index.key c.requires.at c.requires.after)

pub returns-in-Other-clause-row : goal.returns-in-Other-clause-row
returns-in-Other-clause-row c = λ f o q.
    Part-other c.args.home c.args.w.now c.args.at 0 c.args.after c.requires.acts.runs.takes_part
    c.type_error.result c.type_error.new.w f o (rw c.in-Other.is at q) (c.type_error.ensures.part f)

pub returns-in-Name-clause-keeps : goal.returns-in-Name-clause-keeps
returns-in-Name-clause-keeps c = λ r i h. c.follow.ensures.keeps r i (h.0, (h.1.0, rw c.in-Name.is at h.1.1))

pub returns-in-Member-clause-keeps : goal.returns-in-Member-clause-keeps
returns-in-Member-clause-keeps c = λ r i h.
    let d = c.args.w.now in
    let k = rw c.in-Member.is at h.1.1 in
    kept-left c.args.home d r
    (waits-node d c.args.home (e.MemberBase c.args.at c.in-Member.name c.args.after) c.in-Member.base c.args.at refl
    (h.0, (h.1.0, k.1)) (h.0, (h.1.0, tt)) k.0)

pub returns-in-Index-clause-keeps : goal.returns-in-Index-clause-keeps
returns-in-Index-clause-keeps c = λ r i h.
    let d = c.args.w.now in
    let k = rw c.in-Index.is at h.1.1 in
    kept-left c.args.home d r
    (waits-node d c.args.home (e.IndexBase c.args.at c.in-Index.key c.args.after) c.in-Index.base c.args.at refl
    (h.0, (h.1.0, k.1)) (h.0, (h.1.0, tt)) k.0)

pub returns-in-Other-clause-keeps : goal.returns-in-Other-clause-keeps
returns-in-Other-clause-keeps c = λ r i h. c.type_error.ensures.keeps AValue r i tt
