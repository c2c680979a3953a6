use Rattle.mb_call.proofs.bodies.body_next.Goals as goal
use Rattle.mb_frames.proofs.HeldLess.{undefined-held}
use Rattle.mb_frames.proofs.Keeping.{leaves-throw}
use Rattle.mb_frames.proofs.Passed.{Part-sure}
use Rattle.mb_frames.proofs.Steps.{Sure-throw}
use Rattle.mb_frames.specs.Sorts.{AValue}

pub returns-in-Normal-clause-part : goal.returns-in-Normal-clause-part
returns-in-Normal-clause-part c = λ f. rw c.in-Normal.is (c.run_body.ensures.part f)

pub returns-in-Throw-clause-part : goal.returns-in-Throw-clause-part
returns-in-Throw-clause-part c = λ f.
    rw c.in-Throw.is
    (Part-sure c.args.home c.args.w.now f _ _
    (Sure-throw c.args.home c.args.w.now c.in-Throw.x (rw c.in-Throw.is at c.requires.outcome).0.within))

pub returns-in-Throw-clause-leaves : goal.returns-in-Throw-clause-leaves
returns-in-Throw-clause-leaves c =
    leaves-throw c.args.w.now c.args.home AValue c.in-Throw.x (rw c.in-Throw.is at c.requires.outcome).0

pub returns-in-Return-clause-part : goal.returns-in-Return-clause-part
returns-in-Return-clause-part c = λ f.
    rw c.in-Return.is
    (Part-sure c.args.home c.args.w.now f _ _
    (c.value.ensures.sure c.args.home c.args.w.now (rw c.in-Return.is at c.requires.outcome).0.within))

pub returns-in-Return-clause-leaves : goal.returns-in-Return-clause-leaves
returns-in-Return-clause-leaves c =
    c.value.ensures.leaves c.args.home c.args.w.now (rw c.in-Return.is at c.requires.outcome)

pub returns-in-Break-clause-part : goal.returns-in-Break-clause-part
returns-in-Break-clause-part c = λ f.
    rw c.in-Break.is
    (Part-sure c.args.home c.args.w.now f _ _ (c.value-in-Break.ensures.sure c.args.home c.args.w.now tt))

pub returns-in-Break-clause-leaves : goal.returns-in-Break-clause-leaves
returns-in-Break-clause-leaves c =
    c.value-in-Break.ensures.leaves c.args.home c.args.w.now (undefined-held c.args.w.now c.args.home, tt)

pub returns-in-Continue-clause-part : goal.returns-in-Continue-clause-part
returns-in-Continue-clause-part c = λ f.
    rw c.in-Continue.is
    (Part-sure c.args.home c.args.w.now f _ _ (c.value-in-Continue.ensures.sure c.args.home c.args.w.now tt))

pub returns-in-Continue-clause-leaves : goal.returns-in-Continue-clause-leaves
returns-in-Continue-clause-leaves c =
    c.value-in-Continue.ensures.leaves c.args.home c.args.w.now (undefined-held c.args.w.now c.args.home, tt)
