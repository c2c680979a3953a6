use Rattle.std.proofs.Common.{Ok}
use Rattle.mb_frames.proofs.Keeping.{keeps-same, leaves-throw}
use Rattle.mb_frames.proofs.Passed.{Part-sure}
use Rattle.mb_frames.proofs.Steps.{Sure-throw}
use Rattle.mb_frames.specs.Sorts.{proxy_gives}
use Rattle.mb_frames.specs.declared.frame.Move.TheVariants as move
use Rattle.mb_frames.specs.declared.task.Outcome.TheVariants as o
use Rattle.mb_scriptproxy.proofs.Resumed.{no-jump, throw-side}
use Rattle.mb_scriptproxy.proofs.resuming.resume.Goals as goal

pub answered-requires-clause-answer : goal.answered-requires-clause-answer
answered-requires-clause-answer c = rw c.in-Normal.is at c.requires.outcome

pub answered-requires-clause-sort : goal.answered-requires-clause-sort
answered-requires-clause-sort c = rw c.in-Normal.is at c.requires.sort

pub returns-in-Normal-clause-part : goal.returns-in-Normal-clause-part
returns-in-Normal-clause-part c = λ f. rw c.in-Normal.is (c.answered.ensures.part f)

pub returns-in-Normal-clause-keeps : goal.returns-in-Normal-clause-keeps
returns-in-Normal-clause-keeps c = rw c.in-Normal.is c.answered.ensures.keeps

pub returns-in-Throw-clause-part : goal.returns-in-Throw-clause-part
returns-in-Throw-clause-part c = λ f.
    let d = c.args.w.now in
    rw (c.in-Throw.is, throw-side c.args.home c.args.frame c.in-Throw.x)
    (Part-sure c.args.home d f _ (move.Done (o.Throw c.in-Throw.x))
    (Sure-throw c.args.home d c.in-Throw.x (rw c.in-Throw.is at c.requires.outcome).0.within))

pub returns-in-Throw-clause-keeps : goal.returns-in-Throw-clause-keeps
returns-in-Throw-clause-keeps c =
    let d = c.args.w.now in
    rw (c.in-Throw.is, throw-side c.args.home c.args.frame c.in-Throw.x)
    (keeps-same c.args.home (proxy_gives c.args.frame) (Ok (move.Done (o.Throw c.in-Throw.x))) d c.requires.acts.ready
    (leaves-throw d c.args.home (proxy_gives c.args.frame) c.in-Throw.x
    (rw c.in-Throw.is at c.requires.outcome).0))

pub unreachable-requires : goal.unreachable-requires
unreachable-requires c =
    no-jump c.args.frame c.args.outcome c.requires.sort c.in_default.not-Normal c.in_default.not-Throw
