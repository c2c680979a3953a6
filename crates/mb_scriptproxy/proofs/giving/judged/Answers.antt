use Rattle.std.proofs.Common.{Ok}
use Rattle.mb_frames.proofs.Keeping.{keeps-same}
use Rattle.mb_frames.proofs.Leaving.{holds-in}
use Rattle.mb_frames.proofs.Passed.{Part-sure}
use Rattle.mb_frames.specs.Holding.{answer_held}
use Rattle.mb_scriptproxy.proofs.giving.judged.Goals as goal

pub returns-in-Pass-clause-part : goal.returns-in-Pass-clause-part
returns-in-Pass-clause-part c = λ f.
    let d = c.args.w.now in
    rw c.in-Pass.is
    (Part-sure c.args.home d f _ c.gives.result
    (c.gives.ensures.sure c.args.home d (holds-in d c.args.home (answer_held c.args.answer) c.requires.acts.holds)))

pub returns-in-Pass-clause-keeps : goal.returns-in-Pass-clause-keeps
returns-in-Pass-clause-keeps c = λ wanted s.
    let d = c.args.w.now in
    keeps-same c.args.home wanted (Ok c.gives.result) d c.requires.acts.ready
    (c.gives.ensures.leaves c.args.home d wanted (s c.in-Pass.is) c.requires.acts.holds)

pub returns-in-Broken-clause-part : goal.returns-in-Broken-clause-part
returns-in-Broken-clause-part c = λ f. rw c.in-Broken.is (c.type_error.ensures.part f)

pub returns-in-Broken-clause-keeps : goal.returns-in-Broken-clause-keeps
returns-in-Broken-clause-keeps c = λ wanted s. c.type_error.ensures.keeps wanted
