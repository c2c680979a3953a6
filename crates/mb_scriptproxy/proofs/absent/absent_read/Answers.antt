use Rattle.std.proofs.Common.{Ok}
use Rattle.mb_frames.proofs.HeldLess.{real-full}
use Rattle.mb_frames.proofs.Keeping.{keeps-same}
use Rattle.mb_frames.proofs.Leaving.{holds-in}
use Rattle.mb_frames.proofs.Passed.{Part-sure}
use Rattle.mb_frames.specs.Holding.{answer_held}
use Rattle.mb_frames.specs.Sorts.{absent_gives}
use Rattle.mb_scriptproxy.proofs.Absences.{none-passes}
use Rattle.mb_scriptproxy.proofs.absent.absent_read.Goals as goal
use Rattle.mb_world.specs.Image.{names_of}

pub returns-in-None-clause-part : goal.returns-in-None-clause-part
returns-in-None-clause-part c = λ f.
    let d = c.args.w.now in
    let home = c.args.home in
    rw (c.in-None.is, none-passes c.args.absent, ← c.absent_answer.ensures.answer (names_of d))
    (Part-sure home d f _ c.gives.result
    (c.gives.ensures.sure home d
    (holds-in d home (answer_held c.absent_answer.result) (c.absent_answer.ensures.held home d))))

pub returns-in-None-clause-keeps : goal.returns-in-None-clause-keeps
returns-in-None-clause-keeps c =
    let d = c.args.w.now in
    let home = c.args.home in
    let wanted = absent_gives c.args.absent in
    keeps-same home wanted (Ok c.gives.result) d c.requires.acts.ready
    (c.gives.ensures.leaves home d wanted c.absent_answer.ensures.sort (c.absent_answer.ensures.held home d))

pub absent_found-requires : goal.absent_found-requires
absent_found-requires c =
    let a = c.requires.acts in
    record {
      acts = record {
        ready = a.ready;
        side = a.side;
        holds = (a.holds.0, (real-full c.args.w.now c.args.home c.in-Some.found (rw c.in-Some.is at a.holds.1.0), tt));
      };
    }

pub returns-in-Some-clause-part : goal.returns-in-Some-clause-part
returns-in-Some-clause-part c = λ f. rw c.in-Some.is (c.absent_found.ensures.part f)
