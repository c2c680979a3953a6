use Rattle.std.proofs.Common.{Ok}
use Rattle.mb_arrayapi.proofs.Resumes.{no-jump}
use Rattle.mb_arrayapi.proofs.resuming.resume.Goals as goal
use Rattle.mb_frames.proofs.Keeping.{keeps-same, leaves-throw}
use Rattle.mb_frames.proofs.Passed.{Part-sure}
use Rattle.mb_frames.proofs.Steps.{Sure-throw}
use Rattle.mb_frames.specs.Sorts.{array_gives}
use Rattle.mb_frames.specs.declared.frame.Move.TheVariants as move
use Rattle.mb_frames.specs.declared.task.Outcome.TheVariants as o
use Rattle.mb_model.specs.Meaning.{finished}
use Rattle.mb_model.specs.Writing.{throw}
use Rattle.mb_world.specs.Image.{Resolve, names_of}

pub answered-requires-clause-answer : goal.answered-requires-clause-answer
answered-requires-clause-answer c = rw c.in-Normal.is at c.requires.outcome

pub returns-in-Normal-clause-part : goal.returns-in-Normal-clause-part
returns-in-Normal-clause-part c = rw c.in-Normal.is c.answered.ensures.part

pub returns-in-Throw-clause-part : goal.returns-in-Throw-clause-part
returns-in-Throw-clause-part c =
    let d = c.args.w.now in
    let home = c.args.home in
    rw c.in-Throw.is
    (Part-sure home d c.args.fuel.now (throw (Resolve (names_of d) c.in-Throw.x) finished)
    (move.Done (o.Throw c.in-Throw.x))
    (Sure-throw home d c.in-Throw.x (rw c.in-Throw.is at c.requires.outcome).0.within))

pub returns-in-Throw-clause-keeps : goal.returns-in-Throw-clause-keeps
returns-in-Throw-clause-keeps c =
    let d = c.args.w.now in
    keeps-same c.args.home (array_gives c.args.frame) (Ok (move.Done (o.Throw c.in-Throw.x))) d c.requires.acts.ready
    (leaves-throw d c.args.home (array_gives c.args.frame) c.in-Throw.x (rw c.in-Throw.is at c.requires.outcome).0)

pub unreachable-requires : goal.unreachable-requires
unreachable-requires c =
    no-jump c.args.frame c.args.outcome c.requires.sort c.in_default.not-Normal c.in_default.not-Throw
