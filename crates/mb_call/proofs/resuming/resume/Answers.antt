use Rattle.std.proofs.Common.{Ok, ap}
use Rattle.mb_call.proofs.Resumed.{answered-else, no-jump, rest-throws}
use Rattle.mb_call.proofs.resuming.resume.Goals as goal
use Rattle.mb_frames.proofs.Keeping.{keeps-same, leaves-throw}
use Rattle.mb_frames.proofs.Passed.{Part-sure}
use Rattle.mb_frames.proofs.Steps.{Sure-by, Sure-throw}
use Rattle.mb_frames.specs.Rest.Calls.{call_rest}
use Rattle.mb_frames.specs.Sorts.{AValue, call_gives}
use Rattle.mb_frames.specs.Standing.{forms_at}
use Rattle.mb_frames.specs.declared.frame.Move.TheVariants as move
use Rattle.mb_frames.specs.declared.task.Outcome.TheVariants as o
use Rattle.mb_model.specs.Meaning.{finished}
use Rattle.mb_model.specs.Task as model
use Rattle.mb_model.specs.Task.{Answer}
use Rattle.mb_model.specs.Writing.{Does, throw}
use Rattle.mb_world.specs.Image.{Image, Resolve, names_of}

pub body_next-requires-clause-acts : goal.body_next-requires-clause-acts
body_next-requires-clause-acts c = rw c.in-Statement.is at c.requires.acts

pub returns-in-Statement-clause-part : goal.returns-in-Statement-clause-part
returns-in-Statement-clause-part c = rw c.in-Statement.is (c.body_next.ensures.part c.args.fuel.now)

pub returns-in-Statement-clause-keeps : goal.returns-in-Statement-clause-keeps
returns-in-Statement-clause-keeps c =
    rw c.in-Statement.is
    (keeps-same c.args.home AValue c.body_next.result c.args.w.now c.requires.acts.ready c.body_next.ensures.leaves)

pub answered-requires-clause-waits : goal.answered-requires-clause-waits
answered-requires-clause-waits c = answered-else c.args.frame c.in_default.not-Statement

pub answered-requires-clause-answer : goal.answered-requires-clause-answer
answered-requires-clause-answer c = rw c.in-Normal.is at c.requires.outcome

pub returns-in-Normal-clause-part : goal.returns-in-Normal-clause-part
returns-in-Normal-clause-part c = rw c.in-Normal.is c.answered.ensures.part

pub returns-in-Throw-clause-part : goal.returns-in-Throw-clause-part
returns-in-Throw-clause-part c =
    let d = c.args.w.now in
    let n = names_of d in
    let home = c.args.home in
    let fs = forms_at d home in
    let y = Resolve n c.in-Throw.x in
    rw c.in-Throw.is
    (Part-sure home d c.args.fuel.now (call_rest n fs home.0 c.args.frame (model.Throw y) finished)
    (move.Done (o.Throw c.in-Throw.x))
    (Sure-by home d (call_rest n fs home.0 c.args.frame (model.Throw y) finished) (throw y finished)
    (move.Done (o.Throw c.in-Throw.x))
    (λ log. ap (λ (p : Does Answer). p finished (Image d log))
    (rest-throws n fs home.0 c.args.frame y (answered-else c.args.frame c.in_default.not-Statement)))
    (Sure-throw home d c.in-Throw.x (rw c.in-Throw.is at c.requires.outcome).0.within)))

pub returns-in-Throw-clause-keeps : goal.returns-in-Throw-clause-keeps
returns-in-Throw-clause-keeps c =
    let d = c.args.w.now in
    keeps-same c.args.home (call_gives c.args.frame) (Ok (move.Done (o.Throw c.in-Throw.x))) d c.requires.acts.ready
    (leaves-throw d c.args.home (call_gives c.args.frame) c.in-Throw.x (rw c.in-Throw.is at c.requires.outcome).0)

pub unreachable-requires : goal.unreachable-requires
unreachable-requires c =
    no-jump c.args.frame c.args.outcome (answered-else c.args.frame c.in_default.not-Statement) c.requires.sort
    c.in_default-outcome.not-Normal c.in_default-outcome.not-Throw
