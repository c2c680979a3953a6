use Rattle.std.proofs.Common.{Ok}
use Rattle.mb_frames.proofs.Keeping.{keeps-same, leaves-throw}
use Rattle.mb_frames.proofs.Passed.{Part-sure}
use Rattle.mb_frames.proofs.Steps.{Sure-throw}
use Rattle.mb_frames.specs.Sorts.{reflect_gives}
use Rattle.mb_frames.specs.declared.frame.Move.TheVariants as move
use Rattle.mb_frames.specs.declared.task.Outcome.TheVariants as o
use Rattle.mb_model.specs.Meaning.{finished}
use Rattle.mb_model.specs.Writing.{throw}
use Rattle.mb_reflect.proofs.Awaited.{gets-flag, gets-keys, gets-property, gets-value, no-jump, no-other-answer}
use Rattle.mb_reflect.proofs.resuming.resume.Goals as goal
use Rattle.mb_world.specs.Image.{Resolve, names_of}

pub value_got-requires : goal.value_got-requires
value_got-requires c =
    let a = c.requires.acts in
    let w = rw (c.in-Normal.is, c.in-Value.is) at c.requires.sort in
    let h = rw (c.in-Normal.is, c.in-Value.is) at c.requires.outcome in
    record {
      acts = record { ready = a.ready; side = a.side; holds = (h.0, a.holds) };
      waits = gets-value c.args.frame w.sort w.fit c.in-Value.x w.is;
    }

pub returns-in-Value-clause-part : goal.returns-in-Value-clause-part
returns-in-Value-clause-part c = rw (c.in-Normal.is, c.in-Value.is) (c.value_got.ensures.part c.args.fuel.now)

pub flag_got-requires : goal.flag_got-requires
flag_got-requires c =
    let w = rw (c.in-Normal.is, c.in-Flag.is) at c.requires.sort in
    record { acts = c.requires.acts; waits = gets-flag c.args.frame w.sort w.fit c.in-Flag.b w.is }

pub returns-in-Flag-clause-part : goal.returns-in-Flag-clause-part
returns-in-Flag-clause-part c = rw (c.in-Normal.is, c.in-Flag.is) c.flag_got.ensures.part

pub property_got-requires : goal.property_got-requires
property_got-requires c =
    let a = c.requires.acts in
    let w = rw (c.in-Normal.is, c.in-Prop.is) at c.requires.sort in
    let h = rw (c.in-Normal.is, c.in-Prop.is) at c.requires.outcome in
    record {
      acts = record { ready = a.ready; side = a.side; holds = (h.0, a.holds) };
      waits = gets-property c.args.frame w.sort w.fit c.in-Prop.found w.is;
    }

pub returns-in-Prop-clause-part : goal.returns-in-Prop-clause-part
returns-in-Prop-clause-part c = rw (c.in-Normal.is, c.in-Prop.is) c.property_got.ensures.part

pub keys_got-requires : goal.keys_got-requires
keys_got-requires c =
    let a = c.requires.acts in
    let w = rw (c.in-Normal.is, c.in-Keys.is) at c.requires.sort in
    let h = rw (c.in-Normal.is, c.in-Keys.is) at c.requires.outcome in
    record {
      acts = record { ready = a.ready; side = a.side; holds = (h.0, a.holds) };
      waits = gets-keys c.args.frame w.sort w.fit c.in-Keys.keys w.is;
    }

pub returns-in-Keys-clause-part : goal.returns-in-Keys-clause-part
returns-in-Keys-clause-part c = rw (c.in-Normal.is, c.in-Keys.is) c.keys_got.ensures.part

pub unreachable-requires : goal.unreachable-requires
unreachable-requires c =
    let w = rw c.in-Normal.is at c.requires.sort in
    no-other-answer c.args.frame w.sort c.in-Normal.answer w.fit w.is c.in_default-answer.not-Value
    c.in_default-answer.not-Flag
    c.in_default-answer.not-Prop c.in_default-answer.not-Keys

pub returns-in-Throw-clause-part : goal.returns-in-Throw-clause-part
returns-in-Throw-clause-part c =
    let d = c.args.w.now in
    let home = c.args.home in
    rw c.in-Throw.is
    (Part-sure home d c.args.fuel.now (throw (Resolve (names_of d) c.in-Throw.x) finished)
    (move.Done (o.Throw c.in-Throw.x))
    (Sure-throw home d c.in-Throw.x (rw c.in-Throw.is at c.requires.outcome).0.within))

pub returns-in-Throw-clause-keeps : goal.returns-in-Throw-clause-keeps
returns-in-Throw-clause-keeps c =
    let d = c.args.w.now in
    keeps-same c.args.home (reflect_gives c.args.frame) (Ok (move.Done (o.Throw c.in-Throw.x))) d c.requires.acts.ready
    (leaves-throw d c.args.home (reflect_gives c.args.frame) c.in-Throw.x
    (rw c.in-Throw.is at c.requires.outcome).0)

pub unreachable-requires-in_default : goal.unreachable-requires-in_default
unreachable-requires-in_default c =
    no-jump c.args.frame c.requires.sort.sort c.args.outcome c.requires.sort.fit c.requires.sort.is
    c.in_default.not-Normal c.in_default.not-Throw
