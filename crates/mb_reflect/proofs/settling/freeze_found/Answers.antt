use Rattle.mb_reflect.proofs.Settled.{done-freezing}
use Rattle.mb_reflect.proofs.settling.freeze_found.Goals as goal

pub returns-in-Some-clause-part : goal.returns-in-Some-clause-part
returns-in-Some-clause-part c = λ d a.
    rw (c.in-Some.is, c.waits.ensures, c.freezing.ensures)
    (done-freezing c.args.home d c.args.fuel.now c.args.object c.args.key c.args.keys c.args.next c.in-Some.full a.ready
    a.holds.0 a.holds.1.0 a.holds.1.1.0).part

pub returns-in-Some-clause-keeps : goal.returns-in-Some-clause-keeps
returns-in-Some-clause-keeps c = λ d a.
    rw (c.waits.ensures, c.freezing.ensures)
    (done-freezing c.args.home d 0 c.args.object c.args.key c.args.keys c.args.next c.in-Some.full a.ready
    a.holds.0 a.holds.1.0 a.holds.1.1.0).keeps
