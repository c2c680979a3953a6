use Rattle.mb_call.proofs.Objects.{alone-held, open-held}
use Rattle.mb_call.proofs.writing.receiver_has.Goals as goal

pub returns-in-None-clause-leaves : goal.returns-in-None-clause-leaves
returns-in-None-clause-leaves c = λ d a.
    c.performs.ensures.leaves d
    (a.holds.1.1.0, (a.holds.0, (rw c.open.ensures (open-held d c.args.home c.args.x a.holds.1.0), tt)))

pub returns-in-Datum-default-true-default-default-clause-leaves :
    goal.returns-in-Datum-default-true-default-default-clause-leaves
returns-in-Datum-default-true-default-default-clause-leaves c = λ d a.
    c.performs-in-Datum-default-true-default-default.ensures.leaves d
    (a.holds.1.1.0, (a.holds.0, (rw c.value_alone.ensures (alone-held d c.args.home c.args.x a.holds.1.0), tt)))

pub returns-in-Datum-clause-sure : goal.returns-in-Datum-clause-sure
returns-in-Datum-clause-sure c = λ d a.
    rw (c.in-Some.is, c.in-Datum.is, c.in-Datum.writable-test) (c.yes_or_no.ensures.sure c.args.home d)

pub returns-in-Datum-clause-leaves : goal.returns-in-Datum-clause-leaves
returns-in-Datum-clause-leaves c = λ d a. c.yes_or_no.ensures.leaves c.args.home d

pub returns-in-Accessor-clause-sure : goal.returns-in-Accessor-clause-sure
returns-in-Accessor-clause-sure c = λ d a.
    rw (c.in-Some.is, c.in-Accessor.is) (c.yes_or_no-in-Accessor.ensures.sure c.args.home d)

pub returns-in-Accessor-clause-leaves : goal.returns-in-Accessor-clause-leaves
returns-in-Accessor-clause-leaves c = λ d a. c.yes_or_no-in-Accessor.ensures.leaves c.args.home d
