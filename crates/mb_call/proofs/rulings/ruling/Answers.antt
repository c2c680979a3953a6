use Rattle.mb_call.proofs.rulings.ruling.Goals as goal

pub admits-requires : goal.admits-requires
admits-requires c =
    let r = c.requires in
    record { object = r.there; change = rw c.in-Some.is at r.within }

pub returns-in-Some : goal.returns-in-Some
returns-in-Some c = λ t e.
    let r = c.requires in
    rw c.in-Some.is (rw e at (c.admits.ensures.meant (rw c.in-Some.is at r.apart)))
