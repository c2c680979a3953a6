use Rattle.mb_arrayapi.proofs.finding.element_got.Goals as goal

pub stored-requires : goal.stored-requires
stored-requires c =
    let a = c.requires.acts in
    let h = rw c.in-Slice.is at a.holds in
    record { acts = record { ready = a.ready; side = a.side; holds = (h.1.1.0, a.holds) } }

pub returns-in-Call-clause-part : goal.returns-in-Call-clause-part
returns-in-Call-clause-part c = rw c.in-Call.is c.call_with.ensures.part

pub returns-in-Slice-clause-part : goal.returns-in-Slice-clause-part
returns-in-Slice-clause-part c = rw c.in-Slice.is (rw c.in-Slice.is at c.stored.ensures.part)
