use Rattle.std.proofs.Common.{sym}
use Rattle.mb_engine.proofs.Tops.{last-ids, last-runs, owns-top}
use Rattle.mb_engine.proofs.owners.owner_of_top.Goals as goal

pub owner_of_frame-requires-clause-runs : goal.owner_of_frame-requires-clause-runs
owner_of_frame-requires-clause-runs c =
    last-runs c.args.w.now c.args.m.now c.in-Some.top.now (rw c.deref.ensures.value at (sym c.in-Some.ensures.value))
    c.requires

pub owner_of_frame-requires-clause-ids : goal.owner_of_frame-requires-clause-ids
owner_of_frame-requires-clause-ids c =
    last-ids c.args.w.now c.args.m.now c.in-Some.top.now (rw c.deref.ensures.value at (sym c.in-Some.ensures.value))
    c.requires

pub returns-in-Some : goal.returns-in-Some
returns-in-Some c =
    owns-top c.args.w.now c.owner_of_frame.result c.args.m.now.stack.items c.in-Some.top.now
    (rw c.deref.ensures.value at (sym c.in-Some.ensures.value)) c.owner_of_frame.ensures
