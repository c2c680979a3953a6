use Rattle.std.proofs.Common.{refl}
use Rattle.mb_call.proofs.EntryRows.{IsEntry, Step-entering, leaves-entering}
use Rattle.mb_call.proofs.entries.entered.Goals as goal
use Rattle.mb_frames.specs.declared.frame.Entering.{Entering}

pub returns-clause-step : goal.returns-clause-step
returns-clause-step c = λ home f l a u.
    let d = c.args.w.now in
    let e = c.in-Perform in
    let y : Entering = record {
      began = c.in_ok-entries_made-in-Perform.field-0;
      object = e.object;
      op = c.op_of.result;
      key = c.key_of.result;
      given = c.given_of.result;
    } in
    let i : IsEntry d e.method e.object y = record {
      began = c.in_ok-entries_made-in-Perform.ensures;
      object_is = refl;
      op = c.op_of.ensures;
      key = c.key_of.ensures;
      given = c.given_of.ensures;
    } in
    rw e.is
    (Step-entering d home e.method e.object e.viewer y i (rw e.is at a.holds) e.enters (rw e.is at u) f l)

pub returns-clause-leaves : goal.returns-clause-leaves
returns-clause-leaves c = λ home a u.
    let d = c.args.w.now in
    let e = c.in-Perform in
    let y : Entering = record {
      began = c.in_ok-entries_made-in-Perform.field-0;
      object = e.object;
      op = c.op_of.result;
      key = c.key_of.result;
      given = c.given_of.result;
    } in
    let i : IsEntry d e.method e.object y = record {
      began = c.in_ok-entries_made-in-Perform.ensures;
      object_is = refl;
      op = c.op_of.ensures;
      key = c.key_of.ensures;
      given = c.given_of.ensures;
    } in
    rw e.is
    (leaves-entering d home e.method e.object e.viewer y i (rw e.is at a.holds) e.enters (rw e.is at u))
