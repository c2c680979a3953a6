use Rattle.std.proofs.Common.{false}
use Rattle.mb_call.proofs.Looking.{part-sure, set-refused}
use Rattle.mb_call.proofs.writing.set_found.Goals as goal
use Rattle.mb_model.specs.Objects.Methods.{ordinary_set, store}
use Rattle.mb_model.specs.Writing.{yes_or_no}
use Rattle.mb_world.specs.Image.{Resolve, full_in, key_in, names_of}
use Rattle.mb_world.specs.Ordinary.{written}
use Rattle.std.specs.Prelude.{Some}

pub returns-in-Datum-default-true-default-default-clause-part :
    goal.returns-in-Datum-default-true-default-default-clause-part
returns-in-Datum-default-true-default-default-clause-part c = λ f above.
    let d = c.args.w.now in
    let n = names_of d in
    let home = c.args.home in
    let a = c.requires.acts in
    rw (c.in-Datum-default-true-default-default.is, c.in-Datum-default-true-default-default.writable-test)
    (part-sure d home c.store.result
    (store home.0 (key_in n c.args.key) (Resolve n c.args.x) (Resolve n c.args.receiver))
    (c.store.ensures.sure d (record { ready = a.ready; side = a.side; holds = a.holds.1 })) f)

pub returns-in-Datum-clause-part : goal.returns-in-Datum-clause-part
returns-in-Datum-clause-part c = λ f above.
    rw (c.in-Datum.is, c.in-Datum.writable-test)
    (part-sure c.args.w.now c.args.home c.yes_or_no.result (yes_or_no false)
    (c.yes_or_no.ensures.sure c.args.home c.args.w.now) f)

pub returns-in-Datum-clause-leaves : goal.returns-in-Datum-clause-leaves
returns-in-Datum-clause-leaves c = c.yes_or_no.ensures.leaves c.args.home c.args.w.now

pub returns-in_default : goal.returns-in_default
returns-in_default c =
    let d = c.args.w.now in
    let n = names_of d in
    let home = c.args.home in
    record {
      part = λ f above.
          part-sure d home c.yes_or_no-in_default.result
          (ordinary_set home.0 (key_in n c.args.key) (Resolve n c.args.x) (Resolve n c.args.receiver)
          (written above (Some (full_in n c.args.found))))
          (rw c.in-Accessor.is
          (set-refused d home c.yes_or_no-in_default.result (key_in n c.args.key) (Resolve n c.args.x)
          (Resolve n c.args.receiver) c.in-Accessor.setter c.in_default.not-Object
          (c.yes_or_no-in_default.ensures.sure home d))) f;
      leaves = c.yes_or_no-in_default.ensures.leaves home d;
    }
