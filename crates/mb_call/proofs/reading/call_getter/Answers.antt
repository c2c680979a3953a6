use Rattle.mb_call.proofs.Looking.{calls-getter}
use Rattle.mb_call.proofs.Objects.{no-callable}
use Rattle.mb_call.proofs.reading.call_getter.Goals as goal
use Rattle.mb_frames.proofs.HeldLess.{undefined-held, value-object, values-none}
use Rattle.mb_world.specs.Image.{Resolve, names_of}

pub returns-in-Object-clause-sure : goal.returns-in-Object-clause-sure
returns-in-Object-clause-sure c =
    let d = c.args.w.now in
    let home = c.args.home in
    let h = c.requires.acts.holds in
    calls-getter d home c.performs.result (Resolve (names_of d) c.args.receiver) c.args.getter c.in-Object.function
    c.in-Object.is
    ((rw c.new-arguments.ensures at (c.performs.ensures.sure d))
    ((rw c.in-Object.is at h).1.0.within, (h.0.within, ((values-none d home).within, tt))))

pub returns-in-Object-clause-leaves : goal.returns-in-Object-clause-leaves
returns-in-Object-clause-leaves c =
    let d = c.args.w.now in
    let home = c.args.home in
    let h = c.requires.acts.holds in
    (rw c.new-arguments.ensures at (c.performs.ensures.leaves d))
    (value-object d home c.in-Object.function (rw c.in-Object.is at h).1.0, (h.0, (values-none d home, tt)))

pub returns-in_default : goal.returns-in_default
returns-in_default c =
    let d = c.args.w.now in
    let home = c.args.home in
    rw (no-callable d c.args.getter c.requires.getter c.in_default.not-Object)
    (record {
      sure = c.value.ensures.sure home d tt;
      leaves = c.value.ensures.leaves home d (undefined-held d home, tt);
    })
